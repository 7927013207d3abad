use Rattle.std.proofs.Common.{ℕ, List, Option}
use Rattle.rtrb.specs.Ring.{sent, known_free, SameProducer}
use Rattle.client_listener.specs.declared.items.FromClient.{FromClient}
use Rattle.client_listener.specs.ReadingSteps.{Underway}
use Rattle.client_listener.proofs.reading.put_stream.Given as goal

abbrev pub invariant-turns : goal.invariant-turns
invariant-turns g l = record {
  underway : (most free : ℕ) (start : Option (List ℕ)) (before : List FromClient)
      → Underway most free start before (g.R.Read.remaining l.fn.reader) (sent l.fn.producer) (known_free l.fn.producer) l.fn.turns l.fn.intake
      → Underway most free start before (g.R.Read.remaining l.reader) (sent l.producer) (known_free l.producer) l.turns l.intake;
  same : SameProducer l.fn.producer l.producer;
}

abbrev pub decreases-turns : goal.decreases-turns
decreases-turns g l = l.turns
