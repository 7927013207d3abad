use Rattle.std.proofs.Common.{◌≤◌, ℕ, List, Option}
use Rattle.rtrb.specs.Ring.{sent, known_free, SameProducer}
use Rattle.client_listener.specs.declared.items.FromClient.{FromClient}
use Rattle.client_listener.specs.ReadingSteps.{Underway}
use Rattle.client_listener.proofs.reading.put_all.Given as goal

abbrev pub invariant-tries : goal.invariant-tries
invariant-tries g l = record {
  underway : (most free : ℕ) (start : Option (List ℕ)) (before : List FromClient)
      → Underway most free start before (g.R.Read.remaining l.fn.reader) (sent l.fn.producer) (known_free l.fn.producer) l.fn.turns l.fn.intake
      → Underway most free start before (g.R.Read.remaining l.reader) (sent l.producer) (known_free l.producer) l.turns l.intake;
  fewer : l.turns ≤ l.fn.turns;
  same : SameProducer l.fn.producer l.producer;
}

abbrev pub decreases-tries : goal.decreases-tries
decreases-tries g l = l.turns
