use Rattle.std.proofs.Common.{◌≡◌, ◌≤◌, []}
use Rattle.std.specs.Io.KnownBytes.{Consumes}
use Rattle.rtrb.specs.Ring.{sent, known_free, SameProducer}
use Rattle.client_listener.proofs.reading.hang.Given as goal

abbrev pub invariant-tries : goal.invariant-tries
invariant-tries g l = record {
  nothing_put : sent l.producer ≡ sent l.fn.producer;
  room : known_free l.fn.producer ≤ known_free l.producer;
  nothing_read : Consumes (g.R.Read.remaining l.fn.reader) (g.R.Read.remaining l.reader) [];
  same : SameProducer l.fn.producer l.producer;
}

abbrev pub decreases-tries : goal.decreases-tries
decreases-tries g l = l.turns
