use Rattle.std.proofs.Common.{◌≡◌, ◌-◌, suc, length}
use Rattle.rtrb.specs.Ring.{received, SameConsumer}
use Rattle.client_listener.specs.Writing.{most_waiting}
use Rattle.client_listener.specs.Gathering.{KeepsKnown}
use Rattle.client_listener.proofs.Gathering.{Gathered}
use Rattle.client_listener.proofs.outbox.Outbox.gather.Given as goal

abbrev pub invariant-items : goal.invariant-items
invariant-items g l = record {
  gathered : Gathered g.P.Protocol.allows l.fn.self.limit (received l.fn.consumer) (received l.consumer) l.fn.self.octets l.self.octets;
  known : KeepsKnown l.fn.consumer l.consumer;
  limit : l.self.limit ≡ l.fn.self.limit;
  same : SameConsumer l.fn.consumer l.consumer;
}

abbrev pub decreases-items : goal.decreases-items
decreases-items g l = suc most_waiting - length l.self.octets
