use Rattle.std.proofs.Common.{ℕ, List}
use Rattle.rtrb.specs.Ring.{sent, SameProducer}
use Rattle.client_listener.specs.declared.items.FromClient.{FromClient}
use Rattle.client_listener.specs.Items.{held_len}
use Rattle.client_listener.specs.Inlet.{Inflow, KeepsRoom}
use Rattle.client_listener.proofs.inlet.Inlet.put.Given as goal

abbrev pub invariant-items : goal.invariant-items
invariant-items l = record {
  inflow : (read : List ℕ) (before : List FromClient) → Inflow read before (sent l.fn.producer) l.fn.self
      → Inflow read before (sent l.producer) l.self;
  room : KeepsRoom l.fn.producer l.producer;
  same : SameProducer l.fn.producer l.producer;
}

abbrev pub decreases-items : goal.decreases-items
decreases-items l = held_len l.self.held
