use Rattle.std.proofs.Common.{ℕ, ◌+◌, sym, subst}
use Rattle.paxos_packets.specs.Snapshot.{floor_in}
use Rattle.paxos_planning.specs.Front.{IsFront}
use Rattle.paxos_planning.specs.Node.{log_length}
use Rattle.paxos_node.specs.Held.{Held}
use Rattle.paxos_node.proofs.node.Node.front.Goals as goal

pub returns : goal.returns
returns g c =
    subst (λ (h : Held g.row.B.Denot). IsFront c.self.inside.front (log_length h.state) h.state.proposer.role h.state.pending) c.self.view_is
    (subst (λ (n : ℕ). IsFront c.self.inside.front (floor_in c.self.inside.acceptor.rows.snapshot + n) c.self.inside.proposer.state.proposer.role
    c.self.inside.pending.items) (sym c.self.invariant.4) c.self.invariant.8)
