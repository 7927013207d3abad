use Rattle.std.proofs.Common.{◌+◌, ◌<◌, ◌^◌, ℕ, false, Option, [], refl, ap, ◌∙◌, subst, arith}
use Rattle.paxos_packets.specs.Snapshot.{Snapshot, floor_in}
use Rattle.paxos_proposer.specs.State as proposing
use Rattle.paxos_learner.specs.Learner as learning
use Rattle.replica_machine.specs.Roll.{HasStandings}
use Rattle.paxos_planning.proofs.Standing.{no_front}
use Rattle.paxos_node.specs.Applying.{stands_at, down}
use Rattle.paxos_node.specs.Held.{Held}
use Rattle.paxos_node.proofs.node.Node.go_down.Goals as goal

pub invariant_of-self : goal.invariant_of-self
invariant_of-self g c =
    let within : floor_in c.self.inside.acceptor.rows.snapshot + c.self.inside.applied < 2 ^ 40 = c.self.invariant.7 in
    let less : floor_in c.self.inside.acceptor.rows.snapshot + 0 < 2 ^ 40 = omega arith in (
      ap (λ (s : proposing.State g.row.B.Denot). s.me) c.new.ensures,
      ap (λ (s : proposing.State g.row.B.Denot). s.members) c.new.ensures,
      ap (λ (s : learning.State g.row.B.Denot). s.members) c.new-2.ensures,
      ap (λ (s : learning.State g.row.B.Denot). s.learner.floor) c.new-2.ensures ∙ c.floor.ensures,
      refl,
      subst (λ (s : Option Snapshot). HasStandings (stands_at s) c.roll_at.result) c.snapshot.ensures c.roll_at.ensures,
      refl,
      less,
      no_front (floor_in c.self.inside.acceptor.rows.snapshot + 0) c.new.result.state.proposer.role c.clear.new.self.items,
      c.self.invariant.9,
    )

pub returns-clause-state : goal.returns-clause-state
returns-clause-state g c =
    (λ i. record {
      rows = c.self.inside.acceptor.rows;
      up = false;
      proposer = (c.new.ensures i).proposer;
      learner = ((c.new-2.ensures ∙ ap (λ (n : ℕ). learning.begun c.self.inside.members n) c.floor.ensures) i).learner;
      applied = [];
      pending = c.clear.ensures.items i;
      taken = 0;
    }) ∙ ap (λ (h : Held g.row.B.Denot). down h.state.rows) c.self.view_is
