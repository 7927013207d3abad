use Rattle.std.proofs.Common.{◌≡◌, ◌<◌, ◌+◌, ◌^◌, Option, Some, List, refl, ap, sym, ◌∙◌, subst}
use Rattle.std.specs.Option.{option_or}
use Rattle.paxos_packets.specs.Snapshot.{Snapshot, floor_in}
use Rattle.paxos_packets.specs.declared.entry.Entry.{Entry}
use Rattle.paxos_packets.specs.declared.rows.Rows.{Rows}
use Rattle.paxos_learner.specs.Learned.{Begins}
use Rattle.paxos_learner.specs.Learner as learning
use Rattle.replica_machine.specs.Roll.{HasStandings, standings_from}
use Rattle.paxos_planning.proofs.Standing.{no_front}
use Rattle.paxos_planning.specs.Front.{IsFront}
use Rattle.paxos_planning.specs.Parts.{first_learned}
use Rattle.paxos_node.specs.Applying.{stands_at}
use Rattle.paxos_node.proofs.Adoption.{rests_at}
use Rattle.paxos_node.proofs.node.Node.commit.Goals as goal
use Rattle.paxos_node.proofs.node.Node.commit.Goals.{in-Some, in_default}

pub invariant_of-self : goal.invariant_of-self
invariant_of-self g c = elim c.match-change.branch [
  | in-Some w ↦
      let now : Some w.in-Some.snapshot ≡ c.adopt_in_room.new.self.rows.snapshot =
      sym (ap (λ (r : Rows g.row.B.Denot). r.snapshot) c.adopt_in_room.ensures.rows
      ∙ ap (λ (s : Option Snapshot). option_or s c.match-change.self-inside.acceptor.rows.snapshot) w.in-Some.is) in
      let low : w.in-Some.snapshot.floor + 0 < 2 ^ 40 =
      rests_at c.args.over c.args.change c.args.self.now.state w.in-Some.snapshot w.in-Some.is c.requires.within in
      rw w.self-inside-is (
        c.self.invariant.0,
        c.self.invariant.1,
        ap (λ (s : learning.State g.row.B.Denot). s.members) w.rest.ensures.learner ∙ c.self.invariant.2,
        ap (λ (s : learning.State g.row.B.Denot). s.learner.floor) w.rest.ensures.learner ∙ ap floor_in now,
        refl,
        subst (λ (s : Option Snapshot). HasStandings (stands_at s) w.rest.new.roll) now w.rest.ensures.roll,
        refl,
        subst (λ (s : Option Snapshot). floor_in s + 0 < 2 ^ 40) now low,
        no_front (floor_in c.adopt_in_room.new.self.rows.snapshot + 0) c.self.inside.proposer.state.proposer.role w.rest.new.pending.items,
        c.adopt_in_room.ensures.failed ∙ ap (λ n. n.acceptor.failed) w.self-inside-is ∙ c.self.invariant.9,
      )
  | in_default w ↦
      let log : List (Entry g.row.B.Denot) = first_learned c.self.inside.applied c.self.inside.learner.state.learner.learned in
      let now : c.self.inside.acceptor.rows.snapshot ≡ c.adopt_in_room.new.self.rows.snapshot =
      sym (ap (λ (r : Rows g.row.B.Denot). r.snapshot) c.adopt_in_room.ensures.rows
      ∙ ap (λ (s : Option Snapshot). option_or s c.match-change.self-inside.acceptor.rows.snapshot) w.in_default.is
      ∙ ap (λ n. n.acceptor.rows.snapshot) w.self-inside-is) in
      rw w.self-inside-is (
        c.self.invariant.0,
        c.self.invariant.1,
        c.self.invariant.2,
        c.self.invariant.3 ∙ ap floor_in now,
        c.self.invariant.4,
        subst (λ (s : Option Snapshot). HasStandings (standings_from (stands_at s) log) c.self.inside.roll) now c.self.invariant.5,
        subst (λ (s : Option Snapshot). Begins (floor_in s) log c.self.inside.learner.state.learner.learned) now c.self.invariant.6,
        subst (λ (s : Option Snapshot). floor_in s + c.self.inside.applied < 2 ^ 40) now c.self.invariant.7,
        subst
            (λ (s : Option Snapshot). IsFront c.self.inside.front (floor_in s + c.self.inside.applied) c.self.inside.proposer.state.proposer.role
            c.self.inside.pending.items) now c.self.invariant.8,
        c.adopt_in_room.ensures.failed ∙ ap (λ n. n.acceptor.failed) w.self-inside-is ∙ c.self.invariant.9,
      )
]
