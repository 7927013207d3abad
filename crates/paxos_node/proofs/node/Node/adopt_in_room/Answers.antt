use Rattle.std.proofs.Common.{◌≤◌, ◌<◌, ◌+◌, ◌^◌, List, ap, sym, ◌∙◌, subst, length, arith}
use Rattle.paxos_packets.specs.declared.entry.Entry.{Entry}
use Rattle.paxos_planning.specs.Node.{NodeState, log_length}
use Rattle.paxos_node.specs.Applying.{down}
use Rattle.paxos_node.specs.Held.{CanGoOn}
use Rattle.paxos_node.specs.Moved.{Moved}
use Rattle.paxos_node.specs.Adopting.{rested, committed, moved_on}
use Rattle.paxos_node.proofs.Adoption.{up_adopts, down_adopts, moves_on, goes_with}
use Rattle.paxos_node.proofs.node.Node.adopt_in_room.Goals as goal

pub commit-requires-clause-votes : goal.commit-requires-clause-votes
commit-requires-clause-votes g c = c.requires.room.votes

pub commit-requires-clause-rises : goal.commit-requires-clause-rises
commit-requires-clause-rises g c =
    subst (λ (m : Moved g.row.B.Denot). c.args.self.now.state.learner.floor
    ≤ (rested m.over c.args.outcome.change.snapshot c.args.self.now.state).learner.floor) (sym c.moves.view_is) c.requires.fits.rises

pub commit-requires-clause-within : goal.commit-requires-clause-within
commit-requires-clause-within g c =
    let within : log_length (rested c.moves.inside.over c.args.outcome.change.snapshot c.args.self.now.state) + length c.args.outcome.applied < 2 ^ 40 =
    subst (λ (m : Moved g.row.B.Denot). log_length (rested m.over c.args.outcome.change.snapshot c.args.self.now.state) + length c.args.outcome.applied < 2 ^ 40)
    (sym c.moves.view_is) c.requires.fits.within in
    omega (arith, within)

pub go_on-requires : goal.go_on-requires
go_on-requires g c =
    subst (λ (es : List (Entry g.row.B.Denot)). CanGoOn c.args.outcome.moves es c.commit.new.self) (sym c.as_slice.ensures)
    (goes_with c.args.outcome c.args.self.now.state c.args.self.now.me c.args.self.now.members c.args.self.now.room c.args.self.now.failed c.requires.room
    c.requires.fits c.commit.new.self c.commit.ensures.me c.commit.ensures.members
    (c.commit.ensures.state ∙ ap (λ (m : Moved g.row.B.Denot). committed m.over c.args.outcome.change c.args.self.now.state) c.moves.view_is)
    c.commit.ensures.proposer c.commit.ensures.votes c.commit.ensures.places c.commit.ensures.pending)

pub returns-then-is_down-clause-state : goal.returns-then-is_down-clause-state
returns-then-is_down-clause-state g c =
    c.go_down.ensures.state ∙ ap (λ (x : NodeState g.row.B.Denot). down x.rows) c.commit.ensures.state
    ∙ down_adopts c.args.self.now.me c.args.self.now.members c.args.outcome c.args.self.now.state c.if-is_down.true

pub returns-clause-state : goal.returns-clause-state
returns-clause-state g c =
    c.go_on.ensures.state
    ∙ (λ i. moved_on (c.commit.ensures.me i) (c.commit.ensures.members i) c.args.outcome.moves (c.as_slice.ensures i)
    ((c.commit.ensures.state ∙ ap (λ (m : Moved g.row.B.Denot). committed m.over c.args.outcome.change c.args.self.now.state) c.moves.view_is) i))
    ∙ moves_on c.args.outcome c.args.self.now.state c.args.self.now.me c.args.self.now.members
    ∙ up_adopts c.args.self.now.me c.args.self.now.members c.args.outcome c.args.self.now.state c.if-is_down.false
