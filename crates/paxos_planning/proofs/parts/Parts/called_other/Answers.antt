use Rattle.std.proofs.Common.{Bool, ◌+◌, ◌-◌, ◌||◌, ap, sym, ◌∙◌}
use Rattle.paxos_proposer.specs.Reports.{called_in}
use Rattle.paxos_planning.specs.Walking.{called_other}
use Rattle.paxos_planning.proofs.OwnVotes.{other_step}
use Rattle.paxos_planning.proofs.parts.Parts.called_other.Goals as goal

pub returns-then-differs_at : goal.returns-then-differs_at
returns-then-differs_at g c =
    let w = c.args.self.now in
    let called = c.args.called.now in
    let slot = c.loop-slot.slot in
    let rest = called_other g.B.Body.same w.members w.me called.ballot w.state.learner (slot + 1) (called_in called.votes (slot + 1) (c.past-past.result - (slot + 1))) in
    ap (λ (t : Bool). t || rest) c.if-differs_at.ensures
    ∙ sym (other_step called.votes g.B.Body.same w.members w.me called.ballot w.state.learner slot c.past-past.result c.loop-slot-test.true)
    ∙ c.loop-slot.invariant

pub loop-slot-preserved : goal.loop-slot-preserved
loop-slot-preserved g c =
    let w = c.args.self.now in
    let called = c.args.called.now in
    let slot = c.loop-slot.slot in
    let rest = called_other g.B.Body.same w.members w.me called.ballot w.state.learner (slot + 1) (called_in called.votes (slot + 1) (c.past-past.result - (slot + 1))) in
    ap (λ (t : Bool). t || rest) c.if-differs_at.ensures
    ∙ sym (other_step called.votes g.B.Body.same w.members w.me called.ballot w.state.learner slot c.past-past.result c.loop-slot-test.true)
    ∙ c.loop-slot.invariant
