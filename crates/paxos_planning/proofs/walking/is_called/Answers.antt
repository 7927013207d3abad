use Rattle.std.proofs.Common.{◌<◌, Bool, ◌+◌, ◌-◌, ◌^◌, ◌||◌, ap, sym, ◌∙◌, rules}
use Rattle.paxos_proposer.specs.Proposals.{stands_among}
use Rattle.paxos_proposer.specs.Proposer.{slot_end}
use Rattle.paxos_proposer.specs.Reports.{called_in}
use Rattle.paxos_planning.specs.Walking.{entry_of, called_votes}
use Rattle.paxos_planning.proofs.OwnVotes.{called_step}
use Rattle.paxos_planning.proofs.walking.is_called.Goals as goal

pub returns-then-is_called_in : goal.returns-then-is_called_in
unfolding slot_end
returns-then-is_called_in g c =
    let called = c.args.called.now in
    let slot = c.loop-slot.slot in
    let e = entry_of c.args.wanted.now in
    let left : c.loop-slot.slot < 2 ^ 40 = search rules in
    let rest = stands_among g.B.Body.same c.args.applied e (called_votes called.ballot (slot + 1) (called_in called.votes (slot + 1) (c.past-past.result - (slot + 1)))) in
    ap (λ (t : Bool). t || rest) c.if-is_called_in.ensures
    ∙ sym (called_step called.votes g.B.Body.same called.ballot slot c.past-past.result c.args.applied e c.loop-slot-test.true left)
    ∙ c.loop-slot.invariant

pub loop-slot-preserved : goal.loop-slot-preserved
unfolding slot_end
loop-slot-preserved g c =
    let called = c.args.called.now in
    let slot = c.loop-slot.slot in
    let e = entry_of c.args.wanted.now in
    let left : c.loop-slot.slot < 2 ^ 40 = search rules in
    let rest = stands_among g.B.Body.same c.args.applied e (called_votes called.ballot (slot + 1) (called_in called.votes (slot + 1) (c.past-past.result - (slot + 1)))) in
    ap (λ (t : Bool). t || rest) c.if-is_called_in.ensures
    ∙ sym (called_step called.votes g.B.Body.same called.ballot slot c.past-past.result c.args.applied e c.loop-slot-test.true left)
    ∙ c.loop-slot.invariant
