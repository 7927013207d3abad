use Rattle.std.proofs.Common.{◌+◌, ◌∙◌, sym, arith}
use Rattle.paxos_learner.specs.Hearing.{after}
use Rattle.paxos_learner.proofs.Running.{within_past, within_over, within_more}
use Rattle.paxos_learner.proofs.hearing.learned_from.Goals as goal

pub returns-then-first-ge-SLOT_END-clause-learned : goal.returns-then-first-ge-SLOT_END-clause-learned
returns-then-first-ge-SLOT_END-clause-learned g c =
    c.new-told.ensures.items
    ∙ sym (within_past (after c.args.hearing.now).learner.floor c.args.first (c.args.first + 64) (after c.args.hearing.now).learner.learned c.if-first-ge-SLOT_END.true c.ascends.ensures)

pub loop-number-preserved : goal.loop-number-preserved
loop-number-preserved g c =
    within_more (after c.args.hearing.now).learner.floor c.loop-number.number (c.loop-number.number + 1) (c.args.first + 64) c.loop-number.told.items c.tell_one.new.told.items _
    (after c.args.hearing.now).learner.learned (omega arith) c.loop-number-test.true c.ascends.ensures c.in_ok-tell_one.ensures.ok
    c.loop-number.invariant

pub returns-clause-learned : goal.returns-clause-learned
returns-clause-learned g c =
    within_over c.loop-number.number (c.args.first + 64) c.loop-number.told.items _ (after c.args.hearing.now).learner.learned
    c.loop-number-test.false c.loop-number.invariant
