use Rattle.world_rescue.proofs.Ending.{goes_in, ends_in, ends_not_in}
use Rattle.world_rescue.proofs.falling.falls_in.Goals as goal

pub loop-entry-preserved : goal.loop-entry-preserved
loop-entry-preserved g c = λ stands is.
    goes_in c.args.node c.args.boot c.loop-entry.roll c.take-took.new.self c.args.entries.now c.loop-entry.entry-index c.entry-item.result stands
    c.loop-entry-test.true c.entry-item.is c.if-ends.ensures c.take-took.ensures.standings (c.loop-entry.invariant stands is)

pub returns-then-ends : goal.returns-then-ends
returns-then-ends g c = λ stands is.
    ends_in c.args.node c.args.boot c.loop-entry.roll c.args.entries.now c.loop-entry.entry-index c.entry-item.result stands c.loop-entry-test.true
    c.entry-item.is c.if-ends.ensures (c.loop-entry.invariant stands is)

pub returns : goal.returns
returns g c = λ stands is.
    ends_not_in c.args.node c.args.boot c.loop-entry.roll c.args.entries.now c.loop-entry.entry-index stands c.loop-entry-test.false
    (c.loop-entry.invariant stands is)
