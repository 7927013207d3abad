use Rattle.world_rescue.proofs.Ending.{goes_on, ends_here, ends_not, rolls_over}
use Rattle.world_rescue.proofs.falling.falls.Goals as goal

pub loop-vote-preserved : goal.loop-vote-preserved
loop-vote-preserved g c = λ stands is.
    goes_on c.args.node c.args.boot c.loop-vote.roll c.take-took.new.self c.args.votes.now c.loop-vote.vote-index c.vote-item.result stands
    c.loop-vote-test.true c.vote-item.is c.if-ends.ensures c.take-took.ensures.standings (c.loop-vote.invariant stands is)

pub returns-then-ends-clause-ended : goal.returns-then-ends-clause-ended
returns-then-ends-clause-ended g c = λ stands is.
    ends_here c.args.node c.args.boot c.loop-vote.roll c.args.votes.now c.loop-vote.vote-index c.vote-item.result stands c.loop-vote-test.true
    c.vote-item.is c.if-ends.ensures (c.loop-vote.invariant stands is)

pub returns-clause-ended : goal.returns-clause-ended
returns-clause-ended g c = λ stands is.
    ends_not c.args.node c.args.boot c.loop-vote.roll c.args.votes.now c.loop-vote.vote-index stands c.loop-vote-test.false (c.loop-vote.invariant stands is)

pub returns-clause-roll : goal.returns-clause-roll
returns-clause-roll g c = λ stands is.
    rolls_over c.args.node c.args.boot c.loop-vote.roll c.args.votes.now c.loop-vote.vote-index stands c.loop-vote-test.false
    (c.loop-vote.invariant stands is)
