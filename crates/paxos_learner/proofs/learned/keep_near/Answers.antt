use Rattle.std.proofs.Common.{◌-◌, arith}
use Rattle.paxos_learner.proofs.Ahead.{has_near}
use Rattle.paxos_learner.proofs.learned.keep_near.Goals as goal

pub returns-clause-ok : goal.returns-clause-ok
returns-clause-ok g c =
    has_near c.args.floor c.args.slot (c.args.slot - c.args.floor - 1) c.loop-last.run.items c.loop-last.ahead.entries
    (omega (arith, c.requires.above)) (omega (arith, c.requires.above, c.loop-last-test.false, c.loop-last.invariant.3))
