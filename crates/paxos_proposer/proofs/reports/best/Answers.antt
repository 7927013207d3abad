use Rattle.std.proofs.Common.{option_copied}
use Rattle.paxos_proposer.proofs.Reporting.{best_next, best_last}
use Rattle.paxos_proposer.proofs.reports.best.Goals as goal

pub loop-promise-preserved : goal.loop-promise-preserved
loop-promise-preserved g c =
    rw c.greater-best.ensures (best_next c.args.slot c.loop-promise.promise-index (option_copied c.loop-promise.best) (option_copied c.vote_for.result)
    _ c.promise-item.result c.args.promises.now c.args.last.now c.loop-promise-test.true c.promise-item.is c.vote_for.ensures c.loop-promise.invariant)

pub returns : goal.returns
returns g c =
    rw c.greater.ensures (best_last c.args.slot c.loop-promise.promise-index (option_copied c.loop-promise.best) (option_copied c.vote_for-2.result) _
    c.args.promises.now c.args.last.now c.loop-promise-test.false c.vote_for-2.ensures c.loop-promise.invariant)
