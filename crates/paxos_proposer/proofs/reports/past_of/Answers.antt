use Rattle.std.proofs.Common.{arith}
use Rattle.paxos_proposer.proofs.Reporting.{past_promise}
use Rattle.paxos_proposer.proofs.reports.past_of.Goals as goal

pub loop-promise-preserved : goal.loop-promise-preserved
loop-promise-preserved g c = (
  rw (c.past_in-past.ensures.past, c.as_slice.ensures.votes) (past_promise c.loop-promise.promise-index c.loop-promise.past _ c.promise-item.result
      c.args.promises.now c.loop-promise-test.true c.promise-item.is c.loop-promise.invariant.0),
  omega arith,
  omega arith,
)
