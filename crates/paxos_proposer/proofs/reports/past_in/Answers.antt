use Rattle.std.proofs.Common.{◌≡◌, ◌+◌, max, arith, rules}
use Rattle.paxos_proposer.proofs.Reporting.{past_next}
use Rattle.paxos_proposer.proofs.reports.past_in.Goals as goal

pub loop-vote-preserved : goal.loop-vote-preserved
loop-vote-preserved g c =
    let next : c.max-past.result ≡ max c.loop-vote.past (c.vote-item.result.slot + 1) = search rules in
    let high = c.get.ensures.most in (
      rw next (past_next c.loop-vote.vote-index c.loop-vote.past _ c.vote-item.result c.args.votes.now c.loop-vote-test.true c.vote-item.is
          c.loop-vote.invariant.0),
      omega arith,
      omega arith,
    )
