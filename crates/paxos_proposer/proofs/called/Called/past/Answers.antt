use Rattle.std.proofs.Common.{sym}
use Rattle.paxos_proposer.proofs.Reporting.{past_front}
use Rattle.paxos_proposer.specs.Reports.{reports}
use Rattle.paxos_proposer.proofs.called.Called.past.Goals as goal

pub returns-clause-past : goal.returns-clause-past
returns-clause-past g c =
    rw (← c.self.view_is) (rw (c.past_in.ensures.past, c.as_slice.ensures.votes, c.past_of.ensures.past)
    (sym (past_front c.self.inside.first (reports c.self.inside.promises.now) c.self.inside.last.now)))
