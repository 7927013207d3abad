use Rattle.std.proofs.Common.{rules}
use Rattle.paxos_learner.proofs.hearing.Hearing.run_after.Goals as goal

pub returns-clause-run : goal.returns-clause-run
returns-clause-run g c = search rules
