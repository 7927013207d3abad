use Rattle.std.proofs.Common.{rules}
use Rattle.paxos_learner.proofs.hearing.Hearing.learned.Goals as goal

pub returns : goal.returns
returns g c = search rules
