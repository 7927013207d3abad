use Rattle.std.proofs.Common.{rules}
use Rattle.paxos_proposer.proofs.reports.called_in.Goals as goal

pub returns-in-Some-best : goal.returns-in-Some-best
returns-in-Some-best g c = search rules
