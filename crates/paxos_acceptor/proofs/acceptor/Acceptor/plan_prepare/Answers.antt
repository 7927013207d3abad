use Rattle.std.proofs.Common.{rules}
use Rattle.paxos_acceptor.proofs.acceptor.Acceptor.plan_prepare.Goals as goal

pub returns : goal.returns
returns g c = search rules
