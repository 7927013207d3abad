use Rattle.std.proofs.Common.{rules}
use Rattle.paxos_acceptor.proofs.acceptor.may_accept.Goals as goal

pub returns-in-Some : goal.returns-in-Some
returns-in-Some c = search rules
