use Rattle.std.proofs.Common.{rules}
use Rattle.paxos_acceptor.proofs.acceptor.Acceptor.make_room.Goals as goal

pub returns-clause-stands : goal.returns-clause-stands
returns-clause-stands g c = search rules
