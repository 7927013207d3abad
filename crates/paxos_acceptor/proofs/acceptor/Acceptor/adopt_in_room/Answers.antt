use Rattle.std.proofs.Common.{rules}
use Rattle.paxos_acceptor.proofs.acceptor.Acceptor.adopt_in_room.Goals as goal

pub returns-then-is_some-clause-rows : goal.returns-then-is_some-clause-rows
returns-then-is_some-clause-rows g c = search rules
