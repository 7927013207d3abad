use Rattle.std.proofs.Common.{rules}
use Rattle.paxos_packets.proofs.vote.put_all_in.Goals as goal

pub returns-clause-ok : goal.returns-clause-ok
returns-clause-ok g c = search rules
