use Rattle.std.proofs.Common.{rules}
use Rattle.paxos_packets.proofs.ballot.Ballot.is_below.Goals as goal

pub returns : goal.returns
returns c = search rules
