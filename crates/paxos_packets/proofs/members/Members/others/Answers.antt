use Rattle.std.proofs.Common.{rules}
use Rattle.paxos_packets.proofs.members.Members.others.Goals as goal

pub loop-below-preserved : goal.loop-below-preserved
loop-below-preserved c = search rules
