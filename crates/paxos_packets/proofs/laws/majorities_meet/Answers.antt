use Rattle.paxos_packets.proofs.Meeting.{common_member}
use Rattle.paxos_packets.proofs.laws.majorities_meet.Goals as goal

pub returns : goal.returns
returns c = common_member
