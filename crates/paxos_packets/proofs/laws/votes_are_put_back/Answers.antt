use Rattle.paxos_packets.proofs.Ascending.{ascends}
use Rattle.paxos_packets.proofs.PuttingBack.{back_put}
use Rattle.paxos_packets.proofs.laws.votes_are_put_back.Goals as goal

pub returns : goal.returns
returns g c = λ v vs h. back_put v vs (ascends vs h)
