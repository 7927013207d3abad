use Rattle.paxos_packets.proofs.Ascending.{ascends}
use Rattle.paxos_acceptor.proofs.GoingAhead.{votes_back}
use Rattle.paxos_acceptor.proofs.laws.votes_go_back.Goals as goal

pub returns : goal.returns
returns g c = λ votes held h k. votes_back votes held (ascends votes h) (ascends held k)
