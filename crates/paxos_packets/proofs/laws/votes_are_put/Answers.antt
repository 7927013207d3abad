use Rattle.paxos_packets.proofs.Ascending.{ascends, ascending}
use Rattle.paxos_packets.proofs.Placing.{vote_in-put, put_ascending}
use Rattle.paxos_packets.proofs.laws.votes_are_put.Goals as goal

pub returns : goal.returns
returns g c = record { found = vote_in-put; ascending = λ v vs h. ascending _ (put_ascending v vs (ascends vs h)) }
