use Rattle.paxos_packets.proofs.Ascending.{ascends}
use Rattle.paxos_acceptor.proofs.Adding.{adds_up, put_sum}
use Rattle.paxos_acceptor.proofs.laws.changes_add_up.Goals as goal

pub returns-clause-votes : goal.returns-clause-votes
returns-clause-votes g c = λ new old held h. put_sum new old held (ascends old h)

pub returns-clause-changes : goal.returns-clause-changes
returns-clause-changes g c = λ rows a b h none. adds_up rows a b (ascends a.votes h) none
