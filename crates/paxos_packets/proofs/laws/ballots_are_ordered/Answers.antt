use Rattle.paxos_packets.proofs.Order.{irreflexive, transitive, total}
use Rattle.paxos_packets.proofs.laws.ballots_are_ordered.Goals as goal

pub returns : goal.returns
returns c = record { irreflexive = irreflexive; transitive = transitive; total = total }
