use Rattle.paxos_packets.proofs.Ascending.{none_ascends}
use Rattle.paxos_packets.proofs.vote.Votes.new.Goals as goal

pub invariant_of-result : goal.invariant_of-result
invariant_of-result g c = rw c.new.ensures.items none_ascends
