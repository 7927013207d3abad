use Rattle.paxos_proposer.proofs.NextBallot.{next_ballot, next_spent}
use Rattle.paxos_proposer.proofs.laws.seen_promises_add_nothing.Goals as goal

pub returns : goal.returns
returns g c = record { ballot = next_ballot; rounds = next_spent }
