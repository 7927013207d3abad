use Rattle.std.proofs.Common.{◌≡◌, drop}
use Rattle.paxos_proposer.specs.Proposals.{stands_among}
use Rattle.paxos_proposer.proofs.proposals.stands_among.Given as goal

abbrev pub invariant-loop-vote : goal.invariant-loop-vote
invariant-loop-vote g l =
    stands_among g.B.Body.same l.applied l.entry (drop l.vote-index l.votes) ≡ stands_among g.B.Body.same l.applied l.entry l.votes
