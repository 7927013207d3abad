use Rattle.std.proofs.Common.{◌≡◌, drop}
use Rattle.paxos_proposer.specs.Proposals.{stands_among}
use Rattle.paxos_planning.specs.Walking.{entry_of}
use Rattle.paxos_planning.proofs.walking.stands.Given as goal

-- the rest gives the same result as the whole
abbrev pub invariant-loop-vote : goal.invariant-loop-vote
invariant-loop-vote g l =
    stands_among g.B.Body.same l.applied (entry_of l.wanted) (drop l.vote-index l.proposed)
    ≡ stands_among g.B.Body.same l.applied (entry_of l.wanted) l.proposed
