use Rattle.std.proofs.Common.{◌≡◌, ◌-◌}
use Rattle.paxos_proposer.specs.Proposals.{stands_among}
use Rattle.paxos_proposer.specs.Reports.{called_in, called_for}
use Rattle.paxos_planning.specs.Walking.{entry_of, called_votes}
use Rattle.paxos_planning.proofs.walking.is_called.Given as goal

-- the rest gives the same result as the whole
abbrev pub invariant-loop-slot : goal.invariant-loop-slot
invariant-loop-slot g l =
    stands_among g.B.Body.same l.applied (entry_of l.wanted) (called_votes l.called.ballot l.slot (called_in l.called.votes l.slot (l.past - l.slot)))
    ≡ stands_among g.B.Body.same l.applied (entry_of l.wanted)
    (called_votes l.called.ballot l.called.first (called_for l.called.first l.called.votes))
