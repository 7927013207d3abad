use Rattle.std.proofs.Common.{◌≡◌, max, drop}
use Rattle.paxos_planning.specs.Replies.{round_of_votes}
use Rattle.paxos_planning.proofs.replies.round_of_votes.Given as goal

-- with the rest's rounds it is the greatest of all
abbrev pub invariant-loop-vote : goal.invariant-loop-vote
invariant-loop-vote g l = max l.round (round_of_votes (drop l.vote-index l.votes)) ≡ round_of_votes l.votes
