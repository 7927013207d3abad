use Rattle.std.proofs.Common.{◌≡◌, drop}
use Rattle.world_rescue.specs.Casting.{put_each_from}
use Rattle.world_rescue.proofs.visits.votes_then.Given as goal

-- the rest gives what the whole gives
abbrev pub invariant-loop-vote : goal.invariant-loop-vote
invariant-loop-vote g l =
    put_each_from l.first (drop l.vote-index l.cast) l.votes ≡ put_each_from l.first l.cast l.initial.votes
