use Rattle.std.proofs.Common.{◌≡◌, ◌++◌, drop}
use Rattle.std.specs.Prelude.{map}
use Rattle.world_rescue.specs.Course.{seat_of, pass}
use Rattle.world_rescue.proofs.visits.pass.Given as goal

-- the rest gives what the whole gives
abbrev pub invariant-loop-vote : goal.invariant-loop-vote
invariant-loop-vote g l =
    l.events.items ++ pass l.node (map (λ h. seat_of h.now) l.helpers) (drop l.vote-index l.votes)
    ≡ l.initial.events.items ++ pass l.node (map (λ h. seat_of h.now) l.helpers) l.votes
