use Rattle.std.proofs.Common.{◌≡◌, ◌++◌, drop}
use Rattle.std.specs.Prelude.{map}
use Rattle.std.specs.List.{flat_map}
use Rattle.world_rescue.specs.Course.{seat_of, cast_by}
use Rattle.world_rescue.proofs.visits.cast_by_all.Given as goal

-- the rest gives what the whole gives
abbrev pub invariant-loop-helper : goal.invariant-loop-helper
invariant-loop-helper g l =
    l.events.items ++ flat_map (cast_by l.node l.vote) (map (λ h. seat_of h.now) (drop l.helper-index l.helpers))
    ≡ l.initial.events.items ++ flat_map (cast_by l.node l.vote) (map (λ h. seat_of h.now) l.helpers)
