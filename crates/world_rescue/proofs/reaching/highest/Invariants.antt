use Rattle.std.proofs.Common.{◌≡◌, drop}
use Rattle.std.specs.Prelude.{fold, map}
use Rattle.world_rescue.specs.Course.{seat_of}
use Rattle.world_rescue.specs.Reaching.{higher, highest}
use Rattle.world_rescue.proofs.reaching.highest.Given as goal

-- the rest gives what the whole gives
abbrev pub invariant-loop-helper : goal.invariant-loop-helper
invariant-loop-helper g l =
    fold (higher l.floor) l.found (map (λ h. seat_of h.now) (drop l.helper-index l.helpers)) ≡ highest l.floor (map (λ h. seat_of h.now) l.helpers)
