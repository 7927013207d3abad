use Rattle.std.proofs.Common.{◌≡◌}
use Rattle.std.specs.Prelude.{map}
use Rattle.cluster_world.specs.Helpers.{helpers_of}
use Rattle.cluster_world.proofs.world.World.helpers.Given as goal
use Rattle.world_rescue.specs.Course.{seat_of}

abbrev pub invariant-loop-below : goal.invariant-loop-below
invariant-loop-below g l = map (λ h. seat_of h.now) l.helpers.items ≡ helpers_of l.self.nodes l.node l.below
