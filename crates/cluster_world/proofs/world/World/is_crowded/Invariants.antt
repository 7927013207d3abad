use Rattle.std.proofs.Common.{◌≡◌}
use Rattle.cluster_world.specs.Rescue.{any_member, is_crowded}
use Rattle.cluster_world.specs.World.{node_at}
use Rattle.cluster_world.proofs.world.World.is_crowded.Given as goal

abbrev pub invariant-loop-below : goal.invariant-loop-below
invariant-loop-below g l = l.crowded ≡ any_member l.below (λ k. is_crowded (node_at l.self.nodes k))
