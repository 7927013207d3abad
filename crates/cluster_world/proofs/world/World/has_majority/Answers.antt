use Rattle.cluster_world.proofs.Refusing.{count_on}
use Rattle.cluster_world.specs.World.{node_at}
use Rattle.cluster_world.proofs.world.World.has_majority.Goals as goal

pub loop-below-preserved : goal.loop-below-preserved
loop-below-preserved g c =
    count_on (λ k. (node_at c.args.self.now.nodes k).up) c.loop-below.below c.loop-below.count c.count_with-count.result c.loop-below.invariant.0
    c.loop-below.invariant.1 c.count_with-count.ensures
