use Rattle.std.proofs.Common.{◌≡◌, ◌≤◌}
use Rattle.paxos_packets.specs.Members.{count_nodes}
use Rattle.cluster_world.specs.World.{node_at}
use Rattle.cluster_world.proofs.world.World.has_majority.Given as goal

abbrev pub invariant-loop-below : goal.invariant-loop-below
invariant-loop-below g l = (l.count ≡ count_nodes (λ k. (node_at l.self.nodes k).up) l.below) × (l.count ≤ l.below)
