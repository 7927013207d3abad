-- The nodes that take part in a rescue beside the one that is rescued: all others that are up, by ascending number.
use Rattle.std.specs.Prelude.{ℕ, zero, suc, not, ◌||◌, ◌==◌, List, [], ◌∷◌, ◌++◌, if◌then◌else◌}
use Rattle.paxos_planning.specs.Node.{NodeState}
use Rattle.world_rescue.specs.Course.{Seat}
use Rattle.cluster_world.specs.World.{node_at}

abbrev pub seat_at : {B : Type 0} → List (NodeState B) → ℕ → Seat B
seat_at nodes n = record { number = n; node = node_at nodes n }

abbrev pub helper_at : {B : Type 0} → List (NodeState B) → ℕ → ℕ → List (Seat B)
helper_at nodes n k =
    if (k == n) || not (node_at nodes k).up then []
    else seat_at nodes k ∷ []

abbrev pub helpers_of : {B : Type 0} → List (NodeState B) → ℕ → ℕ → List (Seat B)
helpers_of nodes n zero = []
helpers_of nodes n (suc k) = helpers_of nodes n k ++ helper_at nodes n (suc k)
