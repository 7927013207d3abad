-- Three nodes that rest on snapshots.
use Rattle.std.specs.Prelude.{ℕ, Some, List, [], ◌∷◌}
use Rattle.paxos_packets.specs.Rows.{first_rows}
use Rattle.paxos_packets.specs.declared.rows.Rows.{Rows}
use Rattle.paxos_node.specs.Applying.{started}
use Rattle.cluster_world.specs.World.{World}

-- rows with a snapshot of this floor
abbrev pub rows_at : ℕ → Rows ℕ
rows_at floor = record (first_rows {B = ℕ}) { snapshot = Some (record { floor = floor; octets = [] }) }

-- a world in which each of three nodes has begun with such rows
abbrev pub at_floor : ℕ → World ℕ
at_floor floor =
    record {
      nodes = started 1 (rows_at floor) ∷ started 2 (rows_at floor) ∷ started 3 (rows_at floor) ∷ [];
      sent = [];
      made = [];
      applied = [];
      cuts = [];
    }
