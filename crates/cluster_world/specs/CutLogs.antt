-- What was cut, in every world: each snapshot stands for the log that it was made from, and so does a node's for its log up to the floor
-- (docs/CONSENSUS.md, "What holds over every list of events").
use Rattle.std.specs.Prelude.{◌≡◌, ℕ, suc, ◌≤◌, Bool, true, Some, List, length, slice_get}
use Rattle.paxos_packets.specs.Snapshot as taken
use Rattle.paxos_packets.specs.declared.entry.Entry.{Entry}
use Rattle.paxos_packets.specs.declared.packet.Kind.TheVariants.{Snapshot}
use Rattle.replica_machine.specs.Given.{AreGiven}
use Rattle.replica_machine.specs.Roll.{standing}
use Rattle.paxos_node.specs.declared.event.Event.{Event}
use Rattle.paxos_node.specs.Applying.{stands_at, standing_of}
use Rattle.paxos_planning.specs.Node.{log_length}
use Rattle.cluster_world.specs.Chosen.{WasSent, Chosen}
use Rattle.cluster_world.specs.Has.{Has}
use Rattle.cluster_world.specs.World.{Cut, World, node_at, under, log_of, played}

-- the snapshot stands for the log: it is as long, each entry is chosen in its slot, is one of nodes 1 to 7 with a boot and numbers from 1 on, and
-- its head tells where the nodes stand after it
pub record IsOfLog {B : Type 0} (members : ℕ) (w : World B) (s : taken.Snapshot) (log : List (Entry B)) : Type 0 where
  pub long : length log ≡ s.floor
  pub chosen : (i : ℕ) (e : Entry B) → slice_get log i ≡ Some e → Chosen members w.sent (suc i) e
  pub given : AreGiven log
  pub stands : (k : ℕ) → stands_at (Some s) k ≡ standing k log

-- each cut
abbrev pub CutsAreLogs : (B : Type 0) → (B → B → Bool) → Type 0
CutsAreLogs B same =
    (members : ℕ) → 3 ≤ members → members ≤ 7 → (events : List (Event B)) (c : Cut B) → Has (played same members events).cuts c →
    IsOfLog members (played same members events) c.snapshot c.log

-- the snapshot of each node
abbrev pub NodesRestOnLogs : (B : Type 0) → (B → B → Bool) → Type 0
NodesRestOnLogs B same =
    (members : ℕ) → 3 ≤ members → members ≤ 7 → (events : List (Event B)) (k : ℕ) (s : taken.Snapshot) →
    (node_at (played same members events).nodes k).rows.snapshot ≡ Some s →
    IsOfLog members (played same members events) s (under (played same members events).cuts (Some s))

-- and that of each packet
abbrev pub PacketsBringLogs : (B : Type 0) → (B → B → Bool) → Type 0
PacketsBringLogs B same =
    (members : ℕ) → 3 ≤ members → members ≤ 7 → (events : List (Event B)) (k : ℕ) (s : taken.Snapshot) →
    WasSent (played same members events).sent k (Snapshot s) →
    IsOfLog members (played same members events) s (under (played same members events).cuts (Some s))

-- a node that is up has the length of its whole log, and stands where that says
pub record StandsByLog {B : Type 0} (w : World B) (k : ℕ) : Type 0 where
  pub long : log_length (node_at w.nodes k) ≡ length (log_of w k)
  pub stands : (j : ℕ) → standing_of (node_at w.nodes k) j ≡ standing j (log_of w k)

abbrev pub NodesStandByLogs : (B : Type 0) → (B → B → Bool) → Type 0
NodesStandByLogs B same =
    (members : ℕ) → 3 ≤ members → members ≤ 7 → (events : List (Event B)) (k : ℕ) → (node_at (played same members events).nodes k).up ≡ true →
    StandsByLog (played same members events) k
