-- Learned entries are applied in the order of slots, none skipped; and a node that is down, or that has just begun
-- (docs/CONSENSUS.md, "One node" and "Events").
use Rattle.std.specs.Prelude.{ℕ, suc, Bool, true, false, ◌&&◌, ◌||◌, ◌==◌, Option, Some, None, List, [], ◌∷◌, ◌++◌, filter, if◌then◌else◌}
use Rattle.paxos_packets.specs.declared.entry.Entry.{Entry}
use Rattle.paxos_packets.specs.declared.entry.Entry.TheVariants.{Noop, Boot, Lost, Item}
use Rattle.paxos_packets.specs.declared.rows.Rows.{Rows}
use Rattle.paxos_packets.specs.Snapshot.{Snapshot, floor_in}
use Rattle.paxos_proposer.specs.Proposer.{round_of, resting}
use Rattle.paxos_learner.specs.Learner.{unheard, run_from}
use Rattle.replica_machine.specs.declared.head.Head.{Head}
use Rattle.replica_machine.specs.declared.roll.Standing.{Standing}
use Rattle.replica_machine.specs.declared.roll.Standing.TheVariants.{Unknown}
use Rattle.replica_machine.specs.Roll.{takes_by, is_wanted_by, is_live, standing_after, standings_from}
use Rattle.replica_machine.specs.Snapshot.{head_at, standing_from_node}
use Rattle.paxos_planning.specs.Node.{NodeState, Plan, log_length}

-- where each node stands at the floor, by the head of the snapshot: all are unknown without one, or if the octets begin with no head
abbrev pub stands_by : Option Head → ℕ → Standing
stands_by None n = Unknown
stands_by (Some head) n = standing_from_node 1 n head.standings

abbrev pub stands_at : Option Snapshot → ℕ → Standing
stands_at None n = Unknown
stands_at (Some s) n = stands_by (head_at s.octets) n

abbrev pub base : {B : Type 0} → Rows B → ℕ → Standing
base rows = stands_at rows.snapshot

-- and after the node's log
abbrev pub standing_of : {B : Type 0} → NodeState B → ℕ → Standing
standing_of x = standings_from (base x.rows) x.applied

-- a node that has only its rows
abbrev pub down : {B : Type 0} → Rows B → NodeState B
down rows =
    record {
      rows = rows;
      up = false;
      proposer = resting 0;
      learner = unheard (floor_in rows.snapshot);
      applied = [];
      pending = [];
      taken = 0;
    }

-- a node that begins with these rows: its log is that of its snapshot
abbrev pub started : {B : Type 0} → ℕ → Rows B → NodeState B
started me rows =
    record {
      rows = rows;
      up = true;
      proposer = resting (round_of rows.promised);
      learner = unheard (floor_in rows.snapshot);
      applied = [];
      pending = Boot me rows.boot ∷ [];
      taken = 0;
    }

-- what its log settles is no longer pending
abbrev pub keep_wanted : {B : Type 0} → NodeState B → NodeState B
keep_wanted x = record x { pending = filter (is_wanted_by (standing_of x)) x.pending }

-- the entry is the next one of the log, and what it settles is no longer pending
abbrev pub note : {B : Type 0} → Entry B → Plan B → Plan B
note e o =
    record o {
      node = keep_wanted (record o.node { applied = o.node.applied ++ e ∷ [] });
      applied = o.applied ++ e ∷ [];
    }

-- it is the loss of this node in its present boot
abbrev pub is_own_lost : {B : Type 0} → ℕ → ℕ → Entry B → Bool
is_own_lost me boot Noop = false
is_own_lost me boot (Boot n b) = false
is_own_lost me boot (Lost n b) = (n == me) && (b == boot)
is_own_lost me boot (Item n b q t x) = false

abbrev pub ends : {B : Type 0} → ℕ → NodeState B → Entry B → Bool
ends me x e = is_own_lost me x.rows.boot e && takes_by (standing_of x) e

abbrev pub go_down : {B : Type 0} → Plan B → Plan B
go_down o = record o { node = down o.node.rows }

-- entries are applied one by one; a Lost of its present boot leaves the node down
abbrev pub apply_all : {B : Type 0} → ℕ → List (Entry B) → Plan B → Plan B
apply_all me [] o = o
apply_all me (e ∷ es) o = if ends me o.node e then go_down (note e o) else apply_all me es (note e o)

-- the learned entries of the next slots are applied
abbrev pub settle : {B : Type 0} → ℕ → Plan B → Plan B
settle me o = apply_all me (run_from (suc (log_length o.node)) o.node.learner.learned) o

-- the same, stated by the node's standing: whether an entry is the loss of its boot, after how many of the entries that is so, and whether
-- one of them is that loss
abbrev pub ends_boot : {B : Type 0} → ℕ → ℕ → Standing → Entry B → Bool
ends_boot me boot s e = is_own_lost me boot e && is_live s boot

abbrev pub count_to_end : {B : Type 0} → ℕ → ℕ → Standing → List (Entry B) → ℕ
count_to_end me boot s [] = 0
count_to_end me boot s (e ∷ es) = if ends_boot me boot s e then 1 else suc (count_to_end me boot (standing_after me s e) es)

abbrev pub has_end : {B : Type 0} → ℕ → ℕ → Standing → List (Entry B) → Bool
has_end me boot s [] = false
has_end me boot s (e ∷ es) = ends_boot me boot s e || has_end me boot (standing_after me s e) es
