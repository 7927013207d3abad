-- Snapshots at a node: when octets are a snapshot of it, and what it becomes that rests on one, its own or one that came in a packet
-- (docs/CONSENSUS.md, "Snapshots").
use Rattle.std.specs.Prelude.{ℕ, Bool, true, false, not, ◌&&◌, ◌==◌, nat_lt, nat_le, Option, Some, None, is_none, []}
use Rattle.std.specs.Prelude.{length, if◌then◌else◌}
use Rattle.std.specs.Cmp.Lexicographic.{pointwise}
use Rattle.paxos_packets.specs.Snapshot.{Snapshot}
use Rattle.paxos_packets.specs.declared.packet.Kind.{Kind}
use Rattle.paxos_packets.specs.declared.packet.Kind.TheVariants.{Snapshot as Shown}
use Rattle.paxos_acceptor.specs.Acceptor.{with_snapshot}
use Rattle.paxos_proposer.specs.Proposer.{raised_above}
use Rattle.paxos_learner.specs.Learner.{forget}
use Rattle.replica_machine.specs.declared.head.Head.{Head}
use Rattle.replica_machine.specs.declared.roll.Standing.{Standing}
use Rattle.replica_machine.specs.declared.roll.Standing.TheVariants.{Unknown, Live, Gone}
use Rattle.replica_machine.specs.Snapshot.{head_at, standing_from_node}
pub use Rattle.replica_machine.specs.Snapshot.{seven_of}
use Rattle.paxos_planning.specs.Node.{NodeState, Plan, log_length}
use Rattle.paxos_node.specs.Applying.{standing_of, keep_wanted}

abbrev pub same_standing : Standing → Standing → Bool
same_standing Unknown Unknown = true
same_standing (Live b taken) (Live c more) = (b == c) && (taken == more)
same_standing (Gone b) (Gone c) = b == c
same_standing _ _ = false

-- the head is that of the node's log: its length, and where each node stands after it
abbrev pub is_head_of : {B : Type 0} → NodeState B → Option Head → Bool
is_head_of x None = false
is_head_of x (Some head) = (head.floor == log_length x) && pointwise same_standing head.standings (seven_of (standing_of x))

-- a node cuts if it has applied entries above its floor, and this is a snapshot of its log
abbrev pub may_cut : {B : Type 0} → Option Snapshot → NodeState B → Bool
may_cut None x = false
may_cut (Some s) x = nat_lt 0 (length x.applied) && ((s.floor == log_length x) && is_head_of x (head_at s.octets))

-- the node whose log the snapshot gives up to its floor: it forgets votes, entries and proposals up to there, and a leader proposes above it
abbrev pub resting_on : {B : Type 0} → Snapshot → NodeState B → NodeState B
resting_on s x =
    record x {
      rows = with_snapshot s x.rows;
      proposer = record { role = raised_above s.floor x.proposer.role; seen = x.proposer.seen };
      learner = forget s.floor x.learner;
      applied = [];
    }

-- what the log of another's snapshot settles is no longer pending
abbrev pub settled_if : {B : Type 0} → Bool → NodeState B → NodeState B
settled_if over x = if over then keep_wanted x else x

-- the node rests on the snapshot, its own or another's, which is committed
abbrev pub rest_on : {B : Type 0} → Bool → Snapshot → Plan B → Plan B
rest_on over s o = record o { node = settled_if over (resting_on s o.node); change = record o.change { snapshot = Some s } }

-- Cut: the node rests on a snapshot of its own log
abbrev pub on_cut : {B : Type 0} → Option Snapshot → Plan B → Plan B
on_cut None o = o
on_cut (Some s) o = rest_on false s o

-- the greatest boot of a node with this standing, or 0 for none
abbrev pub boot_in : Standing → ℕ
boot_in Unknown = 0
boot_in (Live boot taken) = boot
boot_in (Gone boot) = boot

-- the head has the node's boot, or a later one
abbrev pub has_boot : {B : Type 0} → ℕ → NodeState B → Head → Bool
has_boot me x head = nat_le x.rows.boot (boot_in (standing_from_node 1 me head.standings))

-- another's snapshot, whose head is this: the node rests on it, unless it has the node's present boot. Octets that begin with no head
-- disagree with the log
abbrev pub take_in : {B : Type 0} → ℕ → Snapshot → Option Head → Plan B → Plan B
take_in me s None o = record o { disagrees = true }
take_in me s (Some head) o = if has_boot me o.node head then o else rest_on true s o

-- a snapshot that comes in a packet: one that gives no more than the node's log changes nothing
abbrev pub on_snapshot : {B : Type 0} → ℕ → Snapshot → Plan B → Plan B
on_snapshot me s o = if nat_le s.floor (log_length o.node) then o else take_in me s (head_at s.octets) o

-- its head, if it has one, does not have the node's present boot
abbrev pub lacks_boot : {B : Type 0} → ℕ → NodeState B → Option Head → Bool
lacks_boot me x None = true
lacks_boot me x (Some head) = not (has_boot me x head)

-- it is new: it gives more, and does not have the node's present boot
abbrev pub is_new : {B : Type 0} → ℕ → Snapshot → NodeState B → Bool
is_new me s x = not (nat_le s.floor (log_length x)) && lacks_boot me x (head_at s.octets)

-- the snapshot of a packet, if it is new
abbrev pub new_snapshot : {B : Type 0} → ℕ → Kind B → NodeState B → Option Snapshot
new_snapshot me (Shown s) x = if is_new me s x then Some s else None
new_snapshot me _ x = None

-- it gives more, and its octets begin with no head
abbrev pub is_damaged : {B : Type 0} → Snapshot → NodeState B → Bool
is_damaged s x = not (nat_le s.floor (log_length x)) && is_none (head_at s.octets)
