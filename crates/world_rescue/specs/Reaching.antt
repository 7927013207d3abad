-- How a rescue makes its node level: while another's floor is above the node's log, the node cannot learn the log entry by entry, so it asks
-- for that one's snapshot (docs/CONSENSUS.md, "No dead end").
use Rattle.std.specs.Prelude.{ℕ, suc, Bool, ◌||◌, nat_lt, nat_le, Option, Some, None, List, [], ◌∷◌, ◌++◌, fold, filter, if◌then◌else◌}
use Rattle.paxos_packets.specs.Rows.{raised}
use Rattle.paxos_packets.specs.Snapshot.{Snapshot, floor_in}
use Rattle.paxos_packets.specs.Vote.{votes_from}
use Rattle.paxos_packets.specs.declared.entry.Entry.{Entry}
use Rattle.paxos_packets.specs.declared.packet.Kind.TheVariants as kinds
use Rattle.paxos_acceptor.specs.Acceptor.{with_promise, with_snapshot}
use Rattle.paxos_proposer.specs.Proposer.{own_ballot, prepared}
use Rattle.paxos_learner.specs.Learner.{run_from}
use Rattle.paxos_planning.specs.Node.{NodeState, log_length}
use Rattle.paxos_node.specs.Adopting.{pending_behind}
use Rattle.paxos_node.specs.Applying.{stands_at, started, has_end}
use Rattle.paxos_node.specs.Snapshots.{boot_in, resting_on}
use Rattle.paxos_node.specs.declared.event.Event.{Event}
use Rattle.paxos_node.specs.declared.event.Event.TheVariants.{Start, Tick, Crash, Restart}
use Rattle.replica_machine.specs.Roll.{is_wanted_by}
use Rattle.world_rescue.specs.Seats.{Seat, Crew, delivered}

-- ---- the snapshot that the node asks for

-- a snapshot, and the number of the node that has it
pub record Source : Type 0 where
  pub number : ℕ
  pub snapshot : Snapshot

-- the floor of a snapshot that was found, or this one
abbrev pub floor_or : ℕ → Option Source → ℕ
floor_or floor None = floor
floor_or floor (Some t) = t.snapshot.floor

abbrev pub higher_by : ℕ → Option Source → ℕ → Option Snapshot → Option Source
higher_by floor found n None = found
higher_by floor found n (Some s) = if nat_lt (floor_or floor found) s.floor then Some (record { number = n; snapshot = s }) else found

abbrev pub higher : {B : Type 0} → ℕ → Option Source → Seat B → Option Source
higher floor found s = higher_by floor found s.number s.node.rows.snapshot

-- the first one with the greatest floor, if that is above this floor
abbrev pub highest : {B : Type 0} → ℕ → List (Seat B) → Option Source
highest floor seats = fold (higher floor) None seats

-- the node asks for it from this slot on, and gets it
abbrev pub fetch : {B : Type 0} → ℕ → ℕ → Source → List (Event B)
fetch n first t =
    Tick n ∷ delivered n (kinds.Ask first) t.number ∷ delivered t.number (kinds.Snapshot t.snapshot) n ∷ []

-- ---- what the node makes of it

-- the node, once it began a ballot: it does not lead then, so it asks for the log and proposes nothing
abbrev pub preparing : {B : Type 0} → ℕ → NodeState B → NodeState B
preparing n x =
    record x {
      rows = with_promise (own_ballot n x.proposer) x.rows;
      proposer =
          prepared n (own_ballot n x.proposer) (suc (log_length x)) (floor_in x.rows.snapshot)
          (votes_from (suc (log_length x)) x.rows.votes) x.proposer;
    }

-- what it had learned after the snapshot's floor, slot by slot
abbrev pub learned_after : {B : Type 0} → Snapshot → NodeState B → List (Entry B)
learned_after s x = run_from (suc s.floor) x.learner.learned

-- it rests on the snapshot, and applies that
abbrev pub goes_over : {B : Type 0} → Snapshot → NodeState B → NodeState B
goes_over s x =
    record (resting_on s x) {
      applied = learned_after s x;
      pending = pending_behind (stands_at (Some s)) (learned_after s x) (filter (is_wanted_by (stands_at (Some s))) x.pending);
    }

-- it begins its next boot on the snapshot
abbrev pub begins_over : {B : Type 0} → ℕ → Snapshot → NodeState B → NodeState B
begins_over n s x = started n (raised (with_snapshot s x.rows))

-- the snapshot has the node's boot, or a later one: it is refused
abbrev pub holds_boot : {B : Type 0} → ℕ → Snapshot → NodeState B → Bool
holds_boot n s x = nat_le x.rows.boot (boot_in (stands_at (Some s) n))

-- the loss of its boot is among what it applies then: it goes down
abbrev pub falls_after : {B : Type 0} → ℕ → Snapshot → NodeState B → Bool
falls_after n s x = has_end n x.rows.boot (stands_at (Some s) n) (learned_after s x)

abbrev pub node_over : {B : Type 0} → ℕ → Snapshot → NodeState B → NodeState B
node_over n s x = if holds_boot n s x || falls_after n s x then begins_over n s x else goes_over s x

-- what brings it into that boot
abbrev pub turn_over : {B : Type 0} → ℕ → Source → NodeState B → List (Event B)
turn_over n t x =
    if holds_boot n t.snapshot x then Crash n ∷ Restart n ∷ delivered t.number (kinds.Snapshot t.snapshot) n ∷ []
    else if falls_after n t.snapshot x then Restart n ∷ []
    else []

-- ---- the whole

abbrev pub reach_by : {B : Type 0} → ℕ → NodeState B → Option Source → List (Event B)
reach_by n x None = []
reach_by n x (Some t) = Start n ∷ fetch n (suc (log_length x)) t ++ turn_over n t x

abbrev pub reached_by : {B : Type 0} → ℕ → NodeState B → Option Source → NodeState B
reached_by n x None = x
reached_by n x (Some t) = node_over n t.snapshot (preparing n x)

-- the snapshot that a crew's node has to rest on first
abbrev pub source_of : {B : Type 0} → Crew B → Option Source
source_of c = highest (log_length c.own.node) c.helpers

-- the events that make the node level, and the crew then
abbrev pub reach : {B : Type 0} → Crew B → List (Event B)
reach c = reach_by c.own.number c.own.node (source_of c)

abbrev pub reached : {B : Type 0} → Crew B → Crew B
reached c = record c { own = record { number = c.own.number; node = reached_by c.own.number c.own.node (source_of c) } }
