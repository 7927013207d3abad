-- Events of a round whose node went on by them before they are committed together (docs/CONSENSUS.md, "A node with its store").
use Rattle.std.specs.Prelude.{◌≡◌, ℕ, ◌<◌, Bool, true, false, Option, Some, None, Result, Ok, Err, List, [], ◌∷◌, ◌++◌, length, map}
use Rattle.std.specs.List.{flat_map}
use Rattle.paxos_packets.specs.declared.entry.Entry.{Entry}
use Rattle.paxos_packets.specs.declared.packet.Packet.{Packet}
use Rattle.paxos_packets.specs.declared.rows.Change.{Change}
use Rattle.paxos_packets.specs.declared.rows.Rows.{Rows}
use Rattle.paxos_acceptor.specs.Acceptor as accepting
use Rattle.paxos_acceptor.specs.Ahead.{Noted, IsAhead}
use Rattle.replica_machine.specs.Log.{LogState, IsLogOf, machine_from}
use Rattle.replica_machine.specs.Replay.{Machine, Steps}
use Rattle.actor_outboxes.specs.Outboxes.{WaitBehind}
use Rattle.paxos_node.specs.Events.{outcome_of, is_round_refused, is_full_refused}
use Rattle.paxos_node.specs.Plans.{plans}
use Rattle.paxos_node.specs.declared.event.Event.{Event}
use Rattle.paxos_node.specs.declared.outcome.Outcome.{Outcome}
use Rattle.paxos_planning.specs.Node.{NodeState, told_length}
use Rattle.actor_parts.specs.Handing.{handed_out}
use Rattle.actor_parts.specs.Parts.{Parted, IsPlan, IsPrefixOf}
use Rattle.actor_parts.specs.Steps.{IsAtEnd, OnlyNode}
use Rattle.actor_parts.specs.declared.tried.Tried.{Tried}
use Rattle.actor_parts.specs.declared.tried.FailedCommit.{FailedCommit}
use Rattle.actor_parts.specs.declared.tried.FailedCommit.TheVariants.{One, Round}

-- the events that were tried, what they changed, and what the rows had in its place
pub record Staged (B : Type 0) : Type 0 where
  pub ahead : Noted B
  pub tried : List (Tried B)

-- the events, in order; and what they send and apply

abbrev pub events_in : {B : Type 0} → List (Tried B) → List (Event B)
events_in ts = map (λ t. t.event) ts

abbrev pub packets_in : {B : Type 0} → List (Tried B) → List (Packet B)
packets_in ts = flat_map (λ t. t.packets) ts

abbrev pub entries_in : {B : Type 0} → List (Tried B) → List (Entry B)
entries_in ts = flat_map (λ t. t.applied) ts

module _ {B : Type 0} (same : B → B → Bool) (me members : ℕ) where
  -- a node went on by an event of its own: it refused nothing, and agreed; this is sent and applied, and so long is its log after it; it stays up, in
  -- its boot and with its snapshot
  pub record IsTried (t : Tried B) (x : NodeState B) : Type 0 where
    pub plans_it : plans me t.event x ≡ true
    pub some_round : is_round_refused t.event x ≡ false
    pub some_room : is_full_refused same t.event x ≡ false
    pub agrees : (outcome_of same members t.event x).disagrees ≡ false
    pub packets : t.packets ≡ (outcome_of same members t.event x).packets
    pub applied : t.applied ≡ (outcome_of same members t.event x).applied
    pub log : t.log ≡ told_length (outcome_of same members t.event x).node
    pub up : (outcome_of same members t.event x).node.up ≡ true
    pub boot : (outcome_of same members t.event x).node.rows.boot ≡ x.rows.boot
    pub no_snapshot : (outcome_of same members t.event x).change.snapshot ≡ None
    pub snapshot : (outcome_of same members t.event x).node.rows.snapshot ≡ x.rows.snapshot
    pub grows : (outcome_of same members t.event x).node.applied ≡ x.applied ++ t.applied

  -- the node after the events, one after another, and all of them were tried so
  abbrev pub node_behind : List (Tried B) → NodeState B → NodeState B
  node_behind [] x = x
  node_behind (t ∷ ts) x = node_behind ts (outcome_of same members t.event x).node

  abbrev pub AreTried : List (Tried B) → NodeState B → Type 0
  AreTried [] x = Unit {0}
  AreTried (t ∷ ts) x = IsTried t x × AreTried ts (outcome_of same members t.event x).node

  -- one event more is tried
  pub record Tries {M K : Type 0} (event : Event B) (old new : Parted B M K) (was now : Staged B) : Type 0 where
    pub one : Tried B
    pub is : one.event ≡ event
    pub tried : IsTried one old.node.state
    pub all : now.tried ≡ was.tried ++ one ∷ []
    pub node : new.node.state ≡ (outcome_of same members event old.node.state).node
    pub ahead : (kept : Rows B) → IsAhead kept was.ahead old.node.state.rows → IsAhead kept now.ahead new.node.state.rows

-- what a failed commit was to leave

abbrev pub change_of : {B : Type 0} → FailedCommit B → Change B
change_of (One o) = o.change
change_of (Round c ts) = c

-- by how many events
abbrev pub count_of : {B : Type 0} → FailedCommit B → ℕ
count_of (One o) = 1
count_of (Round c ts) = length ts

-- it is what an event, or some events, of this node were to leave
abbrev pub IsMeant : {B : Type 0} → (B → B → Bool) → ℕ → ℕ → NodeState B → FailedCommit B → Type 0
IsMeant same me members x (One o) = IsPlan same me members x o
IsMeant same me members x (Round c ts) =
    AreTried same me members ts x × (0 < length ts) × (accepting.adopted x.rows c ≡ (node_behind same me members ts x).rows)

-- what a machine says at the entries of events, one after another, to the transports of a node in a boot, if its log is this one before them
abbrev pub heard_of : {B S Y : Type 0} → Machine B S Y → ℕ → ℕ → List (Entry B) → List (Tried B) → List Y
heard_of m node boot log [] = []
heard_of m node boot log (t ∷ ts) = handed_out m node boot log t.applied ++ heard_of m node boot (log ++ t.applied) ts

module _ {B S Y M K : Type 0} (steps : Steps B S Y) (content : M → S) where
  -- the packets of events wait, the machine has followed what they applied, and this is said
  pub record FollowsTried (boot : ℕ) (ts : List (Tried B)) (old new : Parted B M K) (said : List Y) : Type 0 where
    pub waits : WaitBehind (packets_in ts) old.waiting new.waiting
    pub applied : new.log.applied ≡ old.log.applied ++ entries_in ts
    pub floor : new.log.floor ≡ old.log.floor
    pub alive : new.log.failed ≡ false
    pub end : IsAtEnd new.log
    pub says : (first : S) (under : List (Entry B)) → IsLogOf steps content first under old.log
        → said ≡ heard_of (machine_from steps first) old.waiting.me boot (under ++ old.log.applied) ts
    pub follows : (first : S) (under : List (Entry B)) → IsLogOf steps content first under old.log → IsLogOf steps content first under new.log

  -- the machine has followed a first part of it, and a first part is said
  pub record StopsTried (boot : ℕ) (ts : List (Tried B)) (old new : Parted B M K) (said : List Y) : Type 0 where
    pub waits : WaitBehind (packets_in ts) old.waiting new.waiting
    pub front : IsPrefixOf new.log.applied (old.log.applied ++ entries_in ts)
    pub says : (first : S) (under : List (Entry B)) → IsLogOf steps content first under old.log
        → IsPrefixOf said (heard_of (machine_from steps first) old.waiting.me boot (under ++ old.log.applied) ts)

  -- what becomes of events that are committed, by what the call returns
  abbrev pub TakesAll : {E : Type 0} → ℕ → List (Tried B) → Parted B M K → Parted B M K → List Y → List Y → Result (Unit {0}) E → Type 0
  TakesAll boot ts old new was now (Ok _) = (said : List Y) × (now ≡ was ++ said) × FollowsTried boot ts old new said
  TakesAll boot ts old new was now (Err _) = (said : List Y) × (now ≡ was ++ said) × StopsTried boot ts old new said

  -- the machine may go on
  abbrev pub IsReady : {E : Type 0} → Parted B M K → Result (Unit {0}) E → Type 0
  IsReady p (Ok _) = (p.log.failed ≡ false) × IsAtEnd p.log
  IsReady p (Err _) = Unit {0}
