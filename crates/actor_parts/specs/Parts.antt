-- What an actor is made of, as callers see it (docs/CONSENSUS.md, "A node with its store").
use Rattle.std.specs.Prelude.{◌≡◌, ℕ, ◌-◌, nat_le, Bool, true, false, Option, Some, None, List, [], ◌++◌, length, slice_get}
use Rattle.paxos_packets.specs.Members.{IsMember}
use Rattle.paxos_packets.specs.declared.rows.Rows.{Rows}
use Rattle.paxos_packets.specs.Snapshot.{floor_in}
use Rattle.replica_machine.specs.Log.{LogState}
use Rattle.paxos_node.specs.declared.event.Event.{Event}
use Rattle.paxos_node.specs.declared.outcome.Outcome.{Outcome}
use Rattle.paxos_packets.specs.declared.packet.Kind.{Kind}
use Rattle.paxos_packets.specs.declared.packet.Kind.TheVariants.{Accepted}
use Rattle.paxos_packets.specs.declared.packet.Packet.{Packet}
use Rattle.paxos_packets.specs.declared.vote.Vote.{Vote}
use Rattle.paxos_planning.specs.Node.{NodeState, log_length}
use Rattle.paxos_node.specs.Held.{Held}
use Rattle.paxos_node.specs.Plans.{plans}
use Rattle.paxos_node.specs.Adopting.{Planned}
use Rattle.actor_outboxes.specs.Outboxes.{Waiting}
use Rattle.actor_parts.specs.declared.tried.FailedCommit.{FailedCommit}

pub record Parted (B M K : Type 0) : Type 0 where
  pub node : Held B
  pub keeper : K
  -- the packets that wait to go out
  pub waiting : Waiting B
  pub log : LogState B M
  -- what a failed commit was to leave
  pub failed : Option (FailedCommit B)
  -- whether a fault has ended it
  pub spoiled : Bool

-- the parts of an actor that has just begun, with this log
abbrev pub first_parts : {B M K : Type 0} → Held B → K → Waiting B → LogState B M → Parted B M K
first_parts h keeper w log =
    record {
      node = h;
      keeper = keeper;
      waiting = w;
      log = log;
      failed = None;
      spoiled = false;
    }

-- the slot of the last of these votes, 0 if there is none
abbrev pub slot_of : {B : Type 0} → Option (Vote B) → ℕ
slot_of None = 0
slot_of (Some vote) = vote.slot

abbrev pub last_slot : {B : Type 0} → List (Vote B) → ℕ
last_slot votes = slot_of (slice_get votes (length votes - 1))

-- how many slots there are after a node's log up to the last one that it voted in
abbrev pub open_slots : {B : Type 0} → NodeState B → ℕ
open_slots x = last_slot x.rows.votes - log_length x

-- an Accepted of a slot that the node has applied: its vote tells the node nothing

abbrev pub is_late_in : {B : Type 0} → Kind B → ℕ → Bool
is_late_in (Accepted vote) log = nat_le vote.slot log
is_late_in _ log = false

abbrev pub is_late : {B : Type 0} → Packet B → NodeState B → Bool
is_late p x = is_late_in p.kind (log_length x)

-- the list begins with these
abbrev pub IsPrefixOf : {A : Type 0} → List A → List A → Type 0
IsPrefixOf {A} xs ys = (rest : List A) × (xs ++ rest ≡ ys)

-- the outcome is that of some event of this node
pub record IsPlan {B : Type 0} (same : B → B → Bool) (me members : ℕ) (x : NodeState B) (o : Outcome B) : Type 0 where
  pub event : Event B
  pub plans : plans me event x ≡ true
  pub planned : Planned same members event x o

module _ {B M K : Type 0} where
  -- what holds of an actor that goes on: its keeper holds its rows, and its machine has followed its log from the floor on
  pub record IsServing (holds : K → Rows B → Type 0) (is_failed : K → Bool) (a : Parted B M K) : Type 0 where
    pub up : a.node.state.up ≡ true
    pub held : holds a.keeper a.node.state.rows
    pub floor : a.log.floor ≡ floor_in a.node.state.rows.snapshot
    pub whole : is_failed a.keeper ≡ false
    pub followed : a.log.applied ≡ a.node.state.applied
    pub alive : a.log.failed ≡ false
    pub committed : a.failed ≡ None
    pub ahead : a.log.ahead ≡ []

  -- what holds of every actor
  pub record IsSound (same : B → B → Bool) (holds : K → Rows B → Type 0) (is_failed : K → Bool) (a : Parted B M K) : Type 0 where
    pub me : a.waiting.me ≡ a.node.me
    pub members : a.waiting.members ≡ a.node.members
    pub member : IsMember a.node.members a.node.me
    pub serves : a.spoiled ≡ false → IsServing holds is_failed a
    pub front : a.node.state.up ≡ true → IsPrefixOf a.log.applied a.node.state.applied
