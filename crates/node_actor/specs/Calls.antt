-- What the calls of an actor promise, stated for each view that it stands for (docs/CONSENSUS.md, "A node with its store").
use Rattle.std.specs.Prelude.{◌≡◌, ◌⊎◌, ℕ, ◌<◌, Bool, true, false, ◌==◌, Option, Some, None, Result, Ok, Err, IfOk, IfErr, is_err, List, []}
use Rattle.std.specs.Prelude.{◌++◌, filter, not, ◌&&◌, ◌||◌, nat_lt, ◌^◌}
use Rattle.std.specs.Prelude.{if◌then◌else◌}
use Rattle.std.specs.declared.vec.Vec.{Vec}
use Rattle.std.specs.declared.alloc.Global.{Global}
use Rattle.paxos_packets.specs.Snapshot as taken
use Rattle.paxos_packets.specs.declared.entry.Entry.{Entry}
use Rattle.paxos_packets.specs.declared.packet.Packet.{Packet}
use Rattle.paxos_packets.specs.declared.rows.Rows.{Rows}
use Rattle.store_keeper.specs.declared.fault.KeeperFault.{KeeperFault}
use Rattle.store_keeper.specs.declared.fault.KeeperFault.TheVariants as store
use Rattle.replica_machine.specs.Log.{IsLogOf, machine_from}
use Rattle.replica_machine.specs.Replay.{Steps}
use Rattle.actor_outboxes.specs.Outboxes.{IsPeer}
use Rattle.paxos_node.specs.declared.event.Event.{Event}
use Rattle.paxos_node.specs.declared.event.Event.TheVariants.{Take, Tick, Start, Suspect, Deliver, Cut, Crash, Restart}
use Rattle.paxos_node.specs.Events.{outcome_of, is_round_refused, is_full_refused}
use Rattle.paxos_planning.specs.Node.{NodeState}
use Rattle.actor_parts.specs.declared.fault.ActorFault.{ActorFault}
use Rattle.actor_parts.specs.declared.fault.ActorFault.TheVariants.{Failed, Rounds, Full, Keeper, Disagree, LostHere, Worn, Memory}
use Rattle.node_actor.specs.Actor.{Acting}
use Rattle.node_actor.specs.Snapshots.{Logs, takes_no_log, TakesLog, under_after, handed_by, cut_to}
use Rattle.node_actor.specs.Views.{View, seen, is_for, received_from, StandsFor, moved_by, sent_by, received_by, Queues}

-- the event that a call makes at a node, if any: no act of the transport 0 is taken, and no packet treated that is for another node, or from no
-- other member

abbrev pub take_event : {B : Type 0} → ℕ → ℕ → B → Option (Event B)
take_event me number body = if number == 0 then None else Some (Take me number body)

abbrev pub turn_event : {B : Type 0} → ℕ → ℕ → Option (Packet B) → Option (Event B)
turn_event me members None = None
turn_event me members (Some p) = if is_for me members p then Some (Deliver p) else None

-- an event of this node that a call may make: no packet is delivered but by a turn or a round, and no act of the transport 0 is taken
abbrev pub is_own : {B : Type 0} → ℕ → Event B → Bool
is_own me (Take n t body) = (n == me) && nat_lt 0 t
is_own me (Tick n) = n == me
is_own me (Start n) = n == me
is_own me (Suspect n other) = n == me
is_own me (Deliver p) = false
is_own me (Cut n snapshot) = false
is_own me (Crash n) = false
is_own me (Restart n) = false

-- a cut, for which an actor has a call of its own
abbrev pub is_cut : {B : Type 0} → Event B → Bool
is_cut (Cut n snapshot) = true
is_cut _ = false

-- whether the event is refused

abbrev pub has_no_round : {B : Type 0} → Option (Event B) → NodeState B → Bool
has_no_round None x = false
has_no_round (Some e) x = is_round_refused e x

abbrev pub has_no_room : {B : Type 0} → (B → B → Bool) → Option (Event B) → NodeState B → Bool
has_no_room same None x = false
has_no_room same (Some e) x = is_full_refused same e x

abbrev pub disagrees : {B : Type 0} → (B → B → Bool) → ℕ → Option (Event B) → NodeState B → Bool
disagrees same members None x = false
disagrees same members (Some e) x = (outcome_of same members e x).disagrees

-- whether the word of the view's node has counted all events that it can
abbrev pub is_worn : {B : Type 0} → Option (Event B) → View B → Bool
is_worn None v = false
is_worn (Some e) v = not (nat_lt v.part.events (2 ^ 62))

-- a call that makes no event: nothing changes and nothing is said, and a fault is returned exactly if one has ended the actor before
pub record Rests {B Y M K : Type 0} (old new : Acting B M K) (result : Result (Vec Y Global) (ActorFault Y)) : Type 0 where
  pub still : new ≡ old
  pub silent : IfOk result (λ says. says.items ≡ [])
  pub failed : IfErr result (λ fault. fault ≡ Failed)
  pub spoiled : old.spoiled ≡ is_err result

module _ {B S Y M K : Type 0} (same : B → B → Bool) (steps : Steps B S Y) (content : M → S) (loaded : List ℕ → Option S)
    (holds : K → Rows B → Type 0) (finds : K → Rows B → Type 0) (failures : K → ℕ) where
  -- the view goes on by the event, its node's rows are held, its packets wait, a log is made of the snapshot that it takes over, if it takes one,
  -- and the sayings are what the event hands out, of whichever log that snapshot is. These packets are those that the view received with the event
  pub record GoesWith (got : List (Packet B)) (e : Option (Event B)) (old new : Acting B M K) (v : View B) (said : List Y) : Type 0 where
    pub next : View B
    pub stands : StandsFor new next
    pub moved : seen next ≡ moved_by same old.node.members e (seen v)
    pub received : (k : ℕ) → received_from k next ≡ received_from k v ++ filter (λ p. p.sender == k) got
    pub queues : (k : ℕ) → IsPeer old.node.me old.node.members k → Queues k (sent_by same old.node.members e (seen v).node) old new v next
    pub held : holds new.keeper (seen next).node.rows
    pub loads : takes_no_log same old.node.members loaded e (seen v).node ≡ false
    pub says : (first : S) (under : List (Entry B)) (logs : Logs B) → IsLogOf steps content first under old.log
        → TakesLog same old.node.members loaded (machine_from steps first) logs e (seen v).node
        → said ≡ handed_by same old.node.members (machine_from steps first) logs under e (seen v).node
    pub follows : (first : S) (under : List (Entry B)) (logs : Logs B) → IsLogOf steps content first under old.log
        → TakesLog same old.node.members loaded (machine_from steps first) logs e (seen v).node
        → IsLogOf steps content first (under_after same old.node.members logs under e (seen v).node) new.log

  -- the same of an event with its own packet
  abbrev pub Goes : Option (Event B) → Acting B M K → Acting B M K → View B → List Y → Type 0
  Goes e old new v said = GoesWith (received_by e) e old new v said

  -- the view and what is held went on together, or neither did
  pub record Stops (e : Option (Event B)) (old new : Acting B M K) (v : View B) : Type 0 where
    pub next : View B
    pub stands : StandsFor new next
    pub moved : (seen next ≡ seen v) ⊎ (seen next ≡ moved_by same old.node.members e (seen v))
    pub held : holds new.keeper (seen next).node.rows

  -- the view's node and the log are as before, nothing of the event waits, and the store finds the rows of before or those after the event; the
  -- store says that it failed only if it did
  pub record Fails (e : Option (Event B)) (old new : Acting B M K) (v : View B) (fault : KeeperFault) : Type 0 where
    pub next : View B
    pub stands : StandsFor new next
    pub moved : seen next ≡ seen v
    pub log : new.log ≡ old.log
    pub queues : (k : ℕ) → IsPeer old.node.me old.node.members k → Queues k [] old new v next
    pub loads : takes_no_log same old.node.members loaded e (seen v).node ≡ false
    pub found : (x : Rows B) → finds new.keeper x → (x ≡ (seen v).node.rows) ⊎ (x ≡ (moved_by same old.node.members e (seen v)).node.rows)
    pub cause : fault ≡ store.Store → failures old.keeper < failures new.keeper

  -- what is refused, in this order, and the rest agrees
  abbrev pub IsTaken : Option (Event B) → Acting B M K → View B → Type 0
  IsTaken e old v = (has_no_round e (seen v).node ≡ false) × (has_no_room same e (seen v).node ≡ false)

  abbrev pub IsAgreed : Option (Event B) → Acting B M K → View B → Type 0
  IsAgreed e old v = IsTaken e old v × (disagrees same old.node.members e (seen v).node ≡ false) × (is_worn e v ≡ false)

  -- what a call returns that makes this event, and what it makes of the actor
  abbrev pub ActsWith : List (Packet B) → Option (Event B) → Acting B M K → Acting B M K → View B → Result (Vec Y Global) (ActorFault Y) → Type 0
  ActsWith got e old new v (Ok says) =
      (old.spoiled ≡ false) × (new.spoiled ≡ false) × IsAgreed e old v
      × ((moved_by same old.node.members e (seen v)).node.up ≡ true) × GoesWith got e old new v says.items
  ActsWith got e old new v (Err Failed) = (old.spoiled ≡ true) × (new ≡ old)
  ActsWith got e old new v (Err Rounds) = (old.spoiled ≡ false) × (has_no_round e (seen v).node ≡ true) × (new ≡ old)
  ActsWith got e old new v (Err Full) = (old.spoiled ≡ false) × (has_no_room same e (seen v).node ≡ true) × (new ≡ old)
  ActsWith got e old new v (Err Disagree) =
      (old.spoiled ≡ false) × (new.spoiled ≡ true) × IsTaken e old v
      × ((disagrees same old.node.members e (seen v).node || takes_no_log same old.node.members loaded e (seen v).node) ≡ true)
      × Stops None old new v
  ActsWith got e old new v (Err (Keeper fault)) = (old.spoiled ≡ false) × (new.spoiled ≡ true) × IsAgreed e old v × Fails e old new v fault
  ActsWith got e old new v (Err (LostHere says)) =
      (old.spoiled ≡ false) × (new.spoiled ≡ true) × IsAgreed e old v
      × ((moved_by same old.node.members e (seen v)).node.up ≡ false) × GoesWith got e old new v says.items
  ActsWith got e old new v (Err Worn) =
      (old.spoiled ≡ false) × (new.spoiled ≡ true) × IsTaken e old v × (disagrees same old.node.members e (seen v).node ≡ false)
      × (is_worn e v ≡ true) × Stops None old new v
  ActsWith got e old new v (Err Memory) = (old.spoiled ≡ false) × (new.spoiled ≡ true) × IsAgreed e old v × Stops e old new v

  abbrev pub Acts : Option (Event B) → Acting B M K → Acting B M K → View B → Result (Vec Y Global) (ActorFault Y) → Type 0
  Acts e old new v result = ActsWith (received_by e) e old new v result

  -- what a call returns that cuts to this snapshot: the event is made if it is possible; a fault is told as one of the event, even if it is not
  abbrev pub Cuts : Option taken.Snapshot → Acting B M K → Acting B M K → View B → Result (Vec Y Global) (ActorFault Y) → Type 0
  Cuts snapshot old new v (Ok says) = Acts (cut_to old.node.me snapshot (seen v).node) old new v (Ok says)
  Cuts snapshot old new v (Err fault) = Acts (Some (Cut old.node.me snapshot)) old new v (Err fault)
