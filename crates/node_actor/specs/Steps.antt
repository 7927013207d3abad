-- What an actor makes of an outcome that its node has planned: committed, taken at the table, adopted.
use Rattle.std.specs.Prelude.{◌≡◌, ◌⊎◌, ℕ, nat_lt, ◌^◌, Bool, true, false, Option, Some, None, Result, Ok, Err, List, ◌++◌, if◌then◌else◌}
use Rattle.std.specs.declared.vec.Vec.{Vec}
use Rattle.std.specs.declared.alloc.Global.{Global}
use Rattle.paxos_packets.specs.declared.rows.Rows.{Rows}
use Rattle.store_keeper.specs.declared.fault.KeeperFault.{KeeperFault}
use Rattle.paxos_packets.specs.declared.entry.Entry.{Entry}
use Rattle.replica_machine.specs.Log.{LogState, IsLogOf, machine_from}
use Rattle.replica_machine.specs.Replay.{Steps}
use Rattle.actor_outboxes.specs.Outboxes.{WaitBehind}
use Rattle.paxos_node.specs.declared.outcome.Outcome.{Outcome}
use Rattle.actor_parts.specs.declared.fault.ActorFault.{ActorFault}
use Rattle.actor_parts.specs.declared.fault.ActorFault.TheVariants.{Failed, Rounds, Full, Keeper, Disagree, LostHere, Worn, Memory}
use Rattle.actor_parts.specs.Parts.{IsPrefixOf}
use Rattle.actor_parts.specs.Snapshots.{base_log, is_no_log, IsMadeOf}
use Rattle.actor_parts.specs.Handing.{handed_out}
use Rattle.actor_parts.specs.Steps.{Falls, next_node}
use Rattle.actor_parts.specs.declared.tried.FailedCommit.TheVariants.{One}
use Rattle.mail_table.specs.Seats.{Seated}
use Rattle.node_actor.specs.Actor.{Acting, parts}
use Rattle.node_actor.specs.Posts.{advanced}

-- the word of the seat's node counts one event more
abbrev pub may_advance : {B : Type 0} → Seated B → Bool
may_advance s = nat_lt s.part.events (2 ^ 62)

-- why an event is not taken if memory ran out before it was carried out: a word that counts no more comes before that
abbrev pub fault_without_plan : {B Y : Type 0} → Seated B → ActorFault Y
fault_without_plan s = if may_advance s then Memory else Worn

module _ {B S Y M K : Type 0} (steps : Steps B S Y) (content : M → S) (holds : K → Rows B → Type 0) (finds : K → Rows B → Type 0)
    (failures : K → ℕ) where
  -- the outcome is committed and adopted, and what it applied is followed from this log on
  pub record TakesOver (base : LogState B M) (o : Outcome B) (old new : Acting B M K) (said : List Y) : Type 0 where
    pub node : new.node.state ≡ next_node o (parts old)
    pub held : holds new.keeper (next_node o (parts old)).rows
    pub waits : WaitBehind o.packets old.waiting new.waiting
    pub failed : new.failed ≡ None
    pub seat : new.seat ≡ advanced o old.seat
    pub says : (first : S) (under : List (Entry B)) → IsLogOf steps content first under base
        → said ≡ handed_out (machine_from steps first) old.node.me old.node.state.rows.boot (under ++ base.applied) o.applied
    pub follows : (first : S) (under : List (Entry B)) → IsLogOf steps content first under base → IsLogOf steps content first under new.log

  -- there was no memory: the outcome is committed and adopted, or neither
  pub record StopsBefore (old new : Acting B M K) : Type 0 where
    pub node : new.node.state ≡ old.node.state
    pub held : holds new.keeper old.node.state.rows
    pub waits : new.waiting ≡ old.waiting
    pub failed : new.failed ≡ None
    pub log : new.log ≡ old.log
    pub seat : new.seat ≡ old.seat

  pub record StopsBehind (base : LogState B M) (o : Outcome B) (old new : Acting B M K) : Type 0 where
    pub node : new.node.state ≡ next_node o (parts old)
    pub held : holds new.keeper (next_node o (parts old)).rows
    pub waits : WaitBehind o.packets old.waiting new.waiting
    pub failed : new.failed ≡ None
    pub seat : new.seat ≡ advanced o old.seat
    pub front : IsPrefixOf new.log.applied (base.applied ++ o.applied)

  -- the commit failed
  pub record FailsAt (o : Outcome B) (old new : Acting B M K) (fault : KeeperFault) : Type 0 where
    pub node : new.node.state ≡ old.node.state
    pub waits : new.waiting ≡ old.waiting
    pub log : new.log ≡ old.log
    pub falls : Falls finds failures o.change old.node.state.rows old.keeper new.keeper fault
    pub failed : new.failed ≡ Some (One o)
    pub seat : new.seat ≡ old.seat

  -- all that may come of an outcome, if the machine is to go on from this log
  abbrev pub CarriesOut : LogState B M → Outcome B → Acting B M K → Acting B M K → Result (Vec Y Global) (ActorFault Y) → Type 0
  CarriesOut base o old new (Ok says) = (may_advance old.seat ≡ true) × (o.is_down ≡ false) × (new.spoiled ≡ false)
      × TakesOver base o old new says.items
  CarriesOut base o old new (Err (LostHere says)) =
      (may_advance old.seat ≡ true) × (o.is_down ≡ true) × (new.spoiled ≡ true) × TakesOver base o old new says.items
  CarriesOut base o old new (Err (Keeper fault)) = (may_advance old.seat ≡ true) × (new.spoiled ≡ true) × FailsAt o old new fault
  CarriesOut base o old new (Err Worn) = (may_advance old.seat ≡ false) × (new.spoiled ≡ true) × StopsBefore old new
  CarriesOut base o old new (Err Memory) =
      (may_advance old.seat ≡ true) × (new.spoiled ≡ true) × (StopsBefore old new ⊎ StopsBehind base o old new)
  CarriesOut base o old new (Err Failed) = ⊥
  CarriesOut base o old new (Err Rounds) = ⊥
  CarriesOut base o old new (Err Full) = ⊥
  CarriesOut base o old new (Err Disagree) = ⊥

  -- the same of an event that is no cut, by the log that is made of the snapshot that its node takes over: none could be made of it, or memory
  -- for it ran out, and nothing was done; or one was made, if there is a snapshot
  pub data CarriesOn (loaded : List ℕ → Option S) (o : Outcome B) (old new : Acting B M K) : Result (Vec Y Global) (ActorFault Y) → Type 0 where
    makes_none : is_no_log loaded o.change.snapshot ≡ true → new.spoiled ≡ true → StopsBefore old new → CarriesOn loaded o old new (Err Disagree)
    makes_stop : (fault : ActorFault Y) → fault ≡ fault_without_plan old.seat → new.spoiled ≡ true → StopsBefore old new
        → CarriesOn loaded o old new (Err fault)
    carries : (made : Option (LogState B M)) (result : Result (Vec Y Global) (ActorFault Y)) → IsMadeOf content loaded o.change.snapshot made
        → CarriesOut (base_log made o.change.snapshot old.log) o old new result → CarriesOn loaded o old new result
