-- A run of an actor: turns for as long as a gate allows, and before each the events that a feed gives (docs/ARCHITECTURE.md, "Threads").
use Rattle.std.specs.Prelude.{◌≡◌, ℕ, Bool, true, false, Option, Some, None, Result, Ok, Err, List, [], ◌++◌}
use Rattle.std.specs.declared.vec.Vec.{Vec}
use Rattle.std.specs.declared.alloc.Global.{Global}
use Rattle.paxos_packets.specs.Snapshot as taken
use Rattle.paxos_packets.specs.declared.entry.Entry.{Entry}
use Rattle.paxos_packets.specs.declared.rows.Rows.{Rows}
use Rattle.paxos_node.specs.declared.event.Event.{Event}
use Rattle.paxos_node.specs.Events.{is_full_refused}
use Rattle.paxos_node.specs.View.{Viewed}
use Rattle.replica_machine.specs.Log.{IsLogOf, machine_from}
use Rattle.replica_machine.specs.Replay.{Steps}
use Rattle.actor_parts.specs.declared.fault.ActorFault.{ActorFault}
use Rattle.node_actor.specs.Actor.{Acting}
use Rattle.node_actor.specs.Calls.{Acts, Cuts}
use Rattle.node_actor.specs.Snapshots.{Logs}
use Rattle.node_actor.specs.Views.{View, seen, StandsFor}
use Rattle.actor_run.specs.Answers.{is_refusal, says_of, IsQuiet}
use Rattle.actor_run.specs.Events.{asked_by, asked_in, acts_in, behind, gained_in, said_in, under_in, TakeLogs}

-- an actor has cut to this snapshot, or had nothing to cut
abbrev pub IsCut : {B S Y M K : Type 0} → (B → B → Bool) → Steps B S Y → (M → S) → (List ℕ → Option S) → (K → Rows B → Type 0)
    → (K → Rows B → Type 0) → (K → ℕ) → Option taken.Snapshot → Acting B M K → Acting B M K → View B → Type 0
IsCut {Y = Y} same steps content loaded holds finds failures snapshot old new view =
    (says : Vec Y Global) × Cuts same steps content loaded holds finds failures snapshot old new view (Ok says)

-- where a run begins: the actor, a view that it stands for, and what the feed had given and got
pub record Outset (B Y M K : Type 0) : Type 0 where
  pub actor : Acting B M K
  pub view : View B
  pub gave : List (Event B)
  pub got : List Y

-- the event was refused since there was no room after the first of these, and no act was taken since
pub record HeldBack {B : Type 0} (same : B → B → Bool) (members : ℕ) (e : Event B) (made : List (Event B)) (s : Viewed B) : Type 0 where
  pub front : List (Event B)
  pub since : List (Event B)
  pub all : made ≡ front ++ since
  pub full : is_full_refused same e (behind same members front s).node ≡ true
  pub no_act : gained_in same members since (behind same members front s) ≡ []

-- the act of an event that is held back, if there is one
abbrev pub late_of : {B : Type 0} → ℕ → Option (Event B) → List (ℕ × B)
late_of me None = []
late_of me (Some e) = asked_by me e

-- it is held back for want of room
abbrev pub IsHeld : {B : Type 0} → (B → B → Bool) → ℕ → Option (Event B) → List (Event B) → Viewed B → Type 0
IsHeld same members None made s = Unit {0}
IsHeld same members (Some e) made s = HeldBack same members e made s

module _ {B S Y M K : Type 0} (same : B → B → Bool) (steps : Steps B S Y) (content : M → S) (loaded : List ℕ → Option S) where
  -- the view went on by these events of the core, and its actor with it: the acts that it gained, and after them one that is late, are
  -- those that the feed asked for, in order; and what was said is what the core hands out, of whichever logs the snapshots are that it took
  pub record Went (late : List (ℕ × B)) (o : Outset B Y M K) (now : Acting B M K) (view : View B) (made given : List (Event B)) (said : List Y) : Type 0 where
    pub stands : StandsFor now view
    pub me : now.node.me ≡ o.actor.node.me
    pub members : now.node.members ≡ o.actor.node.members
    pub moved : seen view ≡ behind same o.actor.node.members made (seen o.view)
    pub acts : acts_in (gained_in same o.actor.node.members made (seen o.view)) ++ late ≡ asked_in o.actor.node.me given
    pub says : (first : S) (under : List (Entry B)) (logs : Logs B) → IsLogOf steps content first under o.actor.log
        → TakeLogs same o.actor.node.members loaded (machine_from steps first) logs made (seen o.view)
        → said ≡ said_in same o.actor.node.members (machine_from steps first) logs under made (seen o.view)
    pub follows : (first : S) (under : List (Entry B)) (logs : Logs B) → IsLogOf steps content first under o.actor.log
        → TakeLogs same o.actor.node.members loaded (machine_from steps first) logs made (seen o.view)
        → IsLogOf steps content first (under_in same o.actor.node.members logs under made (seen o.view)) now.log

  module _ {F : Type 0} (saw : F → List (Event B) → List Y → Type 0) where
    -- the same, stated with what the feed gave and got
    pub record Underway (late : List (ℕ × B)) (o : Outset B Y M K) (now : Acting B M K) (feed : F) : Type 0 where
      pub view : View B
      pub made : List (Event B)
      pub given : List (Event B)
      pub said : List Y
      pub went : Went late o now view made given said
      pub told : saw feed (o.gave ++ given) (o.got ++ said)

    -- between two turns no act is late, or one that was held back for want of room
    pub record Waits (held : Option (Event B)) (o : Outset B Y M K) (now : Acting B M K) (feed : F) : Type 0 where
      pub under : Underway (late_of o.actor.node.me held) o now feed
      pub back : IsHeld same o.actor.node.members held under.made (seen o.view)

    module _ (holds : K → Rows B → Type 0) (finds : K → Rows B → Type 0) (failures : K → ℕ) where
      -- why an act is late at the end: none is, or it was held back, or it is the event that ended the run
      pub data IsLate (late : List (ℕ × B)) (o : Outset B Y M K) (made : List (Event B)) (last : Option (Event B)) : Type 0 where
        none_is : late ≡ [] → IsLate late o made last
        was_held : (e : Event B) → late ≡ asked_by o.actor.node.me e → HeldBack same o.actor.node.members e made (seen o.view) → IsLate late o made last
        ended_it : (e : Event B) → late ≡ asked_by o.actor.node.me e → last ≡ Some e → IsLate late o made last

      -- the actor returned a fault, at this event or at none, which is no refusal: so it all went until then, the sayings in the fault were
      -- handed out, and it is returned without them
      pub record Ended (o : Outset B Y M K) (now : Acting B M K) (feed : F) (answer : ActorFault Y) : Type 0 where
        pub late : List (ℕ × B)
        pub last : Option (Event B)
        pub fault : ActorFault Y
        pub before : Acting B M K
        pub view : View B
        pub made : List (Event B)
        pub given : List (Event B)
        pub said : List Y
        pub went : Went late o before view made given said
        pub why : IsLate late o made last
        pub ended : Acts same steps content loaded holds finds failures last before now view (Err fault)
        pub fatal : is_refusal fault ≡ false
        pub quiet : IsQuiet fault answer
        pub told : saw feed (o.gave ++ given) ((o.got ++ said) ++ says_of fault)

      -- all that may come of events and a turn, and of a run

      abbrev pub Makes : Outset B Y M K → Acting B M K → F → Result (Option (Event B)) (ActorFault Y) → Type 0
      Makes o now feed (Ok held) = Waits held o now feed
      Makes o now feed (Err answer) = Ended o now feed answer

      -- the same, if what is held back stays where it was
      abbrev pub Keeps : Outset B Y M K → Acting B M K → F → Option (Event B) → Result (Unit {0}) (ActorFault Y) → Type 0
      Keeps o now feed held (Ok _) = Waits held o now feed
      Keeps o now feed held (Err answer) = Ended o now feed answer

      abbrev pub Runs : Outset B Y M K → Acting B M K → F → Result (Unit {0}) (ActorFault Y) → Type 0
      Runs o now feed (Ok _) = (held : Option (Event B)) × Waits held o now feed
      Runs o now feed (Err answer) = Ended o now feed answer
