-- What a run makes of what its feed gave and got.
use Rattle.std.specs.Prelude.{◌≡◌, ℕ, Bool, false, Option, List, [], ◌++◌}
use Rattle.paxos_node.specs.declared.event.Event.{Event}
use Rattle.replica_machine.specs.Log.{Follows, machine_from}
use Rattle.replica_machine.specs.Replay.{Steps}
use Rattle.node_actor.specs.Actor.{Acting}
use Rattle.node_actor.specs.Views.{View, seen}
use Rattle.node_actor.specs.Snapshots.{Logs}
use Rattle.actor_run.specs.Events.{asked_in, acts_in, gained_in, said_in, TakeLogs}
use Rattle.actor_run.specs.RoundRuns.{AreHeld}
use Rattle.actor_run.specs.Runs.{late_of, IsHeld}

-- what a feed keeps is all that it gave and got, unless memory ran out for some of it
abbrev pub Told : {E Y : Type 0} → Bool → List E → List Y → List E → List Y → Type 0
Told short gave got given said = short ≡ false → (gave ≡ given) × (got ≡ said)

-- the node took the acts that the feed gave, in order, but for that of an event that is held back for want of room at the end; and the feed
-- got what the core hands out in the events that were made, of whichever logs the snapshots are that the node took over
pub record TellsAll {B S Y M K : Type 0} (same : B → B → Bool) (steps : Steps B S Y) (content : M → S) (loaded : List ℕ → Option S)
    (actor : Acting B M K) (view : View B) (gave : List (Event B)) (got : List Y) : Type 0 where
  pub made : List (Event B)
  pub held : Option (Event B)
  pub back : IsHeld same actor.node.members held made (seen view)
  pub acts : acts_in (gained_in same actor.node.members made (seen view)) ++ late_of actor.node.me held ≡ asked_in actor.node.me gave
  pub says : (first : S) (logs : Logs B) → Follows steps content first actor.log
      → TakeLogs same actor.node.members loaded (machine_from steps first) logs made (seen view)
      → got ≡ said_in same actor.node.members (machine_from steps first) logs [] made (seen view)

-- the same of a run by rounds: several events may be held back at the end
pub record TellsRounds {B S Y M K : Type 0} (same : B → B → Bool) (steps : Steps B S Y) (content : M → S) (loaded : List ℕ → Option S)
    (actor : Acting B M K) (view : View B) (gave : List (Event B)) (got : List Y) : Type 0 where
  pub made : List (Event B)
  pub held : List (Event B)
  pub back : AreHeld same actor.node.members held made (seen view)
  pub acts : acts_in (gained_in same actor.node.members made (seen view)) ++ asked_in actor.node.me held ≡ asked_in actor.node.me gave
  pub says : (first : S) (logs : Logs B) → Follows steps content first actor.log
      → TakeLogs same actor.node.members loaded (machine_from steps first) logs made (seen view)
      → got ≡ said_in same actor.node.members (machine_from steps first) logs [] made (seen view)
