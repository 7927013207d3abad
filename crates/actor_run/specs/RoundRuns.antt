-- A run of an actor by rounds: rounds for as long as a gate allows, each with the events that a feed gives (docs/ARCHITECTURE.md, "Threads").
use Rattle.std.specs.Prelude.{◌≡◌, ℕ, Bool, false, Option, Some, Result, Ok, Err, List, [], ◌∷◌, ◌++◌}
use Rattle.paxos_packets.specs.declared.rows.Rows.{Rows}
use Rattle.paxos_node.specs.declared.event.Event.{Event}
use Rattle.paxos_node.specs.declared.event.Event.TheVariants.{Cut}
use Rattle.paxos_node.specs.View.{Viewed}
use Rattle.paxos_packets.specs.Snapshot as taken
use Rattle.replica_machine.specs.Replay.{Steps}
use Rattle.actor_parts.specs.declared.fault.ActorFault.{ActorFault}
use Rattle.actor_parts.specs.declared.fault.ActorFault.TheVariants.{Memory}
use Rattle.node_actor.specs.Actor.{Acting}
use Rattle.node_actor.specs.Calls.{Acts}
use Rattle.node_actor.specs.Rounds.{RoundOf}
use Rattle.node_actor.specs.Views.{View, seen}
use Rattle.actor_run.specs.Answers.{is_refusal, says_of, IsQuiet}
use Rattle.actor_run.specs.Events.{asked_in}
use Rattle.actor_run.specs.Runs.{HeldBack, Outset, Underway, Went}

-- events are held back since there was no room for the first of them after events that were made, and no act was taken since
abbrev pub AreHeld : {B : Type 0} → (B → B → Bool) → ℕ → List (Event B) → List (Event B) → Viewed B → Type 0
AreHeld same members [] made s = Unit {0}
AreHeld same members (e ∷ es) made s = HeldBack same members e made s

module _ {B S Y M K : Type 0} (same : B → B → Bool) (steps : Steps B S Y) (content : M → S) (loaded : List ℕ → Option S) {F : Type 0}
    (saw : F → List (Event B) → List Y → Type 0) where
  -- between two rounds the acts among the held events are late, and no others
  pub record Pauses (held : List (Event B)) (o : Outset B Y M K) (now : Acting B M K) (feed : F) : Type 0 where
    pub under : Underway same steps content loaded saw (asked_in o.actor.node.me held) o now feed
    pub back : AreHeld same o.actor.node.members held under.made (seen o.view)

  module _ (holds : K → Rows B → Type 0) (finds : K → Rows B → Type 0) (failures : K → ℕ) where
    -- a fault ended a round with these events of its own: so it all went until the round began, and what came of the round is what the actor states;
    -- what it said was handed out, and the fault has no sayings
    pub record RoundEnded (o : Outset B Y M K) (now : Acting B M K) (feed : F) (fault : ActorFault Y) : Type 0 where
      pub own : List (Event B)
      pub before : Acting B M K
      pub view : View B
      pub made : List (Event B)
      pub given : List (Event B)
      pub said : List Y
      pub last : List Y
      pub went : Went same steps content loaded (asked_in o.actor.node.me own) o before view made given said
      pub ended : RoundOf same steps content loaded holds finds failures own before now view last (Err fault)
      pub fatal : is_refusal fault ≡ false
      pub quiet : says_of fault ≡ []
      pub told : saw feed (o.gave ++ given) ((o.got ++ said) ++ last)

    -- a fault ended a cut to this snapshot, before a round with these events of its own
    pub record CutEnded (o : Outset B Y M K) (now : Acting B M K) (feed : F) (answer : ActorFault Y) : Type 0 where
      pub own : List (Event B)
      pub snapshot : Option taken.Snapshot
      pub fault : ActorFault Y
      pub before : Acting B M K
      pub view : View B
      pub made : List (Event B)
      pub given : List (Event B)
      pub said : List Y
      pub went : Went same steps content loaded (asked_in o.actor.node.me own) o before view made given said
      pub ended : Acts same steps content loaded holds finds failures (Some (Cut before.node.me snapshot)) before now view (Err fault)
      pub fatal : is_refusal fault ≡ false
      pub quiet : IsQuiet fault answer
      pub told : saw feed (o.gave ++ given) ((o.got ++ said) ++ says_of fault)

    -- why a run ends by a fault; memory for the list of a round's events ran out, if nothing was made of the round
    pub data Broke (o : Outset B Y M K) (now : Acting B M K) (feed : F) (answer : ActorFault Y) : Type 0 where
      by_round : RoundEnded o now feed answer → Broke o now feed answer
      by_cut : CutEnded o now feed answer → Broke o now feed answer
      by_memory : (held : List (Event B)) → answer ≡ Memory → Pauses held o now feed → Broke o now feed answer

    -- all that may come of gathering the events of a round, of a round, and of a run: until a round is taken, the acts of its events are late

    abbrev pub Gathers : Outset B Y M K → Acting B M K → F → List (Event B) → Result (Unit {0}) (ActorFault Y) → Type 0
    Gathers o now feed own (Ok _) = Underway same steps content loaded saw (asked_in o.actor.node.me own) o now feed
    Gathers o now feed own (Err answer) = Broke o now feed answer

    abbrev pub Passes : Outset B Y M K → Acting B M K → F → List (Event B) → Result (Unit {0}) (ActorFault Y) → Type 0
    Passes o now feed held (Ok _) = Pauses held o now feed
    Passes o now feed held (Err answer) = Broke o now feed answer

    abbrev pub RunsRounds : Outset B Y M K → Acting B M K → F → Result (Unit {0}) (ActorFault Y) → Type 0
    RunsRounds o now feed (Ok _) = (held : List (Event B)) × Pauses held o now feed
    RunsRounds o now feed (Err answer) = Broke o now feed answer
