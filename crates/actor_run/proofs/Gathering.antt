-- What comes of the events that a feed gives for a round.
use Rattle.std.proofs.Common.{◌≡◌, ℕ, Bool, true, false, List, [], ◌∷◌, ◌++◌, ap, sym, subst, ◌∙◌, refl, Option, Some, None}
use Rattle.std.specs.Prelude.{Err}
use Rattle.std.specs.Option.{option_to_list}
use Rattle.std.proofs.lemmas.List.{append-nil}
use Rattle.std.proofs.lemmas.Grind.{flat_map-append}
use Rattle.paxos_packets.specs.declared.rows.Rows.{Rows}
use Rattle.paxos_packets.specs.Snapshot as taken
use Rattle.paxos_node.specs.declared.event.Event.{Event}
use Rattle.paxos_node.specs.declared.event.Event.TheVariants.{Cut}
use Rattle.replica_machine.specs.Replay.{Steps}
use Rattle.actor_parts.specs.declared.fault.ActorFault.{ActorFault}
use Rattle.actor_parts.specs.declared.fault.ActorFault.TheVariants.{Failed, Rounds, Full, Keeper, Disagree, LostHere, Worn, Memory}
use Rattle.node_actor.specs.Actor.{Acting}
use Rattle.node_actor.specs.Calls.{Cuts, is_own}
use Rattle.node_actor.specs.Views.{View, StandsFor}
use Rattle.actor_run.specs.Answers.{is_refusal, says_of, IsQuiet, Gets}
use Rattle.actor_run.specs.Events.{asked_by, asked_in, is_own_cut}
use Rattle.actor_run.specs.RoundRuns.{Broke, by_cut}
use Rattle.actor_run.specs.Runs.{Outset, Underway}
use Rattle.actor_run.proofs.Lists.{cut_asks, not_asked}
use Rattle.actor_run.proofs.Making.{fatal_by, given_on, late_is}

-- a fault without its sayings is a refusal if it is one
pub quiet_refusal : {Y : Type 0} (fault answer : ActorFault Y) → IsQuiet fault answer → is_refusal answer ≡ is_refusal fault
quiet_refusal (LostHere says) answer h = ap is_refusal h.2
quiet_refusal Failed answer h = ap is_refusal h
quiet_refusal Rounds answer h = ap is_refusal h
quiet_refusal Full answer h = ap is_refusal h
quiet_refusal (Keeper cause) answer h = ap is_refusal h
quiet_refusal Disagree answer h = ap is_refusal h
quiet_refusal Worn answer h = ap is_refusal h
quiet_refusal Memory answer h = ap is_refusal h

-- a cut is ended by no refusal
pub cut_fatal : {B S Y M K : Type 0} (same : B → B → Bool) (steps : Steps B S Y) (content : M → S) (loaded : List ℕ → Option S)
    (holds : K → Rows B → Type 0) (finds : K → Rows B → Type 0) (failures : K → ℕ) (snapshot : Option taken.Snapshot) (old now : Acting B M K) (v : View B)
    (fault answer : ActorFault Y) → Cuts same steps content loaded holds finds failures snapshot old now v (Err fault) → IsQuiet fault answer
    → is_refusal answer ≡ false
cut_fatal same steps content loaded holds finds failures snapshot old now v fault answer cuts quiet =
    quiet_refusal fault answer quiet
    ∙ fatal_by same steps content loaded holds finds failures fault (Some (Cut old.node.me snapshot)) old now v cuts refl refl

module _ {B S Y M K F : Type 0} (same : B → B → Bool) (steps : Steps B S Y) (content : M → S) (loaded : List ℕ → Option S)
    (saw : F → List (Event B) → List Y → Type 0) (o : Outset B Y M K) where
  -- acts of events of a round to come are late
  abbrev Awaits : List (ℕ × B) → Acting B M K → F → Type 0
  Awaits late now feed = Underway same steps content loaded saw late o now feed

  -- the feed gave none
  pub gave_none : (late : List (ℕ × B)) (now : Acting B M K) (feed next : F)
      → ((given : List (Event B)) (got : List Y) → saw feed given got → saw next (given ++ option_to_list None) got) → Awaits late now feed
      → Awaits late now next
  gave_none late now feed next gives u =
      late_is same steps content loaded saw o (late ++ []) late now next (append-nil late)
      (given_on same steps content loaded saw o late now feed next None gives u)

  module _ (own : List (Event B)) (e : Event B) (now : Acting B M K) (feed : F)
      (u : Awaits (asked_in o.actor.node.me own ++ asked_by o.actor.node.me e) now feed) where
    asks_nothing : asked_by now.node.me e ≡ [] → Awaits (asked_in o.actor.node.me own) now feed
    asks_nothing none =
        let here : asked_by o.actor.node.me e ≡ [] = subst (λ k. asked_by k e ≡ []) u.went.me none in
        late_is same steps content loaded saw o _ (asked_in o.actor.node.me own) now feed
        (ap (λ l. asked_in o.actor.node.me own ++ l) here ∙ append-nil (asked_in o.actor.node.me own)) u

    -- a cut of the node asks nothing
    pub gave_cut : is_own_cut now.node.me e ≡ true → Awaits (asked_in o.actor.node.me own) now feed
    gave_cut cuts = asks_nothing (cut_asks same o.actor.node.members now.node.me e cuts)

    -- nor does an event that is no node's own
    pub gave_other : is_own now.node.me e ≡ false → Awaits (asked_in o.actor.node.me own) now feed
    gave_other other = asks_nothing (not_asked same o.actor.node.members now.node.me e other)

    -- one event more is of the round
    pub gave_own : (events : List (Event B)) → events ≡ own ++ e ∷ [] → Awaits (asked_in o.actor.node.me events) now feed
    gave_own events is =
        let me : ℕ = o.actor.node.me in
        let asked : asked_in me events ≡ asked_in me own ++ asked_by me e =
        ap (asked_in me) is ∙ (flat_map-append (asked_by me) own (e ∷ []) ∙ ap (λ l. asked_in me own ++ l) (append-nil (asked_by me e))) in
        late_is same steps content loaded saw o _ (asked_in me events) now feed (sym asked) u

  -- a cut that returned a fault
  pub cut_ends : (holds : K → Rows B → Type 0) (finds : K → Rows B → Type 0) (failures : K → ℕ) (snapshot : Option taken.Snapshot)
      (own : List (Event B)) (old now : Acting B M K) (feed next : F) (fault answer : ActorFault Y)
      → ((v : View B) → StandsFor old v → Cuts same steps content loaded holds finds failures snapshot old now v (Err fault))
      → IsQuiet fault answer → Gets {B = B} saw (says_of fault) feed next → Awaits (asked_in o.actor.node.me own) old feed
      → Broke same steps content loaded saw holds finds failures o now next answer
  cut_ends holds finds failures snapshot own old now feed next fault answer cuts quiet gets u =
      by_cut (record {
        own = own;
        snapshot = snapshot;
        fault = fault;
        before = old;
        view = u.view;
        made = u.made;
        given = u.given;
        said = u.said;
        went = u.went;
        ended = cuts u.view u.went.stands;
        fatal = fatal_by same steps content loaded holds finds failures fault (Some (Cut old.node.me snapshot)) old now u.view
            (cuts u.view u.went.stands) refl refl;
        quiet = quiet;
        told = gets (o.gave ++ u.given) (o.got ++ u.said) u.told;
      })
