-- What comes of a round of a run.
use Rattle.std.proofs.Common.{◌≡◌, ◌≤◌, ℕ, Bool, true, false, List, [], ◌++◌, length, ap, sym, subst, ◌∙◌, refl, Option}
use Rattle.std.specs.Prelude.{Result, Ok, Err, All}
use Rattle.std.specs.declared.vec.Vec.{Vec}
use Rattle.std.specs.declared.alloc.Global.{Global}
use Rattle.std.proofs.lemmas.List.{append_assoc}
use Rattle.paxos_packets.specs.declared.rows.Rows.{Rows}
use Rattle.paxos_node.specs.declared.event.Event.{Event}
use Rattle.replica_machine.specs.Replay.{Steps}
use Rattle.actor_parts.specs.declared.fault.ActorFault.{ActorFault}
use Rattle.actor_parts.specs.declared.fault.ActorFault.TheVariants.{Failed, Rounds, Full, Keeper, Disagree, LostHere, Worn, Memory}
use Rattle.node_actor.specs.Actor.{Acting}
use Rattle.node_actor.specs.Calls.{is_own}
use Rattle.node_actor.specs.Rounds.{RoundOf, Rounded}
use Rattle.node_actor.specs.Views.{View, seen, StandsFor}
use Rattle.actor_run.specs.Answers.{is_refusal, says_of, Gets}
use Rattle.actor_run.specs.Events.{asked_in}
use Rattle.actor_run.specs.RoundRuns.{Broke, Pauses, by_round}
use Rattle.actor_run.specs.Runs.{Outset, Underway}
use Rattle.actor_run.proofs.Making.{sets_out}
use Rattle.actor_run.proofs.RoundActs.{held_are_few, held_are_own}
use Rattle.actor_run.proofs.RoundGoing.{round_held, round_on}

module _ {B S Y M K : Type 0} (same : B → B → Bool) (steps : Steps B S Y) (content : M → S) (loaded : List ℕ → Option S)
    (holds : K → Rows B → Type 0) (finds : K → Rows B → Type 0) (failures : K → ℕ) where
  -- a round is ended by no refusal, and its fault has no sayings

  fatal_of : (own : List (Event B)) (old now : Acting B M K) (v : View B) (said : List Y) (fault : ActorFault Y)
      → RoundOf same steps content loaded holds finds failures own old now v said (Err fault) → is_refusal fault ≡ false
  fatal_of own old now v said Failed r = refl
  fatal_of own old now v said Rounds r = absurd r
  fatal_of own old now v said Full r = absurd r
  fatal_of own old now v said (Keeper cause) r = refl
  fatal_of own old now v said Disagree r = refl
  fatal_of own old now v said (LostHere says) r = refl
  fatal_of own old now v said Worn r = refl
  fatal_of own old now v said Memory r = refl

  silent_of : (own : List (Event B)) (old now : Acting B M K) (v : View B) (said : List Y) (fault : ActorFault Y)
      → RoundOf same steps content loaded holds finds failures own old now v said (Err fault) → says_of fault ≡ []
  silent_of own old now v said Failed r = refl
  silent_of own old now v said Rounds r = refl
  silent_of own old now v said Full r = refl
  silent_of own old now v said (Keeper cause) r = refl
  silent_of own old now v said Disagree r = refl
  silent_of own old now v said (LostHere says) r = r.2
  silent_of own old now v said Worn r = refl
  silent_of own old now v said Memory r = refl

  module _ (own : List (Event B)) (old now : Acting B M K) (start says : List Y) where
    -- what is known of a round that returned this, if what it said is behind a start
    abbrev Returns : Result (Vec (Event B) Global) (ActorFault Y) → Type 0
    Returns result =
        (v : View B) → StandsFor old v → (said : List Y) × (says ≡ start ++ said)
        × RoundOf same steps content loaded holds finds failures own old now v said result

    -- what was said is all of it, if there is no start
    all_said : start ≡ [] → (said : List Y) → says ≡ start ++ said → said ≡ says
    all_said none said is = sym (is ∙ ap (λ l. l ++ said) none)

    -- a round that returned the events that are held back

    module _ (held : Vec (Event B) Global) (rounds : Returns (Ok held)) (all : All (λ e. is_own old.node.me e ≡ true) own)
        (me : now.node.me ≡ old.node.me) where
      pub held_own_events : (v : View B) → StandsFor old v → All (λ e. is_own now.node.me e ≡ true) held.items
      held_own_events v stands =
          let d : Rounded same steps content loaded holds finds failures own old now v held.items (rounds v stands).0 = (rounds v stands).2.2 in
          subst (λ k. All (λ e. is_own k e ≡ true) held.items) (sym me)
          (held_are_own same old.node.members old.node.me own held.items (seen v).node d.held_are all)

      pub held_few_events : (v : View B) → StandsFor old v → length held.items ≤ length own
      held_few_events v stands =
          let d : Rounded same steps content loaded holds finds failures own old now v held.items (rounds v stands).0 = (rounds v stands).2.2 in
          held_are_few same old.node.members old.node.me own held.items (seen v).node d.held_are

      pub round_ok : {F : Type 0} (saw : F → List (Event B) → List Y → Type 0) (o : Outset B Y M K) (feed next : F) → start ≡ []
          → now.node.members ≡ old.node.members → Gets {B = B} saw says feed next
          → Underway same steps content loaded saw (asked_in o.actor.node.me own) o old feed
          → Pauses same steps content loaded saw held.items o now next
      round_ok saw o feed next none members gets u =
          let r = rounds u.view u.went.stands in
          let d : Rounded same steps content loaded holds finds failures own old now u.view held.items says =
          subst (λ z. Rounded same steps content loaded holds finds failures own old now u.view held.items z) (all_said none r.0 r.1) r.2.2 in
          record {
            under = record {
              view = d.next;
              made = u.made ++ d.made;
              given = u.given;
              said = u.said ++ says;
              went = round_on same steps content loaded o holds finds failures own held.items u.made u.given old now u.view u.said says u.went d all me
                  members;
              told = subst (saw next (o.gave ++ u.given)) (append_assoc o.got u.said says) (gets (o.gave ++ u.given) (o.got ++ u.said) u.told);
            };
            back = round_held same steps content loaded o holds finds failures own held.items u.made u.given old now u.view u.said says u.went d;
          }

    -- a round that a fault ended

    module _ (fault : ActorFault Y) (rounds : Returns (Err fault)) where
      pub round_fatal : (v : View B) → StandsFor old v → is_refusal fault ≡ false
      round_fatal v stands = let r = rounds v stands in fatal_of own old now v r.0 fault r.2

      pub round_err : {F : Type 0} (saw : F → List (Event B) → List Y → Type 0) (o : Outset B Y M K) (feed next : F) → start ≡ []
          → Gets {B = B} saw says feed next → Underway same steps content loaded saw (asked_in o.actor.node.me own) o old feed
          → Broke same steps content loaded saw holds finds failures o now next fault
      round_err saw o feed next none gets u =
          let r = rounds u.view u.went.stands in
          by_round (record {
            own = own;
            before = old;
            view = u.view;
            made = u.made;
            given = u.given;
            said = u.said;
            last = says;
            went = u.went;
            ended = subst (λ z. RoundOf same steps content loaded holds finds failures own old now u.view z (Err fault)) (all_said none r.0 r.1) r.2;
            fatal = fatal_of own old now u.view r.0 fault r.2;
            quiet = silent_of own old now u.view r.0 fault r.2;
            told = gets (o.gave ++ u.given) (o.got ++ u.said) u.told;
          })

-- nothing has come yet, and nothing is held back
pub begins : {B S Y M K F : Type 0} (same : B → B → Bool) (steps : Steps B S Y) (content : M → S) (loaded : List ℕ → Option S)
    (saw : F → List (Event B) → List Y → Type 0) (o : Outset B Y M K) (feed : F) → StandsFor o.actor o.view → saw feed o.gave o.got
    → Pauses same steps content loaded saw [] o o.actor feed
begins same steps content loaded saw o feed stands told =
    record { under = (sets_out same steps content loaded saw o feed stands told).under; back = tt }
