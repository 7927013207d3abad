-- What the contract of a run says with a feed that tells.
use Rattle.std.proofs.Common.{◌≡◌, ℕ, Bool, true, false, Result, Ok, Err, List, [], ◌∷◌, ◌++◌, Option, sym, ap, ◌∙◌}
use Rattle.std.specs.Prelude.{is_ok}
use Rattle.std.proofs.lemmas.Bool.{false≢true}
use Rattle.std.proofs.lemmas.List.{append-nil}
use Rattle.paxos_packets.specs.declared.rows.Rows.{Rows}
use Rattle.paxos_node.specs.declared.event.Event.{Event}
use Rattle.replica_machine.specs.Replay.{Steps}
use Rattle.actor_parts.specs.declared.fault.ActorFault.{ActorFault}
use Rattle.node_actor.specs.Actor.{Acting}
use Rattle.node_actor.specs.Views.{View}
use Rattle.actor_run.specs.Events.{asked_in}
use Rattle.actor_run.specs.RoundRuns.{RunsRounds}
use Rattle.actor_run.specs.Runs.{Runs}
use Rattle.actor_tests.specs.Telling.{Told, TellsAll, TellsRounds}

-- an event more, none, and sayings more

pub gives_more : {E Y : Type 0} (old new given : List E) (got said : List Y) (e : E) (was is : Bool)
    → (is ≡ false → (was ≡ false) × (new ≡ old ++ e ∷ [])) → Told was old got given said → Told is new got (given ++ e ∷ []) said
gives_more old new given got said e was is keeps told whole =
    let kept = keeps whole in
    let before = told kept.0 in
    (kept.1 ∙ ap (λ l. l ++ e ∷ []) before.0, before.1)

pub gives_none : {E Y : Type 0} (gave given : List E) (got said : List Y) (short : Bool) → Told short gave got given said
    → Told short gave got (given ++ []) said
gives_none gave given got said short told whole = let before = told whole in (before.0 ∙ sym (append-nil given), before.1)

pub gets_more : {E Y : Type 0} (gave given : List E) (old new said says : List Y) (was is : Bool)
    → (is ≡ false → (was ≡ false) × (new ≡ old ++ says)) → Told was gave old given said → Told is gave new given (said ++ says)
gets_more gave given old new said says was is keeps told whole =
    let kept = keeps whole in
    let before = told kept.0 in
    (before.0, kept.1 ∙ ap (λ l. l ++ says) before.1)

-- what a run makes of them

pub told_all : {B S Y M K F : Type 0} (same : B → B → Bool) (steps : Steps B S Y) (content : M → S) (loaded : List ℕ → Option S)
    (saw : F → List (Event B) → List Y → Type 0) (holds : K → Rows B → Type 0) (finds : K → Rows B → Type 0) (failures : K → ℕ)
    (old now : Acting B M K) (view : View B) (feed : F) (gave : List (Event B)) (got : List Y) (result : Result (Unit {0}) (ActorFault Y)) → is_ok result ≡ true
    → ((given : List (Event B)) (said : List Y) → saw feed given said → (gave ≡ given) × (got ≡ said))
    → Runs same steps content loaded saw holds finds failures (record { actor = old; view = view; gave = []; got = [] }) now feed result
    → TellsAll same steps content loaded old view gave got
told_all same steps content loaded saw holds finds failures old now view feed gave got (Ok _) ok shows runs =
    let under = runs.1.under in
    let all = shows under.given under.said under.told in
    record {
      made = under.made;
      held = runs.0;
      back = runs.1.back;
      acts = under.went.acts ∙ ap (asked_in old.node.me) (sym all.0);
      says = λ first logs follows takes. all.1 ∙ under.went.says first [] logs follows takes;
    }
told_all same steps content loaded saw holds finds failures old now view feed gave got (Err fault) ok shows runs = absurd (false≢true ok)

-- and a run by rounds
pub told_rounds : {B S Y M K F : Type 0} (same : B → B → Bool) (steps : Steps B S Y) (content : M → S) (loaded : List ℕ → Option S)
    (saw : F → List (Event B) → List Y → Type 0) (holds : K → Rows B → Type 0) (finds : K → Rows B → Type 0) (failures : K → ℕ)
    (old now : Acting B M K) (view : View B) (feed : F) (gave : List (Event B)) (got : List Y) (result : Result (Unit {0}) (ActorFault Y)) → is_ok result ≡ true
    → ((given : List (Event B)) (said : List Y) → saw feed given said → (gave ≡ given) × (got ≡ said))
    → RunsRounds same steps content loaded saw holds finds failures (record { actor = old; view = view; gave = []; got = [] }) now feed result
    → TellsRounds same steps content loaded old view gave got
told_rounds same steps content loaded saw holds finds failures old now view feed gave got (Ok _) ok shows runs =
    let under = runs.1.under in
    let all = shows under.given under.said under.told in
    record {
      made = under.made;
      held = runs.0;
      back = runs.1.back;
      acts = under.went.acts ∙ ap (asked_in old.node.me) (sym all.0);
      says = λ first logs follows takes. all.1 ∙ under.went.says first [] logs follows takes;
    }
told_rounds same steps content loaded saw holds finds failures old now view feed gave got (Err fault) ok shows runs = absurd (false≢true ok)
