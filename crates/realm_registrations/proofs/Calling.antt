-- In sound registrations a callee is chosen wherever one of them matches.
use Rattle.std.proofs.Common.{◌≡◌, ℕ, ◌<◌, ◌-◌, true, List, length, Option, None, Some, is_some, option_map, refl, ap, ◌∙◌, arith}
use Rattle.std.specs.List.{list_any, slice_get}
use Rattle.std.proofs.lemmas.List.Elements.{All-filter}
use Rattle.std.proofs.lemmas.Option.{slice_get-get_or}
use Rattle.wamp_ids.specs.declared.policy.Invoke.{Invoke}
use Rattle.wamp_ids.specs.declared.policy.Invoke.TheVariants.{Single, First, Last, RoundRobin}
use Rattle.wamp_ids.specs.Pattern.{PatternValue}
use Rattle.wamp_patterns.specs.Matching.{matches}
use Rattle.wamp_patterns.specs.Ranking.{matching, is_unbeaten}
use Rattle.wamp_patterns.proofs.Serving.{some_serves}
use Rattle.realm_registrations.specs.declared.registration.Registration.{Registration}
use Rattle.realm_registrations.specs.Registration.{called, chosen}
use Rattle.realm_registrations.specs.Registrations.{Registrations, serving, found_chosen, choose}
use Rattle.realm_registrations.specs.Laws.{IsSoundRegistration, AreSoundRegistrations}
use Rattle.realm_registrations.proofs.Changes.{found_holds}

there_is : (callees : List ℕ) (place : ℕ) → place < length callees → is_some (slice_get callees place) ≡ true
there_is callees place within = ap is_some (slice_get-get_or callees place 0 within)

called_is : (invoke : Invoke) (callees : List ℕ) → 0 < length callees → is_some (called invoke callees) ≡ true
called_is Single callees held = there_is callees 0 held
called_is First callees held = there_is callees 0 held
called_is Last callees held = there_is callees (length callees - 1) (omega (arith, held))
called_is RoundRobin callees held = there_is callees 0 held

mapped_is : {A B : Type 0} (f : A → B) (o : Option A) → is_some (option_map f o) ≡ is_some o
mapped_is f None = refl
mapped_is f (Some x) = refl

chosen_is : (r : Registration) → IsSoundRegistration r → is_some (chosen r) ≡ true
chosen_is r ok = mapped_is _ (called r.invoke r.callees) ∙ called_is r.invoke r.callees ok.held

found_is : (registrations : Registrations) (uri : List ℕ) → AreSoundRegistrations registrations → (o : Option Registration) → serving registrations uri ≡ o
    → is_some (found_chosen o) ≡ is_some o
found_is registrations uri ok None is = refl
found_is registrations uri ok (Some r) is =
    let pattern_of : Registration → PatternValue = λ (x : Registration). x.pattern in
    let fit = matching pattern_of registrations.list uri in
    chosen_is r (found_holds (is_unbeaten pattern_of fit) IsSoundRegistration r fit is
    (All-filter (λ (x : Registration). matches x.pattern uri) IsSoundRegistration registrations.list ok.each))

pub called_where_matched : (registrations : Registrations) (uri : List ℕ) → AreSoundRegistrations registrations
    → is_some (choose registrations uri) ≡ list_any (λ (r : Registration). matches r.pattern uri) registrations.list
called_where_matched registrations uri ok =
    found_is registrations uri ok (serving registrations uri) refl ∙ some_serves (λ (r : Registration). r.pattern) registrations.list uri
