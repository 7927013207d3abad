-- What lists make, if they make anything: the content of these lists, held to these limits.
use Rattle.std.proofs.Common.{◌≡◌, Bool, true, false, ◌||◌, cond, List, Option, None, Some, option_map, refl, sym, ap}
use Rattle.std.specs.List.{list_any}
use Rattle.realm_sessions.specs.Apart.{has_two}
use Rattle.realm_sessions.specs.declared.links.Link.{Link}
use Rattle.realm_sessions.specs.Restoring.{is_misnumbered, clash}
use Rattle.realm_registrations.specs.Registrations.{Registrations}
use Rattle.realm_subscriptions.specs.Subscriptions.{Subscriptions}
use Rattle.realm_calls.specs.declared.calls.Open.{Open}
use Rattle.realm_calls.specs.Restoring as calling
use Rattle.realm_machine.specs.declared.config.Limits.{Limits}
use Rattle.realm_machine.specs.Content.{Content, limits_in}
use Rattle.realm_machine.specs.Parts.{Lists, name_nobody, content_of, from_calls, from_subscriptions, from_registrations, from_sessions}

-- the lists, under these limits, unjudged
abbrev pub content_by : Limits → Lists → Content
content_by limits lists = record {
  sessions = record { limit = limits.sessions; list = lists.links };
  registrations = record { limit = limits.registrations; list = lists.registrations; last = lists.last_registration };
  subscriptions = record { limit = limits.subscriptions; list = lists.subscriptions; last = lists.last_subscription };
  calls = record { limit = limits.calls; list = lists.calls };
}

some_is : {A : Type 0} {x y : A} → Some x ≡ Some y → x ≡ y
some_is h = cc

-- what is made, is made past a test
past : {A C : Type 0} (f : Option A → Option C) → f None ≡ None → (b : Bool) (x : Option A) (c : C) → f (cond b None x) ≡ Some c
    → f x ≡ Some c
past f none true x c h = cc
past f none false x c h = h

pub content_is : (limits : Limits) (lists : Lists) (c : Content) → content_of limits lists ≡ Some c → content_by limits lists ≡ c
content_is limits lists c h =
    let all = content_by limits lists in
    let sessions = all.sessions in
    let registrations = all.registrations in
    let subscriptions = all.subscriptions in
    let a = past (λ (o : Option (List Link)). from_sessions limits lists
    (option_map (λ (list : List Link). record { limit = limits.sessions; list = list }) o)) refl
    (list_any is_misnumbered lists.links || has_two clash lists.links) (Some lists.links) c h in
    let b = past (λ (o : Option Content). o) refl (name_nobody lists) _ c a in
    let d = past (λ (o : Option Registrations). from_registrations limits lists sessions o) refl
    _ (Some registrations) c b in
    let e = past (λ (o : Option Subscriptions). from_subscriptions limits lists sessions registrations o) refl
    _ (Some subscriptions) c d in
    some_is (past (λ (o : Option (List Open)). from_calls sessions registrations subscriptions
    (option_map (λ (list : List Open). record { limit = limits.calls; list = list }) o)) refl
    (list_any calling.is_faulty lists.calls || has_two calling.clash lists.calls) (Some lists.calls) c e)

pub limits_are : (limits : Limits) (lists : Lists) (c : Content) → content_of limits lists ≡ Some c → limits_in c ≡ limits
limits_are limits lists c h = ap limits_in (sym (content_is limits lists c h))
