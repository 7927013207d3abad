-- A realm that is saved is loaded again.
use Rattle.std.proofs.Common.{◌≡◌, ℕ, Bool, true, false, ◌||◌, cond, List, [], ◌∷◌, ◌++◌, Option, None, Some, option_map, Result, Ok, Err}
use Rattle.std.proofs.Common.{refl}
use Rattle.std.proofs.Common.{sym, ap, ◌∙◌, lit<}
use Rattle.std.specs.List.{All, list_any}
use Rattle.std.specs.Prelude.{◌↔◌, IsErrOf, IsOkUnless}
use Rattle.std.proofs.lemmas.Bool.{or_parts, not-false, false≢true}
use Rattle.std.proofs.lemmas.List.{append-nil}
use Rattle.std.proofs.lemmas.List.Elements.{All-weaker, All-head, All-tail}
use Rattle.command_codec.specs.Entry.{whole}
use Rattle.command_codec.specs.Number.{number_reading}
use Rattle.replica_machine.specs.declared.fault.SaveFault.{SaveFault}
use Rattle.replica_machine.specs.declared.fault.SaveFault.TheVariants.{Failed, Memory}
use Rattle.realm_sessions.specs.Apart.{has_two}
use Rattle.realm_sessions.specs.declared.links.Link.{Link}
use Rattle.realm_sessions.specs.Restoring.{is_numbered, is_misnumbered, clash}
use Rattle.realm_sessions.proofs.Pairs.{All-none}
use Rattle.realm_machine.specs.declared.config.Limits.{Limits}
use Rattle.realm_machine.specs.Config.{Config}
use Rattle.realm_machine.specs.Content.{Content}
use Rattle.realm_machine.specs.Machine.{Live, known, is_unknown}
use Rattle.realm_machine.specs.Parts.{Lists, lists_of, shown, from_sessions}
use Rattle.realm_snapshot.specs.Forms.{version_form, limit_form, id_or_none_form}
use Rattle.realm_snapshot.specs.Writing.{one_octet, four_octets, eight_octets, list_octets, name_octets, link_octets, registration_octets}
use Rattle.realm_snapshot.specs.Writing.{subscription_octets, call_octets, limits_octets, config_octets, lists_octets, saved}
use Rattle.realm_snapshot.specs.Reading.{name_reading, list_reading, link_reading, registration_reading, subscription_reading, call_reading}
use Rattle.realm_snapshot.specs.Reading.{limits_reading, config_reading, lists_reading, made_reading}
use Rattle.realm_snapshot.specs.Snapshot.{found, loaded, AreNumbered, IsSavable, Backs}
use Rattle.realm_snapshot.proofs.RoundTrip.{step, Each, octet_back}
use Rattle.realm_snapshot.proofs.PartsBack.{two_before, three_before, four_before}

-- ---- the parts of a realm

pub version_back : Backs (number_reading version_form) (one_octet 1) 1
version_back = octet_back version_form 1 refl (lit< tt) refl

pub limits_back : (limits : Limits) → Backs (number_reading limit_form) (four_octets limits.sessions) limits.sessions
    → Backs (number_reading limit_form) (four_octets limits.registrations) limits.registrations
    → Backs (number_reading limit_form) (four_octets limits.subscriptions) limits.subscriptions
    → Backs (number_reading limit_form) (four_octets limits.calls) limits.calls → Backs limits_reading (limits_octets limits) limits
limits_back limits sessions registrations subscriptions calls rest =
    let a = four_octets limits.sessions in
    let b = four_octets limits.registrations in
    let c = four_octets limits.subscriptions in
    let d = four_octets limits.calls in
    ap limits_reading (four_before a b c d rest)
    ∙ step (number_reading limit_form) a limits.sessions _ _ _ sessions
    (step (number_reading limit_form) b limits.registrations _ _ _ registrations
    (step (number_reading limit_form) c limits.subscriptions _ _ _ subscriptions
    (step (number_reading limit_form) d limits.calls _ _ _ calls refl)))

pub config_back : (config : Config) → Backs name_reading (name_octets config.name) config.name
    → Backs limits_reading (limits_octets config.limits) config.limits → Backs config_reading (config_octets config) config
config_back config name limits rest =
    let a = one_octet 1 in
    let b = name_octets config.name in
    let c = limits_octets config.limits in
    ap config_reading (three_before a b c rest)
    ∙ step (number_reading version_form) a 1 _ _ _ version_back
    (step name_reading b config.name _ _ _ name (step limits_reading c config.limits _ _ _ limits refl))

pub lists_back : (lists : Lists) → Backs (number_reading id_or_none_form) (eight_octets lists.last_registration) lists.last_registration
    → Backs (number_reading id_or_none_form) (eight_octets lists.last_subscription) lists.last_subscription
    → Backs (list_reading link_reading) (list_octets link_octets lists.links) lists.links
    → Backs (list_reading registration_reading) (list_octets registration_octets lists.registrations) lists.registrations
    → Backs (list_reading subscription_reading) (list_octets subscription_octets lists.subscriptions) lists.subscriptions
    → Backs (list_reading call_reading) (list_octets call_octets lists.calls) lists.calls → Backs lists_reading (lists_octets lists) lists
lists_back lists first second links registrations subscriptions calls rest =
    let a = eight_octets lists.last_registration in
    let b = eight_octets lists.last_subscription in
    let c = list_octets link_octets lists.links in
    let d = list_octets registration_octets lists.registrations in
    let e = list_octets subscription_octets lists.subscriptions in
    let f = list_octets call_octets lists.calls in
    ap lists_reading (four_before a b c (d ++ (e ++ f)) rest ∙ ap (λ l. a ++ (b ++ (c ++ l))) (three_before d e f rest))
    ∙ step (number_reading id_or_none_form) a lists.last_registration _ _ _ first
    (step (number_reading id_or_none_form) b lists.last_subscription _ _ _ second
    (step (list_reading link_reading) c lists.links _ _ _ links
    (step (list_reading registration_reading) d lists.registrations _ _ _ registrations
    (step (list_reading subscription_reading) e lists.subscriptions _ _ _ subscriptions
    (step (list_reading call_reading) f lists.calls _ _ _ calls refl)))))

pub made_back : (live : Live) → Backs config_reading (config_octets live.config) live.config
    → Backs lists_reading (lists_octets (lists_of live.content)) (lists_of live.content)
    → Backs made_reading (saved live) (record { config = live.config; lists = lists_of live.content })
made_back live config lists rest =
    let a = config_octets live.config in
    let b = lists_octets (lists_of live.content) in
    ap made_reading (two_before a b rest)
    ∙ step config_reading a live.config _ _ _ config (step lists_reading b (lists_of live.content) _ _ _ lists refl)

-- ---- the whole

-- a test that holds leaves nothing
not_none : {A : Type 0} (b : Bool) (some : Option A) (a : A) → cond b None some ≡ Some a → b ≡ false
not_none true some a h = cc
not_none false some a h = refl

-- the lists of a realm are of transports that are ones
pub are_numbered : (live : Live) → IsSavable live → AreNumbered live.content.sessions.list
are_numbered live savable = All-weaker (λ (link : Link). is_misnumbered link ≡ false) (λ (link : Link). is_numbered link.transport ≡ true)
    (λ link ok. not-false (is_numbered link.transport) ok) links (All-none is_misnumbered links (or_parts (list_any is_misnumbered links)
    (has_two clash links) (sound (list_any is_misnumbered links || has_two clash links) savable)).0)
  where
    links : List Link
    links = live.content.sessions.list

    sound : (b : Bool) → from_sessions live.config.limits (lists_of live.content) (option_map (λ (list : List Link). record {
      limit = live.config.limits.sessions;
      list = list;
    }) (cond b None (Some links))) ≡ Some live.content → b ≡ false
    sound true h = cc
    sound false h = refl

pub loaded_back : (live : Live) (octets : List ℕ) → octets ≡ saved live → (AreNumbered live.content.sessions.list
    → Backs made_reading (saved live) (record { config = live.config; lists = lists_of live.content })) → IsSavable live
    → loaded octets ≡ Some live
loaded_back live octets is back savable =
    ap loaded is
    ∙ ap (λ r. found (whole r)) (ap made_reading (sym (append-nil (saved live))) ∙ back (are_numbered live savable) [])
    ∙ ap (option_map (λ (c : Content). record { config = live.config; content = c })) savable

-- ---- what a realm shows

pub shown_live : (E : Type 0) (config : Config) (content : Option Content) (live : Live) → shown {E = E} config content (Ok live)
    → (live ≡ record { config = config; content = known config content }) × (is_unknown content ≡ false)
shown_live E config None live h = absurd h
shown_live E config (Some c) live h = (h, refl)

pub shown_failed : {E : Type 0} (config : Config) (content : Option Content) (e : E) → shown config content (Err e)
    → is_unknown content ≡ true
shown_failed config None e h = refl
shown_failed config (Some c) e h = absurd h

-- a call of a realm that has not failed fails only if memory runs out
pub not_failed : {A : Type 0} (r : Result A SaveFault) (failed : Bool) → IsOkUnless r Memory → failed ≡ false
    → IsErrOf r Failed ↔ (failed ≡ true)
not_failed (Ok a) failed unless is = (λ e. cc, λ t. absurd (false≢true (sym is ∙ t)))
not_failed (Err fault) failed unless is = (λ e. apart fault unless e, λ t. absurd (false≢true (sym is ∙ t)))
  where
    apart : {A P : Type 0} (fault : SaveFault) → fault ≡ Memory → ◌≡◌ {A = Result A SaveFault} (Err fault) (Err Failed) → P
    apart Memory is e = cc
    apart Failed is e = cc

-- ---- elements that are read again under a premise

-- what each has under a premise, it has if each has the premise
pub each_under : {A : Type 0} (P Q : A → Type 0) (list : List A) → Each (λ x. Q x → P x) list → All Q list → Each P list
each_under P Q [] each all = tt
each_under P Q (x ∷ xs) each all = (each.0 (All-head Q x xs all), each_under P Q xs each.1 (All-tail Q x xs all))
