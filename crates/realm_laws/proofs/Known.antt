-- What a realm knows of transports and ids: each connected transport passes a test, and ids begin with 1. What each part's change keeps of
-- it, and what is said to sessions then.
use Rattle.std.proofs.Common.{◌≡◌, ⊎_elim, ℕ, ◌+◌, ◌<◌, ◌==◌, Bool, true, not, refl, sym, ap, ◌∙◌, subst, arith}
use Rattle.std.proofs.Common.{List, [], ◌∷◌, ◌++◌, map, filter, find, Option, None, Some, option_map, Ok, Err, if◌then◌else◌}
use Rattle.std.specs.List.{flat_map}
use Rattle.std.proofs.lemmas.Bool.{cond_both}
use Rattle.paxos_packets.specs.declared.transport.Transport.{Transport}
use Rattle.wamp_ids.specs.declared.policy.Invoke.{Invoke}
use Rattle.wamp_ids.specs.Pattern.{PatternValue}
use Rattle.wamp_ids.specs.Uri.{is_reserved}
use Rattle.wamp_message_types.specs.declared.message.Message.{Message}
use Rattle.realm_sessions.specs.declared.fault.RealmFault.TheVariants as fault
use Rattle.realm_sessions.specs.declared.links.Session.{Session}
use Rattle.realm_sessions.specs.declared.links.Link.{Link}
use Rattle.realm_sessions.specs.Links.{is_of, has_id, is_connected, connect, put_session, set_session, without_transport}
use Rattle.realm_sessions.specs.Links.{of_origin, put_invocation, set_invocation, invoked}
use Rattle.realm_registrations.specs.declared.registration.Registration.{Registration}
use Rattle.realm_registrations.specs.Registration.{has_id as has_registration, is_at, has_callees, may_join, with_callee, without_callee}
use Rattle.realm_registrations.specs.Registration.{takes_turns, turned}
use Rattle.realm_registrations.specs.Registrations.{Registrations, Registered, Unregistered, register_at, registration_at, refused}
use Rattle.realm_registrations.specs.Registrations.{with_registration, with_callee_at, without_callee_of, is_callee}
use Rattle.realm_registrations.specs.Registrations as registering
use Rattle.realm_sessions.specs.Members.{rotated}
use Rattle.realm_subscriptions.specs.declared.subscription.Subscription.{Subscription}
use Rattle.realm_subscriptions.specs.Subscription.{is_member, is_kept, is_held, is_on, with_member, without_member}
use Rattle.realm_subscriptions.specs.Subscriptions.{Subscriptions, subscription_on, is_full, put_first}
use Rattle.realm_subscriptions.specs.Subscriptions as subscriptions
use Rattle.realm_subscriptions.specs.Subscribing.{Subscribed}
use Rattle.realm_subscriptions.specs.Subscribing as subscribing
use Rattle.realm_subscriptions.specs.Leaving as left
use Rattle.realm_machine.specs.declared.sayings.say.Say.{Say}
use Rattle.realm_machine.specs.Sayings.{say, say_to, to_session}
use Rattle.realm_laws.proofs.Has.{Has, in_front, further, has_cons, has_nil, has_filter, has_map, has_last, has_either, has_flat, find_has}
use Rattle.realm_laws.proofs.Has.{some_is}

-- ---- connected transports

-- each passes the test
abbrev pub AreOf : (Transport → Bool) → List Link → Type 0
AreOf P links = (link : Link) → Has links link → P link.transport ≡ true

mapped_of : (P : Transport → Bool) (change : Link → Link) (links : List Link) → ((link : Link) → (change link).transport ≡ link.transport)
    → AreOf P links → AreOf P (map change links)
mapped_of P change links same are link h =
    let was = has_map change links h in
    subst (λ (t : Transport). P t ≡ true) (sym (same was.0) ∙ ap (λ (l : Link). l.transport) was.2) (are was.0 was.1)

pub set_of : (P : Transport → Bool) (links : List Link) (t : Transport) (session : Option Session) → AreOf P links
    → AreOf P (set_session links t session)
set_of P links t session are =
    mapped_of P (put_session t session) links
    (λ link. cond_both (is_of t link) (record { transport = link.transport; session = session }) link
    (λ (l : Link). l.transport ≡ link.transport) (λ _. refl) (λ _. refl))
    are

pub invoked_of : (P : Transport → Bool) (links : List Link) (id invocation : ℕ) → AreOf P links
    → AreOf P (set_invocation links id invocation)
invoked_of P links id invocation are =
    mapped_of P (put_invocation id invocation) links
    (λ link. cond_both (has_id id link) (record { transport = link.transport; session = invoked invocation link.session }) link
    (λ (l : Link). l.transport ≡ link.transport) (λ _. refl) (λ _. refl))
    are

pub connected_of : (P : Transport → Bool) (links : List Link) (t : Transport) → P t ≡ true → AreOf P links → AreOf P (connect links t)
connected_of P links t own are =
    let new : Link = record { transport = t; session = None } in
    cond_both (is_connected links t) links (links ++ new ∷ []) (AreOf P) (λ _. are)
    (λ _ link h. ⊎_elim (λ old. are link old) (λ e. subst (λ (l : Link). P l.transport ≡ true) e own) (has_last links new h))

pub removed_of : (P : Transport → Bool) (links : List Link) (t : Transport) → AreOf P links → AreOf P (without_transport links t)
removed_of P links t are link h = are link (has_filter (λ (l : Link). not (is_of t l)) links h)

-- the transports that a node took are among them
pub origin_of : (P : Transport → Bool) (links : List Link) (node : ℕ) → AreOf P links → (t : Transport) → Has (of_origin links node) t
    → P t ≡ true
origin_of P links node are t h =
    let test : Link → Bool = λ link. link.transport.node == node in
    let was = has_map (λ (l : Link). l.transport) (filter test links) h in
    subst (λ (u : Transport). P u ≡ true) was.2 (are was.0 (has_filter test links was.1))

-- ---- what is said

-- each saying is for one that passes the test
abbrev pub AreFor : (Transport → Bool) → List Say → Type 0
AreFor P said = (it : Say) → Has said it → P it.transport ≡ true

pub for_none : (P : Transport → Bool) → AreFor P []
for_none P it h = absurd (has_nil h)

pub for_first : (P : Transport → Bool) (it : Say) (rest : List Say) → P it.transport ≡ true → AreFor P rest → AreFor P (it ∷ rest)
for_first P it rest own are x h = ⊎_elim (λ e. subst (λ (y : Say). P y.transport ≡ true) e own) (λ r. are x r) (has_cons h)

pub for_one : (P : Transport → Bool) (it : Say) → P it.transport ≡ true → AreFor P (it ∷ [])
for_one P it own = for_first P it [] own (for_none P)

pub for_both : (P : Transport → Bool) (xs ys : List Say) → AreFor P xs → AreFor P ys → AreFor P (xs ++ ys)
for_both P xs ys first second it h = ⊎_elim (λ a. first it a) (λ b. second it b) (has_either xs ys h)

pub for_each : {A : Type 0} (P : Transport → Bool) (f : A → List Say) (xs : List A) → ((x : A) → AreFor P (f x)) → AreFor P (flat_map f xs)
for_each P f xs each it h = let from = has_flat f xs h in each from.0 it from.2

not_some : {A R : Type 0} {x : A} → None ≡ Some x → R
not_some h = absurd (none h)
  where
    none : {A : Type 0} {x : A} → None ≡ Some x → ⊥
    none h = cc

-- a session's transport is connected
pub for_session : (P : Transport → Bool) (links : List Link) (id : ℕ) (message : Message) → AreOf P links
    → AreFor P (to_session links id message)
for_session P links id message are = by (find (has_id id) links) refl
  where
    by : (o : Option Link) → find (has_id id) links ≡ o → AreFor P (say_to (option_map (λ (link : Link). link.transport) o) message)
    by None e = for_none P
    by (Some link) e = for_one P (say link.transport message) (are link (find_has (has_id id) links e).0)

-- ---- ids of registrations

abbrev pub FromOne : List Registration → Type 0
FromOne list = (it : Registration) → Has list it → 0 < it.id

changed_from : (test : Registration → Bool) (change : Registration → Registration) (list : List Registration)
    → ((it : Registration) → (change it).id ≡ it.id) → FromOne list → FromOne (registering.change_first test change list)
changed_from test change [] same are = are
changed_from test change (it ∷ rest) same are =
    cond_both (test it) (change it ∷ rest) (it ∷ registering.change_first test change rest) FromOne
    (λ _ x h. ⊎_elim
    (λ e. subst (λ (y : Registration). 0 < y.id) e (subst (λ (n : ℕ). 0 < n) (sym (same it)) (are it in_front)))
    (λ r. are x (further r)) (has_cons h))
    (λ _ x h. ⊎_elim (λ e. subst (λ (y : Registration). 0 < y.id) e (are it in_front))
    (λ r. changed_from test change rest same (λ y g. are y (further g)) x r) (has_cons h))

kept_from : (test : Registration → Bool) (list : List Registration) → FromOne list → FromOne (filter test list)
kept_from test list are it h = are it (has_filter test list h)

registered_at : (it : Registrations) (session : ℕ) (pattern : PatternValue) (invoke : Invoke) (o : Option Registration) → FromOne it.list
    → FromOne (register_at it session pattern invoke o).registrations.list
registered_at it session pattern invoke None are =
    let new : Registration = record { id = it.last + 1; pattern = pattern; invoke = invoke; callees = session ∷ [] } in
    cond_both (registering.is_full it session) (refused it fault.Limit)
    (record { registrations = with_registration it session pattern invoke; answer = Ok (it.last + 1) })
    (λ (r : Registered). FromOne r.registrations.list) (λ _. are)
    (λ _ x h. ⊎_elim (λ old. are x old) (λ e. subst (λ (y : Registration). 0 < y.id) e (let l : 0 < it.last + 1 = omega arith in l))
    (has_last it.list new h))
registered_at it session pattern invoke (Some found) are =
    cond_both (not (may_join session invoke found)) (refused it fault.AlreadyExists) joins
    (λ (r : Registered). FromOne r.registrations.list) (λ _. are)
    (λ _. cond_both (registering.is_full it session) (refused it fault.Limit) joined_one
    (λ (r : Registered). FromOne r.registrations.list) (λ _. are)
    (λ _. changed_from (is_at pattern) (with_callee session) it.list (λ one. refl) are))
  where
    joined_one : Registered
    joined_one = record { registrations = with_callee_at it session pattern; answer = Ok found.id }

    joins : Registered
    joins = if registering.is_full it session then refused it fault.Limit else joined_one

pub registered_from : (it : Registrations) (session : ℕ) (pattern : PatternValue) (invoke : Invoke) → FromOne it.list
    → FromOne (registering.register it session pattern invoke).registrations.list
registered_from it session pattern invoke are =
    cond_both (is_reserved pattern.text) (refused it fault.InvalidUri) (register_at it session pattern invoke (registration_at it pattern))
    (λ (r : Registered). FromOne r.registrations.list) (λ _. are)
    (λ _. registered_at it session pattern invoke (registration_at it pattern) are)

pub unregistered_from : (it : Registrations) (session id : ℕ) → FromOne it.list
    → FromOne (registering.unregister it session id).registrations.list
unregistered_from it session id are =
    cond_both (is_callee it session id) (record { registrations = without_callee_of it session id; answer = Ok tt })
    (record { registrations = it; answer = Err fault.NoSuchRegistration })
    (λ (r : Unregistered). FromOne r.registrations.list)
    (λ _. kept_from has_callees (registering.change_first (has_registration id) (without_callee session) it.list)
    (changed_from (has_registration id) (without_callee session) it.list (λ one. refl) are))
    (λ _. are)

pub withdrawn_from : (it : Registrations) (session : ℕ) → FromOne it.list → FromOne (registering.leave it session).list
withdrawn_from it session are =
    kept_from has_callees (map (without_callee session) it.list)
    (λ x h. let was = has_map (without_callee session) it.list h in subst (λ (y : Registration). 0 < y.id) was.2 (are was.0 was.1))

pub turned_from : (it : Registrations) (id : ℕ) → FromOne it.list → FromOne (registering.turn it id).list
turned_from it id are =
    changed_from (has_registration id) turned it.list
    (λ one. cond_both (takes_turns one.invoke) (record one { callees = rotated one.callees }) one
    (λ (r : Registration). r.id ≡ one.id) (λ _. refl) (λ _. refl))
    are

-- ---- ids of subscriptions

abbrev pub CountFromOne : List Subscription → Type 0
CountFromOne list = (it : Subscription) → Has list it → 0 < it.id

changed_count : (test : Subscription → Bool) (change : Subscription → Option Subscription) (list : List Subscription)
    → ((it new : Subscription) → change it ≡ Some new → new.id ≡ it.id) → CountFromOne list
    → CountFromOne (subscriptions.change_first test change list)
changed_count test change [] same are = are
changed_count test change (it ∷ rest) same are =
    cond_both (test it) (put_first (change it) rest) (it ∷ subscriptions.change_first test change rest) CountFromOne
    (λ _. put (change it) refl)
    (λ _ x h. ⊎_elim (λ e. subst (λ (y : Subscription). 0 < y.id) e (are it in_front))
    (λ r. changed_count test change rest same (λ y g. are y (further g)) x r) (has_cons h))
  where
    put : (o : Option Subscription) → change it ≡ o → CountFromOne (put_first o rest)
    put None e = λ x h. are x (further h)
    put (Some new) e = λ x h. ⊎_elim
        (λ s. subst (λ (y : Subscription). 0 < y.id) s (subst (λ (n : ℕ). 0 < n) (sym (same it new e)) (are it in_front)))
        (λ r. are x (further r)) (has_cons h)

subscribed_to : (it : Subscriptions) (session : ℕ) (pattern : PatternValue) (o : Option Subscription) → CountFromOne it.list
    → CountFromOne (subscribing.subscribe_to it session pattern o).subscriptions.list
subscribed_to it session pattern o are = by_found o
  where
    unless_full : (id : ℕ) (changed : Subscriptions) → CountFromOne changed.list
        → CountFromOne (subscribing.unless_full it session id changed).subscriptions.list
    unless_full id changed fine =
        cond_both (is_full it session) (record { subscriptions = it; answer = Err fault.Limit })
        (record { subscriptions = changed; answer = Ok id }) (λ (d : Subscribed). CountFromOne d.subscriptions.list)
        (λ _. are) (λ _. fine)

    new : Subscription
    new = record { id = it.last + 1; pattern = pattern; members = session ∷ [] }

    by_found : (o : Option Subscription) → CountFromOne (subscribing.subscribe_to it session pattern o).subscriptions.list
    by_found None =
        unless_full (it.last + 1) (subscribing.add it session pattern)
        (λ x h. ⊎_elim (λ old. are x old) (λ e. subst (λ (y : Subscription). 0 < y.id) e (let l : 0 < it.last + 1 = omega arith in l))
        (has_last it.list new h))
    by_found (Some found) =
        cond_both (is_member session found) (record { subscriptions = it; answer = Ok found.id })
        (subscribing.unless_full it session found.id (subscribing.join it session pattern))
        (λ (d : Subscribed). CountFromOne d.subscriptions.list) (λ _. are)
        (λ _. unless_full found.id (subscribing.join it session pattern)
        (changed_count (is_on pattern) (λ one. Some (with_member session one)) it.list
        (λ one changed e. ap (λ (s : Subscription). s.id) (sym (some_is e))) are))

pub subscribed_count : (it : Subscriptions) (session : ℕ) (pattern : PatternValue) → CountFromOne it.list
    → CountFromOne (subscribing.subscribe it session pattern).subscriptions.list
subscribed_count it session pattern are = subscribed_to it session pattern (subscription_on it pattern) are

pub unsubscribed_count : (it : Subscriptions) (session id : ℕ) → CountFromOne it.list → CountFromOne (left.unsubscribe it session id).list
unsubscribed_count it session id are = changed_count (is_held session id) (left.left session) it.list same are
  where
    same : (one new : Subscription) → left.left session one ≡ Some new → new.id ≡ one.id
    same one new e =
        cond_both (is_kept (without_member session one)) (Some (without_member session one)) None (λ o. o ≡ Some new → new.id ≡ one.id)
        (λ _ g. ap (λ (s : Subscription). s.id) (sym (some_is g))) (λ _ g. not_some g) e

pub withdrawn_count : (it : Subscriptions) (session : ℕ) → CountFromOne it.list → CountFromOne (left.leave it session).list
withdrawn_count it session are x h =
    let was = has_map (without_member session) it.list (has_filter is_kept (map (without_member session) it.list) h) in
    subst (λ (y : Subscription). 0 < y.id) was.2 (are was.0 was.1)
