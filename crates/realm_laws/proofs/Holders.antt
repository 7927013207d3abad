-- Callees and members: what a change of registrations or subscriptions leaves of them, and adds.
use Rattle.std.proofs.Common.{◌≡◌, ⊎_elim, ℕ, ◌+◌, ◌==◌, Bool, true, false, not, refl, sym, subst, List, [], ◌∷◌, ◌++◌, map, filter}
use Rattle.std.proofs.Common.{Option, None, Some, Ok, Err, if◌then◌else◌}
use Rattle.std.specs.List.{All}
use Rattle.std.proofs.lemmas.Bool.{cond_both}
use Rattle.wamp_ids.specs.declared.policy.Invoke.{Invoke}
use Rattle.wamp_ids.specs.Pattern.{PatternValue}
use Rattle.wamp_ids.specs.Uri.{is_reserved}
use Rattle.realm_sessions.specs.declared.fault.RealmFault.TheVariants as fault
use Rattle.realm_sessions.specs.declared.links.Link.{Link}
use Rattle.realm_sessions.specs.Links.{is_taken}
use Rattle.realm_sessions.specs.Members.{joined, rotated}
use Rattle.realm_registrations.specs.declared.registration.Registration.{Registration}
use Rattle.realm_registrations.specs.Registration.{may_join, takes_turns, turned, without_callee, has_callees, has_id}
use Rattle.realm_registrations.specs.Registrations.{Registrations, Registered, Unregistered, register_at, registration_at, refused}
use Rattle.realm_registrations.specs.Registrations.{with_registration, with_callee_at, without_callee_of, is_callee}
use Rattle.realm_registrations.specs.Registrations as registering
use Rattle.realm_subscriptions.specs.declared.subscription.Subscription.{Subscription}
use Rattle.realm_subscriptions.specs.Subscription.{is_member, is_kept, is_held, without_member}
use Rattle.realm_subscriptions.specs.Subscriptions.{Subscriptions, subscription_on, is_full, put_first}
use Rattle.realm_subscriptions.specs.Subscriptions as subscriptions
use Rattle.realm_subscriptions.specs.Subscribing.{Subscribed}
use Rattle.realm_subscriptions.specs.Subscribing as subscribing
use Rattle.realm_subscriptions.specs.Leaving as left
use Rattle.realm_laws.specs.Laws.{AreCalleesOpen, AreMembersOpen}
use Rattle.realm_laws.proofs.Has.{Has, in_front, further, has_cons, has_first, has_filter, filter_test, has_map, has_last, All-has, all_of}
use Rattle.realm_laws.proofs.Moves.{not_is}

-- ---- of lists of groups

-- each session of the group is as P says
abbrev Every : (ℕ → Type 0) → List ℕ → Type 0
Every P sessions = (session : ℕ) → Has sessions session → P session

-- and each of each group
abbrev Each : {G : Type 0} → (G → List ℕ) → (ℕ → Type 0) → List G → Type 0
Each {G} ids P groups = (group : G) → Has groups group → Every P (ids group)

each_of : {G : Type 0} (ids : G → List ℕ) (P : ℕ → Type 0) (groups : List G) → All (λ group. All P (ids group)) groups → Each ids P groups
each_of ids P groups all group h session g = All-has P (All-has (λ it. All P (ids it)) all h) g

all_each : {G : Type 0} (ids : G → List ℕ) (P : ℕ → Type 0) (groups : List G) → Each ids P groups → All (λ group. All P (ids group)) groups
all_each ids P groups each = all_of (λ group. All P (ids group)) groups (λ group h. all_of P (ids group) (each group h))

each_cons : {G : Type 0} (ids : G → List ℕ) (P : ℕ → Type 0) (group : G) (groups : List G) → Every P (ids group) → Each ids P groups
    → Each ids P (group ∷ groups)
each_cons ids P group groups first rest it h =
    ⊎_elim (λ e. subst (λ g. Every P (ids g)) e first) (λ r. rest it r) (has_cons h)

each_push : {G : Type 0} (ids : G → List ℕ) (P : ℕ → Type 0) (groups : List G) (group : G) → Each ids P groups → Every P (ids group)
    → Each ids P (groups ++ group ∷ [])
each_push ids P groups group each last it h =
    ⊎_elim (λ old. each it old) (λ e. subst (λ g. Every P (ids g)) e last) (has_last groups group h)

each_weaker : {G : Type 0} (ids : G → List ℕ) (P Q : ℕ → Type 0) (groups : List G) → ((session : ℕ) → P session → Q session)
    → Each ids P groups → Each ids Q groups
each_weaker ids P Q groups weaker each group h session g = weaker session (each group h session g)

each_kept : {G : Type 0} (ids : G → List ℕ) (P : ℕ → Type 0) (test : G → Bool) (groups : List G) → Each ids P groups
    → Each ids P (filter test groups)
each_kept ids P test groups each group h = each group (has_filter test groups h)

-- one session is taken out of each group
each_without : {G : Type 0} (ids : G → List ℕ) (P Q : ℕ → Type 0) (session : ℕ) (without : G → G) (groups : List G)
    → ((group : G) → ids (without group) ≡ filter (λ it. not (it == session)) (ids group))
    → ((it : ℕ) → P it → (it == session) ≡ false → Q it) → Each ids P groups → Each ids Q (map without groups)
each_without ids P Q session without groups are weaker each group h it g =
    let was = has_map without groups h in
    let test : ℕ → Bool = λ other. not (other == session) in
    let there = subst (λ sessions. Has sessions it) (are was.0) (subst (λ k. Has (ids k) it) (sym was.2) g) in
    weaker it (each was.0 was.1 it (has_filter test (ids was.0) there)) (not_is (it == session) (filter_test test (ids was.0) there))

-- ---- of one group

every_joined : (P : ℕ → Type 0) (session : ℕ) (sessions : List ℕ) → P session → Every P sessions → Every P (joined session sessions)
every_joined P session sessions new all it h = ⊎_elim (λ old. all it old) (λ e. subst P e new) (has_last sessions session h)

every_one : (P : ℕ → Type 0) (session : ℕ) → P session → Every P (session ∷ [])
every_one P session new = every_joined P session [] new (λ it h. elim h [ ])

has_rotated : (sessions : List ℕ) {it : ℕ} → Has (rotated sessions) it → Has sessions it
has_rotated [] h = h
has_rotated (first ∷ rest) h = ⊎_elim (λ r. further r) (λ e. has_first rest e) (has_last rest first h)

-- ---- registrations

abbrev callees : Registration → List ℕ
callees registration = registration.callees

callees_changed : (P : ℕ → Type 0) (test : Registration → Bool) (change : Registration → Registration) (list : List Registration)
    → ((it : Registration) → Every P it.callees → Every P (change it).callees) → Each callees P list
    → Each callees P (registering.change_first test change list)
callees_changed P test change [] one each = each
callees_changed P test change (it ∷ rest) one each =
    cond_both (test it) (change it ∷ rest) (it ∷ registering.change_first test change rest) (Each callees P)
    (λ _. each_cons callees P (change it) rest (one it (each it in_front)) (λ group h. each group (further h)))
    (λ _. each_cons callees P it (registering.change_first test change rest) (each it in_front)
    (callees_changed P test change rest one (λ group h. each group (further h))))

registered_at : (P : ℕ → Type 0) (it : Registrations) (session : ℕ) (pattern : PatternValue) (invoke : Invoke) (o : Option Registration)
    → P session → Each callees P it.list → Each callees P (register_at it session pattern invoke o).registrations.list
registered_at P it session pattern invoke None new each =
    cond_both (registering.is_full it session) (refused it fault.Limit)
    (record { registrations = with_registration it session pattern invoke; answer = Ok (it.last + 1) })
    (λ (r : Registered). Each callees P r.registrations.list) (λ _. each)
    (λ _. each_push callees P it.list (record { id = it.last + 1; pattern = pattern; invoke = invoke; callees = session ∷ [] }) each
    (every_one P session new))
registered_at P it session pattern invoke (Some found) new each =
    cond_both (not (may_join session invoke found)) (refused it fault.AlreadyExists) joins
    (λ (r : Registered). Each callees P r.registrations.list) (λ _. each)
    (λ _. cond_both (registering.is_full it session) (refused it fault.Limit) joined_one
    (λ (r : Registered). Each callees P r.registrations.list) (λ _. each)
    (λ _. callees_changed P _ _ it.list (λ one all. every_joined P session one.callees new all) each))
  where
    joined_one : Registered
    joined_one = record { registrations = with_callee_at it session pattern; answer = Ok found.id }

    joins : Registered
    joins = if registering.is_full it session then refused it fault.Limit else joined_one

turned_callees : (P : ℕ → Type 0) (it : Registration) → Every P it.callees → Every P (turned it).callees
turned_callees P it all session =
    cond_both (takes_turns it.invoke) (record it { callees = rotated it.callees }) it (λ (r : Registration). Has r.callees session → P session)
    (λ _ h. all session (has_rotated it.callees h)) (λ _ h. all session h)

abbrev is_open : List Link → ℕ → Type 0
is_open links session = is_taken links session ≡ true

pub callees_stay : (links after : List Link) (list : List Registration)
    → ((session : ℕ) → is_taken links session ≡ true → is_taken after session ≡ true) → AreCalleesOpen links list
    → AreCalleesOpen after list
callees_stay links after list stays all =
    all_each callees (is_open after) list
    (each_weaker callees (is_open links) (is_open after) list stays (each_of callees (is_open links) list all))

pub callees_registered : (links : List Link) (it : Registrations) (session : ℕ) (pattern : PatternValue) (invoke : Invoke)
    → is_taken links session ≡ true → AreCalleesOpen links it.list
    → AreCalleesOpen links (registering.register it session pattern invoke).registrations.list
callees_registered links it session pattern invoke here all =
    let each = each_of callees (is_open links) it.list all in
    all_each callees (is_open links) (registering.register it session pattern invoke).registrations.list
    (cond_both (is_reserved pattern.text) (refused it fault.InvalidUri)
    (register_at it session pattern invoke (registration_at it pattern))
    (λ (r : Registered). Each callees (is_open links) r.registrations.list) (λ _. each)
    (λ _. registered_at (is_open links) it session pattern invoke (registration_at it pattern) here each))

pub callees_unregistered : (links : List Link) (it : Registrations) (session id : ℕ) → AreCalleesOpen links it.list
    → AreCalleesOpen links (registering.unregister it session id).registrations.list
callees_unregistered links it session id all =
    let each = each_of callees (is_open links) it.list all in
    all_each callees (is_open links) (registering.unregister it session id).registrations.list
    (cond_both (is_callee it session id) (record { registrations = without_callee_of it session id; answer = Ok tt })
    (record { registrations = it; answer = Err fault.NoSuchRegistration })
    (λ (r : Unregistered). Each callees (is_open links) r.registrations.list)
    (λ _. each_kept callees (is_open links) has_callees _
    (callees_changed (is_open links) (has_id id) (without_callee session) it.list
    (λ one was other h. was other (has_filter (λ member. not (member == session)) one.callees h)) each))
    (λ _. each))

pub callees_left : (links after : List Link) (it : Registrations) (session : ℕ)
    → ((other : ℕ) → is_taken links other ≡ true → (other == session) ≡ false → is_taken after other ≡ true)
    → AreCalleesOpen links it.list → AreCalleesOpen after (registering.leave it session).list
callees_left links after it session stays all =
    all_each callees (is_open after) (registering.leave it session).list
    (each_kept callees (is_open after) has_callees (map (without_callee session) it.list)
    (each_without callees (is_open links) (is_open after) session (without_callee session) it.list (λ _. refl) stays
    (each_of callees (is_open links) it.list all)))

pub callees_turned : (links : List Link) (it : Registrations) (id : ℕ) → AreCalleesOpen links it.list
    → AreCalleesOpen links (registering.turn it id).list
callees_turned links it id all =
    all_each callees (is_open links) (registering.turn it id).list
    (callees_changed (is_open links) (has_id id) turned it.list (turned_callees (is_open links)) (each_of callees (is_open links) it.list all))

-- ---- subscriptions

abbrev members : Subscription → List ℕ
members subscription = subscription.members

members_changed : (P : ℕ → Type 0) (test : Subscription → Bool) (change : Subscription → Option Subscription) (list : List Subscription)
    → ((it new : Subscription) → change it ≡ Some new → Every P it.members → Every P new.members) → Each members P list
    → Each members P (subscriptions.change_first test change list)
members_changed P test change [] one each = each
members_changed P test change (it ∷ rest) one each =
    cond_both (test it) (put_first (change it) rest) (it ∷ subscriptions.change_first test change rest) (Each members P)
    (λ _. put (change it) refl)
    (λ _. each_cons members P it (subscriptions.change_first test change rest) (each it in_front)
    (members_changed P test change rest one (λ group h. each group (further h))))
  where
    put : (o : Option Subscription) → change it ≡ o → Each members P (put_first o rest)
    put None e = λ group h. each group (further h)
    put (Some new) e = each_cons members P new rest (one it new e (each it in_front)) (λ group h. each group (further h))

some_is : {A : Type 0} {x y : A} → Some x ≡ Some y → x ≡ y
some_is h = cc

members_joined : (P : ℕ → Type 0) (it : Subscriptions) (session : ℕ) (pattern : PatternValue) → P session → Each members P it.list
    → Each members P (subscribing.join it session pattern).list
members_joined P it session pattern new each =
    members_changed P _ _ it.list
    (λ one changed e all. subst (λ (s : Subscription). Every P s.members) (some_is e) (every_joined P session one.members new all)) each

subscribed_to : (P : ℕ → Type 0) (it : Subscriptions) (session : ℕ) (pattern : PatternValue) (o : Option Subscription) → P session
    → Each members P it.list → Each members P (subscribing.subscribe_to it session pattern o).subscriptions.list
subscribed_to P it session pattern o new each = by_found o
  where
    unless_full : (id : ℕ) (changed : Subscriptions) → Each members P changed.list
        → Each members P (subscribing.unless_full it session id changed).subscriptions.list
    unless_full id changed fine =
        cond_both (is_full it session) (record { subscriptions = it; answer = Err fault.Limit })
        (record { subscriptions = changed; answer = Ok id }) (λ (d : Subscribed). Each members P d.subscriptions.list)
        (λ _. each) (λ _. fine)

    by_found : (o : Option Subscription) → Each members P (subscribing.subscribe_to it session pattern o).subscriptions.list
    by_found None =
        unless_full (it.last + 1) (subscribing.add it session pattern)
        (each_push members P it.list (record { id = it.last + 1; pattern = pattern; members = session ∷ [] }) each (every_one P session new))
    by_found (Some found) =
        cond_both (is_member session found) (record { subscriptions = it; answer = Ok found.id })
        (subscribing.unless_full it session found.id (subscribing.join it session pattern))
        (λ (d : Subscribed). Each members P d.subscriptions.list) (λ _. each)
        (λ _. unless_full found.id (subscribing.join it session pattern) (members_joined P it session pattern new each))

pub members_stay : (links after : List Link) (list : List Subscription)
    → ((session : ℕ) → is_taken links session ≡ true → is_taken after session ≡ true) → AreMembersOpen links list
    → AreMembersOpen after list
members_stay links after list stays all =
    all_each members (is_open after) list
    (each_weaker members (is_open links) (is_open after) list stays (each_of members (is_open links) list all))

pub members_subscribed : (links : List Link) (it : Subscriptions) (session : ℕ) (pattern : PatternValue)
    → is_taken links session ≡ true → AreMembersOpen links it.list
    → AreMembersOpen links (subscribing.subscribe it session pattern).subscriptions.list
members_subscribed links it session pattern here all =
    all_each members (is_open links) (subscribing.subscribe it session pattern).subscriptions.list
    (subscribed_to (is_open links) it session pattern (subscription_on it pattern) here (each_of members (is_open links) it.list all))

pub members_unsubscribed : (links : List Link) (it : Subscriptions) (session id : ℕ) → AreMembersOpen links it.list
    → AreMembersOpen links (left.unsubscribe it session id).list
members_unsubscribed links it session id all =
    all_each members (is_open links) (left.unsubscribe it session id).list
    (members_changed (is_open links) (is_held session id) (left.left session) it.list one_left (each_of members (is_open links) it.list all))
  where
    one_left : (one new : Subscription) → left.left session one ≡ Some new → Every (is_open links) one.members → Every (is_open links) new.members
    one_left one new e was =
        cond_both (is_kept (without_member session one)) (Some (without_member session one)) None
        (λ o. o ≡ Some new → Every (is_open links) new.members)
        (λ _ g. subst (λ (s : Subscription). Every (is_open links) s.members) (some_is g)
        (λ other h. was other (has_filter (λ member. not (member == session)) one.members h)))
        (λ _ g. absurd (none g)) e
      where
        none : None ≡ Some new → ⊥
        none h = cc

pub members_left : (links after : List Link) (it : Subscriptions) (session : ℕ)
    → ((other : ℕ) → is_taken links other ≡ true → (other == session) ≡ false → is_taken after other ≡ true)
    → AreMembersOpen links it.list → AreMembersOpen after (left.leave it session).list
members_left links after it session stays all =
    all_each members (is_open after) (left.leave it session).list
    (each_kept members (is_open after) is_kept (map (without_member session) it.list)
    (each_without members (is_open links) (is_open after) session (without_member session) it.list (λ _. refl) stays
    (each_of members (is_open links) it.list all)))

-- ---- one callee, one member

pub callee_open : (links : List Link) (list : List Registration) → AreCalleesOpen links list → (it : Registration) → Has list it
    → (session : ℕ) → Has it.callees session → is_taken links session ≡ true
callee_open links list all it h session g = each_of callees (is_open links) list all it h session g

pub member_open : (links : List Link) (list : List Subscription) → AreMembersOpen links list → (it : Subscription) → Has list it
    → (session : ℕ) → Has it.members session → is_taken links session ≡ true
member_open links list all it h session g = each_of members (is_open links) list all it h session g
