-- A realm that is told nothing but inputs whose nodes, boots and transports are ones stays one that comes back out of its lists.
use Rattle.std.proofs.Common.{◌≡◌, ◌≢◌, ℕ, ◌<◌, ◌≤◌, Bool, true, false, not, ◌&&◌, ◌||◌, refl, sym, ap, ◌∙◌, arith}
use Rattle.std.proofs.Common.{List, [], ◌∷◌, map, length, Option, None, Some}
use Rattle.std.specs.Prelude.{All, AllPairs, nat_lt}
use Rattle.std.specs.List.{list_any}
use Rattle.std.proofs.lemmas.Bool.{cond-false, false_from_ne_true, not_from_true, and_from, or_from, eq-eqb}
use Rattle.std.proofs.lemmas.Bool.{ne_eqb, lt-ltb, le-ltb}
use Rattle.std.proofs.lemmas.List.Elements.{All-nil, All-head}
use Rattle.wamp_ids.specs.Id.{last_id}
use Rattle.wamp_ids.specs.Pattern.{PatternValue}
use Rattle.wamp_ids.specs.declared.policy.Invoke.{Invoke}
use Rattle.wamp_ids.specs.declared.policy.Invoke.TheVariants.{Single, First, Last, RoundRobin}
use Rattle.wamp_patterns.specs.Table.{same_pattern}
use Rattle.replica_machine.specs.declared.input.Input.{Input}
use Rattle.replica_machine.specs.declared.input.Input.TheVariants.{Boot, Lost, Item}
use Rattle.replica_machine.specs.Given.{IsGiven}
use Rattle.realm_acts.specs.declared.act.Act.{Act}
use Rattle.paxos_packets.specs.Transport.{same_transport}
use Rattle.realm_sessions.specs.Apart.{has_two}
use Rattle.realm_sessions.specs.declared.links.Session.{Session}
use Rattle.realm_sessions.specs.declared.links.Link.{Link}
use Rattle.realm_sessions.specs.Links.{has_id, is_session, is_taken}
use Rattle.realm_sessions.specs.Laws.{AreOtherSessions, AreSoundLinks}
use Rattle.realm_sessions.specs.Sessions.{Sessions}
use Rattle.realm_sessions.specs.Restoring.{is_numbered, is_misnumbered, has_session_of, same_session, clash, sessions_of}
use Rattle.realm_sessions.proofs.Pairs.{AllPairs-head, AllPairs-tail}
use Rattle.realm_sessions.proofs.SoundLinks.{same_is}
use Rattle.realm_groups.specs.Restoring.{rise_from, same_at, are_damaged}
use Rattle.realm_groups.proofs.Patterns.{the_same}
use Rattle.realm_registrations.specs.declared.registration.Registration.{Registration}
use Rattle.realm_registrations.specs.Registration.{is_shared}
use Rattle.realm_registrations.specs.Registrations.{Registrations}
use Rattle.realm_registrations.specs.Laws.{IsSoundRegistration, AreSoundRegistrations}
use Rattle.realm_registrations.specs.Restoring as registering
use Rattle.realm_subscriptions.specs.declared.subscription.Subscription.{Subscription}
use Rattle.realm_subscriptions.specs.Subscriptions.{Subscriptions}
use Rattle.realm_subscriptions.specs.Laws.{IsSoundSubscription, AreSoundSubscriptions}
use Rattle.realm_subscriptions.specs.Restoring as subscribing
use Rattle.realm_calls.specs.declared.calls.Open.{Open}
use Rattle.realm_calls.specs.Calls.{Calls, is_call, is_invocation}
use Rattle.realm_calls.specs.Laws.{AreOtherRequests, AreOtherInvocations, AreSoundCalls}
use Rattle.realm_calls.specs.Restoring as calling
use Rattle.realm_machine.specs.Content.{Content}
use Rattle.realm_machine.specs.Step.{after_input}
use Rattle.realm_machine.specs.Parts.{lists_of, is_nobody, is_called_of_nobody, is_joined_by_nobody, is_of_nobody, name_nobody}
use Rattle.realm_machine.specs.Parts.{from_calls, from_subscriptions, from_registrations, from_sessions}
use Rattle.realm_laws.specs.Laws.{AreSoundOpenCalls, AreCalleesOpen, AreMembersOpen}
use Rattle.realm_laws.specs.Kept.{IsNumbered, EmptyIsKept, EachInputKeepsCalls, EachInputKeepsNumbered}
use Rattle.realm_laws.specs.Kept.{EachInputKeepsAll, KeptComesBack}
use Rattle.realm_laws.proofs.Has.{Has, in_front, further, All-has, all_of}
use Rattle.realm_laws.proofs.SoundSteps.{empty_sound, input_sound}
use Rattle.realm_laws.proofs.Steps.{open_calls_sound, calls_after}
use Rattle.realm_laws.proofs.Minding.{Knows}
use Rattle.realm_laws.proofs.Minded.{IsOf, input_minds}

-- ---- each input

pub input_calls : EachInputKeepsCalls
input_calls config c input sound calls = calls_after config c input sound.links calls

given_of : (input : Input Act) → IsGiven input → IsOf is_numbered input
given_of (Boot node boot) given = tt
given_of (Lost node boot) given = tt
given_of (Item t act) given = given

knows_of : (c : Content) → IsNumbered c → Knows is_numbered c
knows_of c it = record {
  links = λ link h. All-has (λ (l : Link). is_numbered l.transport ≡ true) it.links h;
  registrations = λ one h. All-has (λ (r : Registration). 0 < r.id) it.registrations h;
  subscriptions = λ one h. All-has (λ (s : Subscription). 0 < s.id) it.subscriptions h;
}

numbered_of : (c : Content) → Knows is_numbered c → IsNumbered c
numbered_of c it = record {
  links = all_of (λ (l : Link). is_numbered l.transport ≡ true) c.sessions.list it.links;
  registrations = all_of (λ (r : Registration). 0 < r.id) c.registrations.list it.registrations;
  subscriptions = all_of (λ (s : Subscription). 0 < s.id) c.subscriptions.list it.subscriptions;
}

pub input_numbered : EachInputKeepsNumbered
input_numbered config c input given it =
    numbered_of (after_input config c input) (input_minds is_numbered config c input (given_of input given) (knows_of c it)).knows

pub input_kept : EachInputKeepsAll
input_kept config c input given it = record {
  sound = input_sound config c input it.sound;
  calls = input_calls config c input it.sound it.calls;
  numbered = input_numbered config c input given it.numbered;
}

pub empty_kept : EmptyIsKept
empty_kept config = record {
  sound = empty_sound config;
  calls = open_calls_sound config [];
  numbered = record { links = All-nil _; registrations = All-nil _; subscriptions = All-nil _ };
}

-- ---- tests that none passes

none_any : {A : Type 0} (test : A → Bool) (xs : List A) → ((x : A) → Has xs x → test x ≡ false) → list_any test xs ≡ false
none_any test [] h = refl
none_any test (x ∷ xs) h = or_from (test x) (list_any test xs) (h x in_front) (none_any test xs (λ y g. h y (further g)))

none_two : {A : Type 0} (clash : A → A → Bool) (xs : List A) → AllPairs (λ a b. clash a b ≡ false) xs → has_two clash xs ≡ false
none_two clash [] h = refl
none_two {A} clash (x ∷ xs) h =
    let apart : A → A → Type 0 = λ a b. clash a b ≡ false in
    or_from (list_any (clash x) xs) (has_two clash xs)
    (none_any (clash x) xs (λ y g. All-has (apart x) (AllPairs-head apart x xs h) g))
    (none_two clash xs (AllPairs-tail apart x xs h))

each_two : {A : Type 0} (R Q : A → A → Type 0) → ((a b : A) → R a b → Q a b) → (xs : List A) → AllPairs R xs → AllPairs Q xs
each_two R Q weaker xs h i j d before within = weaker _ _ (h i j d before within)

both_two : {A : Type 0} (R Q : A → A → Type 0) (xs : List A) → AllPairs R xs → AllPairs Q xs → AllPairs (λ a b. R a b × Q a b) xs
both_two R Q xs h g i j d before within = (h i j d before within, g i j d before within)

-- ---- links

other_session : (a b : Link) → AreOtherSessions a b → same_session a b ≡ false
other_session a b apart = by b.session refl
  where
    by : (o : Option Session) → b.session ≡ o → has_session_of o a ≡ false
    by None e = refl
    by (Some session) e =
        false_from_ne_true (has_id session.id a)
        (λ h. apart session.id h (ap (is_session session.id) e ∙ eq-eqb session.id session.id refl))

links_apart : (a b : Link) → (a.transport ≢ b.transport) × AreOtherSessions a b → clash a b ≡ false
links_apart a b h =
    or_from (same_transport a.transport b.transport) (same_session a b)
    (false_from_ne_true (same_transport a.transport b.transport) (λ e. h.0 (same_is a.transport b.transport e)))
    (other_session a b h.1)

sessions_back : (sessions : Sessions) (limit : ℕ) → sessions.limit ≡ limit → AreSoundLinks sessions.list
    → All (λ (link : Link). is_numbered link.transport ≡ true) sessions.list → sessions_of limit sessions.list ≡ Some sessions
sessions_back sessions limit same sound numbered =
    let links = sessions.list in
    let R : Link → Link → Type 0 = λ a b. a.transport ≢ b.transport in
    let none : (list_any is_misnumbered links || has_two clash links) ≡ false =
    or_from (list_any is_misnumbered links) (has_two clash links)
    (none_any is_misnumbered links
    (λ link h. not_from_true (is_numbered link.transport) (All-has (λ (l : Link). is_numbered l.transport ≡ true) numbered h)))
    (none_two clash links (each_two (λ a b. R a b × AreOtherSessions a b) (λ a b. clash a b ≡ false) links_apart links
    (both_two R AreOtherSessions links sound.transports sound.sessions))) in
    ap made (cond-false (list_any is_misnumbered links || has_two clash links) None (Some links) none)
    ∙ ap (λ (n : ℕ). Some (record { limit = n; list = links })) (sym same)
  where
    made : Option (List Link) → Option Sessions
    made None = None
    made (Some list) = Some (record { limit = limit; list = list })

-- ---- groups

rises : {G : Type 0} (id_of : G → ℕ) (last : ℕ) (list : List G) → All (λ it. last < id_of it) list
    → AllPairs (λ a b. id_of a < id_of b) list → rise_from last (map id_of list) ≡ true
rises id_of last [] above pairs = refl
rises {G} id_of last (it ∷ rest) above pairs =
    let R : G → G → Type 0 = λ a b. id_of a < id_of b in
    and_from (nat_lt last (id_of it)) (rise_from (id_of it) (map id_of rest))
    (lt-ltb last (id_of it) (All-head (λ (g : G). last < id_of g) it rest above))
    (rises id_of (id_of it) rest (AllPairs-head R it rest pairs) (AllPairs-tail R it rest pairs))

undamaged : {G : Type 0} (id_of : G → ℕ) (pattern_of : G → PatternValue) (list : List G) (last : ℕ) → last ≤ last_id
    → All (λ it. 0 < id_of it) list → AllPairs (λ a b. id_of a < id_of b) list → All (λ it. id_of it ≤ last) list
    → AllPairs (λ a b. pattern_of a ≢ pattern_of b) list → are_damaged id_of pattern_of list last ≡ false
undamaged {G} id_of pattern_of list last fits above pairs below apart =
    or_from (nat_lt last_id last) _ (le-ltb last_id last fits)
    (or_from (not (rise_from 0 (map id_of list))) _ (not_from_true (rise_from 0 (map id_of list)) (rises id_of 0 list above pairs))
    (or_from (list_any (λ it. nat_lt last (id_of it)) list) (has_two (same_at pattern_of) list)
    (none_any (λ it. nat_lt last (id_of it)) list (λ it h. le-ltb last (id_of it) (All-has (λ (g : G). id_of g ≤ last) below h)))
    (none_two (same_at pattern_of) list
    (each_two (λ a b. pattern_of a ≢ pattern_of b) (λ a b. same_at pattern_of a b ≡ false)
    (λ a b off. false_from_ne_true (same_pattern (pattern_of a) (pattern_of b)) (λ e. off (the_same (pattern_of a) (pattern_of b) e)))
    list apart))))

-- a list with members has none twice if each is there once
held : (ids : List ℕ) → 0 < length ids → not (nat_lt 0 (length ids)) ≡ false
held ids some = not_from_true (nat_lt 0 (length ids)) (lt-ltb 0 (length ids) some)

once_each : (same : ℕ → ℕ → Bool) (ids : List ℕ) → ((a b : ℕ) → a ≢ b → same a b ≡ false) → AllPairs (λ (a b : ℕ). a ≢ b) ids
    → has_two same ids ≡ false
once_each same ids off pairs = none_two same ids (each_two (λ (a b : ℕ). a ≢ b) (λ a b. same a b ≡ false) off ids pairs)

overfull : (invoke : Invoke) (n : ℕ) → (invoke ≡ Single → n ≡ 1) → (not (is_shared invoke) && nat_lt 1 n) ≡ false
overfull Single n one = le-ltb 1 n (let e : n ≡ 1 = one refl in omega (arith, e))
overfull First n one = refl
overfull Last n one = refl
overfull RoundRobin n one = refl

registration_fine : (it : Registration) → IsSoundRegistration it → registering.is_damaged it ≡ false
registration_fine it sound =
    or_from (not (nat_lt 0 (length it.callees))) (registering.is_overfull it || registering.has_twice it) (held it.callees sound.held)
    (or_from (registering.is_overfull it) (registering.has_twice it) (overfull it.invoke (length it.callees) sound.single)
    (once_each registering.same_id it.callees ne_eqb sound.callees))

registrations_back : (it : Registrations) (limit : ℕ) → it.limit ≡ limit → AreSoundRegistrations it
    → All (λ (r : Registration). 0 < r.id) it.list → registering.registrations_of limit it.list it.last ≡ Some it
registrations_back it limit same sound above =
    let none : (are_damaged registering.id_of registering.pattern_of it.list it.last || list_any registering.is_damaged it.list) ≡ false =
    or_from (are_damaged registering.id_of registering.pattern_of it.list it.last) (list_any registering.is_damaged it.list)
    (undamaged registering.id_of registering.pattern_of it.list it.last sound.last above sound.ids sound.handed_out sound.one_each)
    (none_any registering.is_damaged it.list (λ r h. registration_fine r (All-has IsSoundRegistration sound.each h))) in
    cond-false (are_damaged registering.id_of registering.pattern_of it.list it.last || list_any registering.is_damaged it.list) None
    (Some (record { limit = limit; list = it.list; last = it.last })) none
    ∙ ap (λ (n : ℕ). Some (record { limit = n; list = it.list; last = it.last })) (sym same)

subscription_fine : (it : Subscription) → IsSoundSubscription it → subscribing.is_damaged it ≡ false
subscription_fine it sound =
    or_from (not (nat_lt 0 (length it.members))) (subscribing.has_twice it) (held it.members sound.held)
    (once_each subscribing.same_id it.members ne_eqb sound.members)

subscriptions_back : (it : Subscriptions) (limit : ℕ) → it.limit ≡ limit → AreSoundSubscriptions it
    → All (λ (s : Subscription). 0 < s.id) it.list → subscribing.subscriptions_of limit it.list it.last ≡ Some it
subscriptions_back it limit same sound above =
    let none : (are_damaged subscribing.id_of subscribing.pattern_of it.list it.last || list_any subscribing.is_damaged it.list) ≡ false =
    or_from (are_damaged subscribing.id_of subscribing.pattern_of it.list it.last) (list_any subscribing.is_damaged it.list)
    (undamaged subscribing.id_of subscribing.pattern_of it.list it.last sound.last above sound.ids sound.handed_out sound.one_each)
    (none_any subscribing.is_damaged it.list (λ s h. subscription_fine s (All-has IsSoundSubscription sound.each h))) in
    cond-false (are_damaged subscribing.id_of subscribing.pattern_of it.list it.last || list_any subscribing.is_damaged it.list) None
    (Some (record { limit = limit; list = it.list; last = it.last })) none
    ∙ ap (λ (n : ℕ). Some (record { limit = n; list = it.list; last = it.last })) (sym same)

-- ---- calls

calls_back : (it : Calls) (limit : ℕ) → it.limit ≡ limit → AreSoundCalls it.list → calling.calls_of limit it.list ≡ Some it
calls_back it limit same sound =
    let none : (list_any calling.is_faulty it.list || has_two calling.clash it.list) ≡ false =
    or_from (list_any calling.is_faulty it.list) (has_two calling.clash it.list) (none_any calling.is_faulty it.list (λ call h. refl))
    (none_two calling.clash it.list
    (each_two (λ a b. AreOtherRequests a b × AreOtherInvocations a b) (λ a b. calling.clash a b ≡ false)
    (λ a b h. or_from (is_call b.caller b.request a) (is_invocation b.callee b.invocation a) h.0 h.1) it.list
    (both_two AreOtherRequests AreOtherInvocations it.list sound.requests sound.invocations))) in
    ap made (cond-false (list_any calling.is_faulty it.list || has_two calling.clash it.list) None (Some it.list) none)
    ∙ ap (λ (n : ℕ). Some (record { limit = n; list = it.list })) (sym same)
  where
    made : Option (List Open) → Option Calls
    made None = None
    made (Some list) = Some (record { limit = limit; list = list })

-- ---- somebody is named always

named : (links : List Link) (ids : List ℕ) → All (λ (id : ℕ). is_taken links id ≡ true) ids → list_any (is_nobody links) ids ≡ false
named links ids all =
    none_any (is_nobody links) ids (λ id h. not_from_true (is_taken links id) (All-has (λ (n : ℕ). is_taken links n ≡ true) all h))

somebody : (c : Content) → AreCalleesOpen c.sessions.list c.registrations.list → AreMembersOpen c.sessions.list c.subscriptions.list
    → AreSoundOpenCalls c → name_nobody (lists_of c) ≡ false
somebody c callees members calls =
    let links = c.sessions.list in
    or_from (list_any (is_called_of_nobody links) c.registrations.list) _
    (none_any (is_called_of_nobody links) c.registrations.list
    (λ it h. named links it.callees
    (All-has (λ (r : Registration). All (λ (id : ℕ). is_taken links id ≡ true) r.callees) callees h)))
    (or_from (list_any (is_joined_by_nobody links) c.subscriptions.list) (list_any (is_of_nobody links) c.calls.list)
    (none_any (is_joined_by_nobody links) c.subscriptions.list
    (λ it h. named links it.members
    (All-has (λ (s : Subscription). All (λ (id : ℕ). is_taken links id ≡ true) s.members) members h)))
    (none_any (is_of_nobody links) c.calls.list
    (λ it h. or_from (is_nobody links it.caller) (is_nobody links it.callee)
    (not_from_true (is_taken links it.caller) (All-has (λ (call : Open). is_taken links call.caller ≡ true) calls.callers h))
    (not_from_true (is_taken links it.callee) (All-has (λ (call : Open). is_taken links call.callee ≡ true) calls.callees h)))))

-- ---- the content

pub comes_back : KeptComesBack
comes_back config c it =
    let limits = config.limits in
    let lists = lists_of c in
    let sound = it.sound in
    ap (from_sessions limits lists) (sessions_back c.sessions limits.sessions sound.limit sound.links it.numbered.links)
    ∙ cond-false (name_nobody lists) None
    (from_registrations limits lists c.sessions
    (registering.registrations_of limits.registrations c.registrations.list c.registrations.last))
    (somebody c sound.callees sound.members it.calls)
    ∙ ap (from_registrations limits lists c.sessions)
    (registrations_back c.registrations limits.registrations sound.registrations_limit sound.registrations it.numbered.registrations)
    ∙ ap (from_subscriptions limits lists c.sessions c.registrations)
    (subscriptions_back c.subscriptions limits.subscriptions sound.subscriptions_limit sound.subscriptions it.numbered.subscriptions)
    ∙ ap (from_calls c.sessions c.registrations c.subscriptions) (calls_back c.calls limits.calls sound.calls_limit it.calls.calls)
