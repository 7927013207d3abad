-- A callee that is chosen and a member that is to receive an event are open sessions, so they are sent what is due.
use Rattle.std.proofs.Common.{◌≡◌, ℕ, zero, suc, ◌-◌, true, false, refl, ap, subst, ◌∙◌}
use Rattle.std.proofs.Common.{List, [], ◌∷◌, length, filter, find, Option, None, Some, option_map}
use Rattle.std.specs.List.{slice_get}
use Rattle.std.proofs.lemmas.Bool.{cond-false, both_ways, false≢true}
use Rattle.paxos_packets.specs.declared.transport.Transport.{Transport}
use Rattle.wamp_ids.specs.declared.policy.Invoke.{Invoke}
use Rattle.wamp_ids.specs.declared.policy.Invoke.TheVariants.{Single, First, Last, RoundRobin}
use Rattle.wamp_ids.specs.Uri.{uri_of, is_reserved}
use Rattle.wamp_ids.specs.Pattern.{PatternValue}
use Rattle.wamp_patterns.specs.Matching.{matches}
use Rattle.wamp_patterns.specs.Ranking.{matching, is_unbeaten}
use Rattle.wamp_message_types.specs.declared.message.Message.TheVariants as message
use Rattle.realm_sessions.specs.declared.links.Session.{Session}
use Rattle.realm_sessions.specs.declared.links.Link.{Link}
use Rattle.realm_sessions.specs.Links.{is_session, has_id, is_taken, transport_of, session_with, found_session, free_invocation}
use Rattle.realm_sessions.specs.Links.{invocation_of}
use Rattle.realm_sessions.specs.Sessions.{next_invocation, invoked_with}
use Rattle.realm_sessions.proofs.Pairs.{All-not_found}
use Rattle.realm_sessions.proofs.FreeInvocations.{free_invocation_free, none_all_taken}
use Rattle.realm_sessions.proofs.Invoking.{invoked_places}
use Rattle.realm_registrations.specs.declared.registration.Registration.{Registration}
use Rattle.realm_registrations.specs.declared.registration.Chosen.{Chosen}
use Rattle.realm_registrations.specs.Registration.{called, chosen}
use Rattle.realm_registrations.specs.Registrations.{Registrations, serving, found_chosen, choose}
use Rattle.realm_subscriptions.specs.declared.subscription.Subscription.{Subscription}
use Rattle.realm_subscriptions.specs.declared.receiving.Receiver.{Receiver}
use Rattle.realm_subscriptions.specs.Receiving.{is_for, receiver, receivers_of, receivers}
use Rattle.realm_calls.specs.Calls.{has, is_full, open_of}
use Rattle.realm_machine.specs.Sayings.{say_to, limit, no_such_procedure}
use Rattle.realm_machine.specs.Sayings.Events.{event_of}
use Rattle.realm_machine.specs.Sayings.Invocations.{invocation}
use Rattle.realm_machine.specs.Content.{Step}
use Rattle.realm_machine.specs.Leaving.{violation}
use Rattle.realm_machine.specs.Calling.{refuse_call, invoke, call_chosen, call_uri, on_call}
use Rattle.realm_laws.specs.Reaching.{Invokes, InvokesTheCallee, IsSent, SendsEachEvent}
use Rattle.realm_laws.proofs.Has.{Has, further, has_first, has_any, has_filter, has_map, find_has, All-has, all_of, has_flat}
use Rattle.realm_laws.proofs.Holders.{callee_open, member_open}

-- ---- an open session is at a transport

link_there : (links : List Link) (s : ℕ) → is_taken links s ≡ true → (link : Link) × (find (has_id s) links ≡ Some link)
link_there links s taken = by (find (has_id s) links) refl
  where
    by : (o : Option Link) → find (has_id s) links ≡ o → (link : Link) × (find (has_id s) links ≡ Some link)
    by (Some link) e = (link, e)
    by None e =
        let a = has_any (has_id s) links taken in
        absurd (both_ways (has_id s a.0) (All-has (λ (l : Link). has_id s l ≡ false) (All-not_found (has_id s) links e) a.1) a.2)

transport_there : (links : List Link) (s : ℕ) → is_taken links s ≡ true → (t : Transport) × (transport_of links s ≡ Some t)
transport_there links s taken =
    let found = link_there links s taken in
    (found.0.transport, ap (option_map (λ (l : Link). l.transport)) found.1)

session_there : (links : List Link) (s : ℕ) → is_taken links s ≡ true → (x : Session) × (session_with links s ≡ Some x)
session_there links s taken =
    let found = link_there links s taken in
    let x = has_session found.0.session (find_has (has_id s) links found.1).1 in
    (x.0, ap found_session found.1 ∙ x.1)
  where
    has_session : (o : Option Session) → is_session s o ≡ true → (x : Session) × (o ≡ Some x)
    has_session None h = absurd (false≢true h)
    has_session (Some x) h = (x, refl)

-- ---- a callee that is chosen

some_is : {A : Type 0} {x y : A} → Some x ≡ Some y → x ≡ y
some_is h = cc

not_some : {A P : Type 0} {x : A} → None ≡ Some x → P
not_some h = absurd (none h)
  where
    none : {A : Type 0} {x : A} → None ≡ Some x → ⊥
    none h = cc

slice_has : {A : Type 0} (xs : List A) (place : ℕ) {x : A} → slice_get xs place ≡ Some x → Has xs x
slice_has [] place h = not_some h
slice_has (y ∷ xs) zero h = has_first xs (some_is h)
slice_has (y ∷ xs) (suc place) h = further (slice_has xs place h)

called_has : (policy : Invoke) (callees : List ℕ) {callee : ℕ} → called policy callees ≡ Some callee → Has callees callee
called_has Single callees h = slice_has callees 0 h
called_has First callees h = slice_has callees 0 h
called_has Last callees h = slice_has callees (length callees - 1) h
called_has RoundRobin callees h = slice_has callees 0 h

chosen_has : (it : Registration) (c : Chosen) → chosen it ≡ Some c → Has it.callees c.callee
chosen_has it c = by (called it.invoke it.callees) refl
  where
    by : (o : Option ℕ) → called it.invoke it.callees ≡ o
        → option_map (λ callee. record { registration = it.id; callee = callee; matching = it.pattern.matching }) o ≡ Some c
        → Has it.callees c.callee
    by None e h = not_some h
    by (Some callee) e h =
        subst (Has it.callees) (ap (λ (k : Chosen). k.callee) (some_is h)) (called_has it.invoke it.callees e)

chosen_open : (links : List Link) (registrations : Registrations) (uri : List ℕ) (c : Chosen)
    → ((it : Registration) → Has registrations.list it → (session : ℕ) → Has it.callees session → is_taken links session ≡ true)
    → choose registrations uri ≡ Some c → is_taken links c.callee ≡ true
chosen_open links registrations uri c are = by (serving registrations uri) refl
  where
    pattern_of : Registration → PatternValue
    pattern_of it = it.pattern

    by : (o : Option Registration) → serving registrations uri ≡ o → found_chosen o ≡ Some c → is_taken links c.callee ≡ true
    by None e h = not_some h
    by (Some it) e h =
        let fit = matching pattern_of registrations.list uri in
        let found = find_has (is_unbeaten pattern_of fit) fit e in
        are it (has_filter (λ (it : Registration). matches it.pattern uri) registrations.list found.0) c.callee (chosen_has it c h)

-- ---- a call

pub invokes_callee : InvokesTheCallee
invokes_callee config c r call uri chosen ok new is_uri ours found few unspent =
    invoked (free_invocation taken there.0.last_invocation) refl
  where
    links : List Link
    links = c.sessions.list

    taken : List ℕ
    taken = open_of c.calls.list chosen.callee

    is_open : is_taken links chosen.callee ≡ true
    is_open = chosen_open links c.registrations uri chosen (callee_open links c.registrations.list ok.callees) found

    there : (x : Session) × (session_with links chosen.callee ≡ Some x)
    there = session_there links chosen.callee is_open

    at : (t : Transport) × (transport_of links chosen.callee ≡ Some t)
    at = transport_there links chosen.callee is_open

    goes : on_call c r call ≡ invoke c r call chosen (next_invocation c.sessions chosen.callee taken)
    goes =
        cond-false (has c.calls.list r.session call.request) (violation c r.transport) (call_uri c r call (uri_of call.procedure)) new
        ∙ ap (call_uri c r call) is_uri
        ∙ cond-false (is_reserved uri) (refuse_call c r call no_such_procedure) (call_chosen c r call (choose c.registrations uri)) ours
        ∙ ap (call_chosen c r call) found
        ∙ cond-false (is_full c.calls r.session) (refuse_call c r call limit)
        (invoke c r call chosen (next_invocation c.sessions chosen.callee taken)) few

    invoked : (o : Option ℕ) → free_invocation taken there.0.last_invocation ≡ o → Invokes c r call chosen
    invoked None e = absurd (unspent ((none_all_taken taken there.0.last_invocation).0 e))
    invoked (Some id) e =
        let fine = free_invocation_free taken there.0.last_invocation id e in
        let next : invocation_of taken (session_with links chosen.callee) ≡ Some id = ap (invocation_of taken) there.1 ∙ e in
        let step = goes ∙ ap (λ (o : Option ℕ). invoke c r call chosen (invoked_with c.sessions chosen.callee o)) next in
        record {
          id = id;
          is_id = fine.0;
          free = fine.1;
          opens = ap (λ (s : Step). s.content.calls.list) step;
          transport = at.0;
          there = at.1;
          says = ap (λ (s : Step). s.says) step
              ∙ ap (λ (o : Option Transport). say_to o (invocation id r.session chosen call))
              ((invoked_places links chosen.callee id).1 chosen.callee ∙ at.1);
        }

-- ---- an event

pub sends_each_event : SendsEachEvent
sends_each_event config c topic publication args except ok =
    all_of (IsSent c topic publication args) (receivers c.subscriptions topic except) sent
  where
    sent : (it : Receiver) → Has (receivers c.subscriptions topic except) it → IsSent c topic publication args it
    sent it h =
        let fit = matching (λ (s : Subscription). s.pattern) c.subscriptions.list topic in
        let group = has_flat (receivers_of except) fit h in
        let one = has_map (receiver group.0) (filter (is_for except) group.0.members) group.2 in
        let is_open : is_taken c.sessions.list one.0 ≡ true =
        member_open c.sessions.list c.subscriptions.list ok.members group.0
        (has_filter (λ (s : Subscription). matches s.pattern topic) c.subscriptions.list group.1) one.0
        (has_filter (is_for except) group.0.members one.1) in
        let at = transport_there c.sessions.list it.member
        (subst (λ (r : Receiver). is_taken c.sessions.list r.member ≡ true) one.2 is_open) in
        record {
          transport = at.0;
          there = at.1;
          says = ap (λ (o : Option Transport). say_to o (message.Event (event_of topic publication args it))) at.1;
        }
