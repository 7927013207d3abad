-- What every realm keeps is kept by each step of sessions, subscriptions and registrations.
use Rattle.std.proofs.Common.{◌≡◌, inl, inr, ℕ, ◌==◌, Bool, true, false, not, if◌then◌else◌, nat_lt, List, Result, Ok, Err}
use Rattle.std.proofs.Common.{Option, None, Some, bytes_eq, refl, ◌∙◌, ◌+◌}
use Rattle.std.proofs.lemmas.Bool.{cond_both, both_ways, eq-eqb}
use Rattle.paxos_packets.specs.declared.transport.Transport.{Transport}
use Rattle.wamp_ids.specs.declared.uri.UriFault.{UriFault}
use Rattle.wamp_ids.specs.Pattern.{PatternValue}
use Rattle.wamp_message_types.specs.declared.request_kind.RequestKind.{RequestKind}
use Rattle.wamp_message_types.specs.declared.request_kind.RequestKind.TheVariants as kind
use Rattle.wamp_message_types.specs.declared.session.Hello.{Hello as HelloMessage}
use Rattle.wamp_message_types.specs.declared.publish.Publish.{Publish as PublishMessage}
use Rattle.wamp_message_types.specs.declared.subscribe.Unsubscribe.{Unsubscribe as UnsubscribeMessage}
use Rattle.wamp_message_types.specs.declared.message.Message.TheVariants as told
use Rattle.realm_sessions.specs.declared.fault.RealmFault.{RealmFault}
use Rattle.realm_sessions.specs.declared.fault.RealmFault.TheVariants as fault
use Rattle.realm_sessions.specs.Laws.{AreSoundLinks}
use Rattle.realm_sessions.specs.Links.{is_taken, by_transport, set_session, without_transport, session_count, new_session_id}
use Rattle.realm_sessions.specs.Sessions.{Sessions, Opened, opened, open_session}
use Rattle.realm_machine.specs.Sayings.{limit, no_such_realm, no_such_subscription, invalid_uri}
use Rattle.realm_machine.specs.Sayings.Events.{is_open_topic}
use Rattle.realm_machine.specs.declared.requester.Requester.{Requester}
use Rattle.realm_machine.specs.Config.{Config}
use Rattle.realm_subscriptions.specs.declared.subscription.Subscription.{Subscription}
use Rattle.realm_subscriptions.specs.Subscriptions.{Subscriptions, subscription_on, is_full}
use Rattle.realm_subscriptions.specs.Subscription.{is_member}
use Rattle.realm_subscriptions.specs.Subscribing.{Subscribed}
use Rattle.realm_subscriptions.specs.Subscribing as subscribing
use Rattle.realm_subscriptions.specs.Leaving as left
use Rattle.realm_machine.specs.Content.{Content, Step, quiet, reply, refuse, refuse_by, with_subscriptions, with_registrations}
use Rattle.realm_machine.specs.Leaving.{leave_session, leave, remove, stop, violation, aborted, goodbye}
use Rattle.realm_machine.specs.Opening.{welcome, welcomed, open_at}
use Rattle.realm_machine.specs.Subscribing.{subscribed, subscribe_to}
use Rattle.realm_machine.specs.Unsubscribing.{unsubscribe}
use Rattle.realm_machine.specs.Publishing.{publish}
use Rattle.realm_subscriptions.specs.Laws.{AreSoundSubscriptions}
use Rattle.realm_laws.specs.Laws.{IsSound, AreCalleesOpen, AreMembersOpen}
use Rattle.wamp_ids.specs.declared.policy.Invoke.{Invoke}
use Rattle.wamp_ids.specs.Uri.{is_reserved}
use Rattle.wamp_message_types.specs.declared.register.Unregister.{Unregister as UnregisterMessage}
use Rattle.realm_sessions.specs.Fault.{uri_of}
use Rattle.realm_registrations.specs.declared.registration.Registration.{Registration}
use Rattle.realm_registrations.specs.Registration.{may_join}
use Rattle.realm_registrations.specs.Registrations.{Registrations, Registered, Unregistered, refused, register_at}
use Rattle.realm_registrations.specs.Registrations.{registration_at, with_registration}
use Rattle.realm_registrations.specs.Registrations.{with_callee_at, is_callee, without_callee_of}
use Rattle.realm_registrations.specs.Registrations as registering
use Rattle.realm_registrations.specs.Laws.{AreSoundRegistrations}
use Rattle.realm_registrations.proofs.SoundRegistrations as sound_registrations
use Rattle.realm_machine.specs.Registering.{registered, register_for, unregistered, unregister}
use Rattle.realm_machine.specs.Calling.{invoke}
use Rattle.realm_sessions.proofs.SoundLinks as links
use Rattle.realm_sessions.proofs.FreeIds.{open_sound}
use Rattle.realm_subscriptions.proofs.Sound as sound_subscriptions
use Rattle.realm_laws.proofs.Standing.{IsEmptyAt, one_id, session_at, empty_at, cleared_empty, set_taken, removed_taken}
use Rattle.realm_laws.proofs.Holders.{callees_stay, callees_registered, callees_unregistered, callees_left}
use Rattle.realm_laws.proofs.Holders.{members_stay, members_subscribed, members_unsubscribed, members_left}

abbrev pub Keeps : Config → Step → Type 0
Keeps config step = IsSound config step.content

-- ---- leaving

left_sound : (config : Config) (c : Content) (t : Transport) (session : Option (Option ℕ)) → by_transport c.sessions.list t ≡ session
    → IsSound config c → Keeps config (leave_session c t session)
left_sound config c t None e ok = ok
left_sound config c t (Some None) e ok = ok
left_sound config c t (Some (Some session)) e ok = record {
  limit = ok.limit;
  subscriptions_limit = ok.subscriptions_limit;
  registrations_limit = ok.registrations_limit;
  calls_limit = ok.calls_limit;
  links = links.closed_sound c.sessions.list t ok.links;
  registrations = sound_registrations.leave_sound c.registrations session ok.registrations;
  subscriptions = sound_subscriptions.leave_sound c.subscriptions session ok.subscriptions;
  callees = callees_left c.sessions.list (set_session c.sessions.list t None) c.registrations session stays ok.callees;
  members = members_left c.sessions.list (set_session c.sessions.list t None) c.subscriptions session stays ok.members;
}
  where
    stays : (other : ℕ) → is_taken c.sessions.list other ≡ true → (other == session) ≡ false
        → is_taken (set_session c.sessions.list t None) other ≡ true
    stays other taken off =
        set_taken c.sessions.list t None other
        (λ stands. both_ways (other == session) off
        (eq-eqb other session (one_id c.sessions.list t other session ok.links stands (session_at c.sessions.list t session e))))
        taken

leave_sound : (config : Config) (c : Content) (t : Transport) → IsSound config c → Keeps config (leave c t)
leave_sound config c t = left_sound config c t (by_transport c.sessions.list t) refl

-- no session is at the transport then
left_empty : (config : Config) (c : Content) (t : Transport) (session : Option (Option ℕ)) → by_transport c.sessions.list t ≡ session
    → IsSound config c → IsEmptyAt (leave_session c t session).content.sessions.list t
left_empty config c t None e ok = empty_at c.sessions.list t ok.links (inl e)
left_empty config c t (Some None) e ok = empty_at c.sessions.list t ok.links (inr e)
left_empty config c t (Some (Some session)) e ok = cleared_empty c.sessions.list t

pub remove_sound : (config : Config) (c : Content) (t : Transport) → IsSound config c → Keeps config (remove c t)
remove_sound config c t ok =
    let d = (leave c t).content in
    let gone = leave_sound config c t ok in
    let stays : (session : ℕ) → is_taken d.sessions.list session ≡ true → is_taken (without_transport d.sessions.list t) session ≡ true =
    λ session taken. removed_taken d.sessions.list t session (left_empty config c t (by_transport c.sessions.list t) refl ok session) taken in
    record {
      limit = gone.limit;
      subscriptions_limit = gone.subscriptions_limit;
      registrations_limit = gone.registrations_limit;
      calls_limit = gone.calls_limit;
      links = links.removed_sound d.sessions.list t gone.links;
      registrations = gone.registrations;
      subscriptions = gone.subscriptions;
      callees = callees_stay d.sessions.list (without_transport d.sessions.list t) d.registrations.list stays gone.callees;
      members = members_stay d.sessions.list (without_transport d.sessions.list t) d.subscriptions.list stays gone.members;
    }

stop_sound : (config : Config) (c : Content) (t : Transport) (reason : List ℕ) → IsSound config c
    → Keeps config (stop c t reason)
stop_sound config c t reason ok = remove_sound config c t ok

pub violation_sound : (config : Config) (c : Content) (t : Transport) → IsSound config c → Keeps config (violation c t)
violation_sound config c t ok = remove_sound config c t ok

pub aborted_sound : (config : Config) (c : Content) (t : Transport) → IsSound config c → Keeps config (aborted c t)
aborted_sound config c t ok = remove_sound config c t ok

pub goodbye_sound : (config : Config) (c : Content) (t : Transport) → IsSound config c → Keeps config (goodbye c t)
goodbye_sound config c t ok = leave_sound config c t ok

-- ---- opening

welcome_sound : (config : Config) (c : Content) (t : Transport) (sessions : Sessions) (answer : Result ℕ RealmFault)
    → sessions.limit ≡ config.limits.sessions → AreSoundLinks sessions.list
    → ((session : ℕ) → is_taken c.sessions.list session ≡ true → is_taken sessions.list session ≡ true) → IsSound config c
    → Keeps config (welcome c t sessions answer)
welcome_sound config c t sessions (Ok id) same fine stays ok =
    record {
      limit = same;
      subscriptions_limit = ok.subscriptions_limit;
      registrations_limit = ok.registrations_limit;
      calls_limit = ok.calls_limit;
      links = fine;
      registrations = ok.registrations;
      subscriptions = ok.subscriptions;
      callees = callees_stay c.sessions.list sessions.list c.registrations.list stays ok.callees;
      members = members_stay c.sessions.list sessions.list c.subscriptions.list stays ok.members;
    }
welcome_sound config c t sessions (Err refused) same fine stays ok = stop_sound config c t limit ok

-- opening changes no limit
limit_kept : (sessions : Sessions) (t : Transport) (draw : ℕ) (canceling : Bool)
    → (open_session sessions t draw canceling).sessions.limit ≡ sessions.limit
limit_kept sessions t draw canceling =
    cond_both (nat_lt (session_count sessions.list) sessions.limit)
    (opened sessions t canceling (new_session_id sessions.list draw))
    (record { sessions = sessions; answer = Err fault.Limit }) (λ (o : Opened). o.sessions.limit ≡ sessions.limit)
    (λ _. kept (new_session_id sessions.list draw)) (λ _. refl)
  where
    kept : (id : Option ℕ) → (opened sessions t canceling id).sessions.limit ≡ sessions.limit
    kept None = refl
    kept (Some id) = refl

-- opening takes no session away, at a transport without one
open_stays : (sessions : Sessions) (t : Transport) (draw : ℕ) (canceling : Bool) → IsEmptyAt sessions.list t
    → (session : ℕ) → is_taken sessions.list session ≡ true
    → is_taken (open_session sessions t draw canceling).sessions.list session ≡ true
open_stays sessions t draw canceling empty session taken =
    cond_both (nat_lt (session_count sessions.list) sessions.limit)
    (opened sessions t canceling (new_session_id sessions.list draw))
    (record { sessions = sessions; answer = Err fault.Limit }) (λ (o : Opened). is_taken o.sessions.list session ≡ true)
    (λ _. stays (new_session_id sessions.list draw)) (λ _. taken)
  where
    stays : (id : Option ℕ) → is_taken (opened sessions t canceling id).sessions.list session ≡ true
    stays None = taken
    stays (Some id) =
        set_taken sessions.list t (Some (record { id = id; canceling = canceling; last_invocation = None })) session (empty session) taken

pub hello_sound : (config : Config) (c : Content) (t : Transport) (draw : ℕ) (hello : HelloMessage)
    → by_transport c.sessions.list t ≡ Some None → IsSound config c → Keeps config (open_at config c t draw hello)
hello_sound config c t draw hello here ok =
    let o = open_session c.sessions t draw hello.canceling in
    cond_both (not (bytes_eq hello.realm config.name)) (stop c t no_such_realm) (welcomed c t o) (Keeps config)
    (λ _. stop_sound config c t no_such_realm ok)
    (λ _. welcome_sound config c t o.sessions o.answer (limit_kept c.sessions t draw hello.canceling ∙ ok.limit)
    (open_sound c.sessions t draw hello.canceling ok.links)
    (open_stays c.sessions t draw hello.canceling (empty_at c.sessions.list t ok.links (inr here))) ok)

-- ---- subscribing and publishing

-- subscribing changes no limit
subscriptions_limit_kept : (subscriptions : Subscriptions) (session : ℕ) (pattern : PatternValue)
    → (subscribing.subscribe subscriptions session pattern).subscriptions.limit ≡ subscriptions.limit
subscriptions_limit_kept subscriptions session pattern = by_found (subscription_on subscriptions pattern)
  where
    unless_full_kept : (id : ℕ) (changed : Subscriptions) → changed.limit ≡ subscriptions.limit
        → (subscribing.unless_full subscriptions session id changed).subscriptions.limit ≡ subscriptions.limit
    unless_full_kept id changed same =
        cond_both (is_full subscriptions session) (record { subscriptions = subscriptions; answer = Err fault.Limit })
        (record { subscriptions = changed; answer = Ok id }) (λ (d : Subscribed). d.subscriptions.limit ≡ subscriptions.limit)
        (λ _. refl) (λ _. same)

    by_found : (o : Option Subscription)
        → (subscribing.subscribe_to subscriptions session pattern o).subscriptions.limit ≡ subscriptions.limit
    by_found None = unless_full_kept (subscriptions.last + 1) (subscribing.add subscriptions session pattern) refl
    by_found (Some found) =
        cond_both (is_member session found) (record { subscriptions = subscriptions; answer = Ok found.id })
        (subscribing.unless_full subscriptions session found.id (subscribing.join subscriptions session pattern))
        (λ (d : Subscribed). d.subscriptions.limit ≡ subscriptions.limit) (λ _. refl)
        (λ _. unless_full_kept found.id (subscribing.join subscriptions session pattern) refl)

subscribed_sound : (config : Config) (c : Content) (r : Requester) (request : ℕ) (changed : Subscriptions)
    (answer : Result ℕ RealmFault)
    → changed.limit ≡ config.limits.subscriptions → AreSoundSubscriptions changed → AreMembersOpen c.sessions.list changed.list
    → IsSound config c → Keeps config (subscribed c r request changed answer)
subscribed_sound config c r request changed (Ok id) same fine there ok =
    record {
      limit = ok.limit;
      subscriptions_limit = same;
      registrations_limit = ok.registrations_limit;
      calls_limit = ok.calls_limit;
      links = ok.links;
      registrations = ok.registrations;
      subscriptions = fine;
      callees = ok.callees;
      members = there;
    }
subscribed_sound config c r request changed (Err refused) same fine there ok = ok

pub subscribe_to_sound : (config : Config) (c : Content) (r : Requester) (request : ℕ)
    (asked : Result PatternValue UriFault) → is_taken c.sessions.list r.session ≡ true → IsSound config c
    → Keeps config (subscribe_to c r request asked)
subscribe_to_sound config c r request (Ok pattern) here ok =
    let due = subscribing.subscribe c.subscriptions r.session pattern in
    subscribed_sound config c r request due.subscriptions due.answer
    (subscriptions_limit_kept c.subscriptions r.session pattern ∙ ok.subscriptions_limit)
    (sound_subscriptions.subscribe_sound c.subscriptions r.session pattern ok.subscriptions)
    (members_subscribed c.sessions.list c.subscriptions r.session pattern here ok.members) ok
subscribe_to_sound config c r request (Err fault) here ok = ok

pub unsubscribe_sound : (config : Config) (c : Content) (r : Requester) (asked : UnsubscribeMessage) → IsSound config c
    → Keeps config (unsubscribe c r asked)
unsubscribe_sound config c r asked ok =
    let changed = with_subscriptions c (left.unsubscribe c.subscriptions r.session asked.subscription) in
    cond_both (left.is_in c.subscriptions r.session asked.subscription)
    (reply changed r.transport (told.Unsubscribed (record { request = asked.request })))
    (refuse c r.transport kind.Unsubscribe asked.request no_such_subscription) (Keeps config)
    (λ _. record {
      limit = ok.limit;
      subscriptions_limit = ok.subscriptions_limit;
      registrations_limit = ok.registrations_limit;
      calls_limit = ok.calls_limit;
      links = ok.links;
      registrations = ok.registrations;
      subscriptions = sound_subscriptions.unsubscribe_sound c.subscriptions r.session asked.subscription ok.subscriptions;
      callees = ok.callees;
      members = members_unsubscribed c.sessions.list c.subscriptions r.session asked.subscription ok.members;
    })
    (λ _. ok)

pub publish_sound : (config : Config) (c : Content) (r : Requester) (asked : PublishMessage) → IsSound config c
    → Keeps config (publish c r asked)
publish_sound config c r asked ok =
    first (is_open_topic asked.topic) _ _ ok (refused asked.acknowledge ok)
  where
    first : (b : Bool) (x y : Step) → Keeps config x → Keeps config y → Keeps config (if b then x else y)
    first true x y h g = h
    first false x y h g = g

    refused : (b : Bool) → IsSound config c
        → Keeps config (if b then refuse c r.transport kind.Publish asked.request invalid_uri else quiet c)
    refused true h = h
    refused false h = h

-- ---- registering

with_registrations_sound : (config : Config) (c : Content) (changed : Registrations) → changed.limit ≡ config.limits.registrations
    → AreSoundRegistrations changed → AreCalleesOpen c.sessions.list changed.list → IsSound config c
    → IsSound config (with_registrations c changed)
with_registrations_sound config c changed same fine there ok =
    record {
      limit = ok.limit;
      subscriptions_limit = ok.subscriptions_limit;
      registrations_limit = same;
      calls_limit = ok.calls_limit;
      links = ok.links;
      registrations = fine;
      subscriptions = ok.subscriptions;
      callees = there;
      members = ok.members;
    }

refused_for_sound : (config : Config) (c : Content) (t : Transport) (k : RequestKind) (request : ℕ)
    (error : Option (List ℕ)) → IsSound config c
    → Keeps config (refuse_by c t k request error)
refused_for_sound config c t k request None ok = ok
refused_for_sound config c t k request (Some error) ok = ok

-- registering changes no limit
register_at_limit : (registrations : Registrations) (session : ℕ) (pattern : PatternValue) (invoke : Invoke)
    (o : Option Registration)
    → (register_at registrations session pattern invoke o).registrations.limit ≡ registrations.limit
register_at_limit registrations session pattern invoke None =
    cond_both (registering.is_full registrations session) (refused registrations fault.Limit)
    (record { registrations = with_registration registrations session pattern invoke; answer = Ok (registrations.last + 1) })
    (λ (r : Registered). r.registrations.limit ≡ registrations.limit) (λ _. refl) (λ _. refl)
register_at_limit registrations session pattern invoke (Some found) =
    cond_both (not (may_join session invoke found)) (refused registrations fault.AlreadyExists) joins
    (λ (r : Registered). r.registrations.limit ≡ registrations.limit) (λ _. refl)
    (λ _. cond_both (registering.is_full registrations session) (refused registrations fault.Limit) joined
    (λ (r : Registered). r.registrations.limit ≡ registrations.limit) (λ _. refl) (λ _. refl))
  where
    joined : Registered
    joined = record { registrations = with_callee_at registrations session pattern; answer = Ok found.id }

    joins : Registered
    joins = if registering.is_full registrations session then refused registrations fault.Limit else joined

register_limit : (registrations : Registrations) (session : ℕ) (pattern : PatternValue) (invoke : Invoke)
    → (registering.register registrations session pattern invoke).registrations.limit ≡ registrations.limit
register_limit registrations session pattern invoke =
    cond_both (is_reserved pattern.text) (refused registrations fault.InvalidUri)
    (register_at registrations session pattern invoke (registration_at registrations pattern))
    (λ (r : Registered). r.registrations.limit ≡ registrations.limit)
    (λ _. refl) (λ _. register_at_limit registrations session pattern invoke (registration_at registrations pattern))

registered_sound : (config : Config) (c : Content) (r : Requester) (request : ℕ) (changed : Registrations)
    (answer : Result ℕ RealmFault)
    → changed.limit ≡ config.limits.registrations → AreSoundRegistrations changed → AreCalleesOpen c.sessions.list changed.list
    → IsSound config c → Keeps config (registered c r request changed answer)
registered_sound config c r request changed (Ok id) same fine there ok =
    with_registrations_sound config c changed same fine there ok
registered_sound config c r request changed (Err fault) same fine there ok =
    refused_for_sound config c r.transport kind.Register request (uri_of fault) ok

pub register_for_sound : (config : Config) (c : Content) (r : Requester) (request : ℕ) (invoke : Invoke)
    (asked : Result PatternValue UriFault)
    → is_taken c.sessions.list r.session ≡ true → IsSound config c → Keeps config (register_for c r request invoke asked)
register_for_sound config c r request invoke (Ok pattern) here ok =
    let due = registering.register c.registrations r.session pattern invoke in
    registered_sound config c r request due.registrations due.answer
    (register_limit c.registrations r.session pattern invoke ∙ ok.registrations_limit)
    (sound_registrations.register_sound c.registrations r.session pattern invoke ok.registrations)
    (callees_registered c.sessions.list c.registrations r.session pattern invoke here ok.callees) ok
register_for_sound config c r request invoke (Err fault) here ok = ok

unregister_limit : (registrations : Registrations) (session id : ℕ)
    → (registering.unregister registrations session id).registrations.limit ≡ registrations.limit
unregister_limit registrations session id =
    cond_both (is_callee registrations session id)
    (record { registrations = without_callee_of registrations session id; answer = Ok tt })
    (record { registrations = registrations; answer = Err fault.NoSuchRegistration })
    (λ (r : Unregistered). r.registrations.limit ≡ registrations.limit) (λ _. refl) (λ _. refl)

unregistered_sound : (config : Config) (c : Content) (r : Requester) (request : ℕ) (changed : Registrations)
    (answer : Result (Unit {0}) RealmFault)
    → changed.limit ≡ config.limits.registrations → AreSoundRegistrations changed → AreCalleesOpen c.sessions.list changed.list
    → IsSound config c → Keeps config (unregistered c r request changed answer)
unregistered_sound config c r request changed (Ok done) same fine there ok =
    with_registrations_sound config c changed same fine there ok
unregistered_sound config c r request changed (Err fault) same fine there ok =
    refused_for_sound config c r.transport kind.Unregister request (uri_of fault) ok

pub unregister_sound : (config : Config) (c : Content) (r : Requester) (asked : UnregisterMessage) → IsSound config c
    → Keeps config (unregister c r asked)
unregister_sound config c r asked ok =
    let due = registering.unregister c.registrations r.session asked.registration in
    unregistered_sound config c r asked.request due.registrations due.answer
    (unregister_limit c.registrations r.session asked.registration ∙ ok.registrations_limit)
    (sound_registrations.unregister_sound c.registrations r.session asked.registration ok.registrations)
    (callees_unregistered c.sessions.list c.registrations r.session asked.registration ok.callees) ok
