-- What each request but those of calls does to the open calls: all pay for their final replies.
use Rattle.std.proofs.Common.{◌≡◌, inr, ⊎_elim, ℕ, suc, nat_lt, Bool, true, false, not, refl, sym, subst}
use Rattle.std.proofs.Common.{if◌then◌else◌}
use Rattle.std.proofs.Common.{List, [], ◌∷◌, ◌++◌, length, Option, Some, None, Result, Ok, Err}
use Rattle.std.specs.Prelude.{bytes_eq}
use Rattle.std.proofs.lemmas.Bool.{cond_both, eqb-true, both_ways}
use Rattle.paxos_packets.specs.declared.transport.Transport.{Transport}
use Rattle.wamp_ids.specs.declared.policy.Invoke.{Invoke}
use Rattle.wamp_ids.specs.declared.uri.UriFault.{UriFault}
use Rattle.wamp_ids.specs.Pattern.{PatternValue, pattern_of}
use Rattle.wamp_values.specs.declared.args.Args.{Args}
use Rattle.wamp_message_types.specs.declared.request_kind.RequestKind.{RequestKind}
use Rattle.wamp_message_types.specs.declared.request_kind.RequestKind.TheVariants as kind
use Rattle.wamp_message_types.specs.declared.message.Message.TheVariants as message
use Rattle.wamp_message_types.specs.declared.publish.Publish.{Publish}
use Rattle.wamp_message_types.specs.declared.session.Hello.{Hello}
use Rattle.wamp_message_types.specs.declared.subscribe.Subscribe.{Subscribe}
use Rattle.wamp_message_types.specs.declared.subscribe.Unsubscribe.{Unsubscribe}
use Rattle.wamp_message_types.specs.declared.register.Register.{Register}
use Rattle.wamp_message_types.specs.declared.register.Unregister.{Unregister}
use Rattle.realm_sessions.specs.declared.fault.RealmFault.{RealmFault}
use Rattle.realm_sessions.specs.Fault.{uri_of}
use Rattle.realm_sessions.specs.declared.fault.RealmFault.TheVariants as fault
use Rattle.realm_sessions.specs.declared.links.Session.{Session}
use Rattle.realm_sessions.specs.Links.{is_taken, by_transport, set_session, connect, new_session_id, session_count}
use Rattle.realm_sessions.specs.Sessions.{Opened, opened, open_session}
use Rattle.realm_sessions.proofs.SoundLinks.{connected_sound, opened_sound}
use Rattle.realm_sessions.proofs.FreeIds.{found_free}
use Rattle.realm_registrations.specs.Registrations.{Registrations}
use Rattle.realm_registrations.specs.Registrations as registering
use Rattle.realm_subscriptions.specs.Subscriptions.{Subscriptions}
use Rattle.realm_subscriptions.specs.Subscribing as subscribing
use Rattle.realm_subscriptions.specs.Receiving.{receivers}
use Rattle.realm_subscriptions.specs.Leaving as leaving
use Rattle.realm_machine.specs.declared.sayings.say.Say.{Say}
use Rattle.realm_machine.specs.Sayings.{invalid_uri, no_such_subscription, no_such_realm, limit}
use Rattle.realm_machine.specs.Sayings.Events.{event_of, event_to, is_open_topic}
use Rattle.realm_machine.specs.declared.requester.Requester.{Requester}
use Rattle.realm_machine.specs.Config.{Config}
use Rattle.realm_machine.specs.Content.{Content, Step, quiet, reply, refuse, refuse_by, with_links, with_subscriptions}
use Rattle.realm_machine.specs.Content.{with_registrations}
use Rattle.realm_machine.specs.Leaving.{stop}
use Rattle.realm_machine.specs.Opening.{welcomed, open_at}
use Rattle.realm_machine.specs.Subscribing.{subscribed, subscribe_to, subscribe}
use Rattle.realm_machine.specs.Unsubscribing.{unsubscribe}
use Rattle.realm_machine.specs.Publishing.{events, published, publish}
use Rattle.realm_machine.specs.Registering.{registered, register_for, register, unregistered, unregister}
use Rattle.realm_machine.specs.Calling.{invoke}
use Rattle.realm_laws.specs.Trace.{is_said}
use Rattle.realm_laws.proofs.Counts.{count_flat_none}
use Rattle.realm_laws.proofs.Standing.{empty_at, set_at, set_taken, connected_at, connected_taken}
use Rattle.realm_laws.proofs.Moves.{is_reply, Base, Moves, IsSilent, silent_to, silent_both, still_moves, said_moves, quiet_moves}
use Rattle.realm_laws.proofs.Moves.{stop_moves}

-- ---- connecting, and opening a session

pub connect_moves : (c : Content) (t : Transport) → Base c → Moves c (quiet (with_links c (connect c.sessions.list t)))
connect_moves c t base =
    let links = c.sessions.list in
    still_moves c (with_links c (connect links t)) []
    (record {
      links = connected_sound links t base.links;
      known = λ call h. connected_taken links t call.caller (base.known call h);
      served = λ call h. connected_taken links t call.callee (base.served call h);
      calls = base.calls;
    })
    refl (λ u call h stands. connected_at links t u call.caller stands) (λ u r. refl)

welcome_moves : (c : Content) (t : Transport) (session : Session) → Base c → by_transport c.sessions.list t ≡ Some None
    → is_taken c.sessions.list session.id ≡ false
    → (said : List Say) → IsSilent said
    → Moves c (record { content = with_links c (set_session c.sessions.list t (Some session)); says = said })
welcome_moves c t session base here free said silent =
    let links = c.sessions.list in
    still_moves c (with_links c (set_session links t (Some session))) said
    (record {
      links = opened_sound links t session free base.links;
      known = λ call h. set_taken links t (Some session) call.caller
          (empty_at links t base.links (inr here) call.caller)
          (base.known call h);
      served = λ call h. set_taken links t (Some session) call.callee
          (empty_at links t base.links (inr here) call.callee)
          (base.served call h);
      calls = base.calls;
    })
    refl
    (λ u call h stands. ⊎_elim
    (λ new. absurd (both_ways (is_taken links session.id) free
    (subst (λ (n : ℕ). is_taken links n ≡ true) (sym (eqb-true session.id call.caller new.1)) (base.known call h))))
    (λ old. old)
    (set_at links t (Some session) u call.caller stands))
    silent

opened_moves : (c : Content) (t : Transport) (canceling : Bool) (o : Option ℕ) → Base c
    → by_transport c.sessions.list t ≡ Some None
    → ((id : ℕ) → o ≡ Some id → is_taken c.sessions.list id ≡ false)
    → Moves c (welcomed c t (opened c.sessions t canceling o))
opened_moves c t canceling None base here free = stop_moves c t limit base
opened_moves c t canceling (Some id) base here free =
    welcome_moves c t (record { id = id; canceling = canceling; last_invocation = None }) base here (free id refl)
    (reply c t (message.Welcome (record { session = id }))).says (λ u r. refl)

pub open_moves : (config : Config) (c : Content) (t : Transport) (draw : ℕ) (hello : Hello) → Base c
    → by_transport c.sessions.list t ≡ Some None → Moves c (open_at config c t draw hello)
open_moves config c t draw hello base here =
    let links = c.sessions.list in
    let id = new_session_id links draw in
    let canceling = hello.canceling in
    let full : Opened = record { sessions = c.sessions; answer = Err fault.Limit } in
    cond_both (not (bytes_eq hello.realm config.name)) (stop c t no_such_realm)
    (welcomed c t (open_session c.sessions t draw canceling))
    (λ (s : Step). Moves c s)
    (λ _. stop_moves c t no_such_realm base)
    (λ _. cond_both (nat_lt (session_count links) c.sessions.limit) (opened c.sessions t canceling id) full
    (λ (o : Opened). Moves c (welcomed c t o))
    (λ _. opened_moves c t canceling id base here (λ n h. found_free (suc (length links)) (is_taken links) draw n h))
    (λ _. stop_moves c t limit base))

-- ---- requests that are no CALL: what is said is no reply to a call, and neither sessions nor calls change

subscriptions_moves : (c : Content) (subscriptions : Subscriptions) (said : List Say) → Base c → IsSilent said
    → Moves c (record { content = with_subscriptions c subscriptions; says = said })
subscriptions_moves c subscriptions said base silent =
    still_moves c (with_subscriptions c subscriptions) said
    (record { links = base.links; known = base.known; served = base.served; calls = base.calls }) refl
    (λ t call h stands. stands) silent

registrations_moves : (c : Content) (registrations : Registrations) (said : List Say) → Base c → IsSilent said
    → Moves c (record { content = with_registrations c registrations; says = said })
registrations_moves c registrations said base silent =
    still_moves c (with_registrations c registrations) said
    (record { links = base.links; known = base.known; served = base.served; calls = base.calls }) refl
    (λ t call h stands. stands) silent

subscribed_moves : (c : Content) (requester : Requester) (request : ℕ) (subscriptions : Subscriptions)
    (answer : Result ℕ RealmFault) → Base c
    → Moves c (subscribed c requester request subscriptions answer)
subscribed_moves c requester request subscriptions (Ok id) base =
    subscriptions_moves c subscriptions (subscribed c requester request subscriptions (Ok id)).says base (λ u r. refl)
subscribed_moves c requester request subscriptions (Err fault) base =
    said_moves c (refuse c requester.transport kind.Subscribe request limit).says base (λ u r. refl)

subscribe_to_moves : (c : Content) (requester : Requester) (request : ℕ) (asked : Result PatternValue UriFault) → Base c
    → Moves c (subscribe_to c requester request asked)
subscribe_to_moves c requester request (Ok pattern) base =
    subscribed_moves c requester request (subscribing.subscribe c.subscriptions requester.session pattern).subscriptions
    (subscribing.subscribe c.subscriptions requester.session pattern).answer base
subscribe_to_moves c requester request (Err fault) base =
    said_moves c (refuse c requester.transport kind.Subscribe request invalid_uri).says base (λ u r. refl)

pub subscribe_moves : (c : Content) (requester : Requester) (it : Subscribe) → Base c
    → Moves c (subscribe c requester it)
subscribe_moves c requester it base = subscribe_to_moves c requester it.request (pattern_of it.topic it.matching) base

pub unsubscribe_moves : (c : Content) (requester : Requester) (it : Unsubscribe) → Base c
    → Moves c (unsubscribe c requester it)
unsubscribe_moves c requester it base =
    let subscriptions = leaving.unsubscribe c.subscriptions requester.session it.subscription in
    let done =
    reply (with_subscriptions c subscriptions) requester.transport (message.Unsubscribed (record { request = it.request })) in
    let refused = refuse c requester.transport kind.Unsubscribe it.request no_such_subscription in
    cond_both (leaving.is_in c.subscriptions requester.session it.subscription) done refused (λ (s : Step). Moves c s)
    (λ _. subscriptions_moves c subscriptions done.says base (λ u r. refl)) (λ _. said_moves c refused.says base (λ u r. refl))

silent_events : (c : Content) (topic : List ℕ) (publication : ℕ) (args : Args) (except : Option ℕ)
    → IsSilent (events c topic publication args except)
silent_events c topic publication args except t r =
    count_flat_none (is_said is_reply t r) (event_to c.sessions.list topic publication args) (receivers c.subscriptions topic except)
    (λ receiver. silent_to c.sessions.list receiver.member (message.Event (event_of topic publication args receiver))
    (λ q. refl) t r)

silent_if : (b : Bool) (said : List Say) → IsSilent said → IsSilent (if b then said else [])
silent_if b said silent = cond_both b said [] IsSilent (λ _. silent) (λ _ t r. refl)

pub publish_moves : (c : Content) (requester : Requester) (it : Publish) → Base c → Moves c (publish c requester it)
publish_moves c requester it base =
    let except = if it.exclude_me then Some requester.session else None in
    let told = if it.acknowledge then published requester it.request ∷ [] else [] in
    let refused = refuse c requester.transport kind.Publish it.request invalid_uri in
    cond_both (is_open_topic it.topic)
    (record { content = c; says = told ++ events c it.topic requester.draw it.args except })
    (if it.acknowledge then refused else quiet c)
    (λ (s : Step). Moves c s)
    (λ _. said_moves c (told ++ events c it.topic requester.draw it.args except) base
    (silent_both told (events c it.topic requester.draw it.args except)
    (silent_if it.acknowledge (published requester it.request ∷ []) (λ u r. refl))
    (silent_events c it.topic requester.draw it.args except)))
    (λ _. cond_both it.acknowledge refused (quiet c) (λ (s : Step). Moves c s)
    (λ _. said_moves c refused.says base (λ u r. refl)) (λ _. quiet_moves c base))

-- a refusal of a request that is no CALL
refuse_by_moves : (c : Content) (t : Transport) (k : RequestKind) (request : ℕ) (error : Option (List ℕ))
    → ((text : List ℕ) → IsSilent (refuse c t k request text).says) → Base c → Moves c (refuse_by c t k request error)
refuse_by_moves c t k request None silent base = quiet_moves c base
refuse_by_moves c t k request (Some error) silent base =
    said_moves c (refuse c t k request error).says base (silent error)

registered_moves : (c : Content) (requester : Requester) (request : ℕ) (registrations : Registrations)
    (answer : Result ℕ RealmFault) → Base c
    → Moves c (registered c requester request registrations answer)
registered_moves c requester request registrations (Ok id) base =
    registrations_moves c registrations (registered c requester request registrations (Ok id)).says base (λ u r. refl)
registered_moves c requester request registrations (Err fault) base =
    refuse_by_moves c requester.transport kind.Register request (uri_of fault) (λ text u r. refl) base

register_for_moves : (c : Content) (requester : Requester) (request : ℕ) (invoke : Invoke)
    (asked : Result PatternValue UriFault) → Base c
    → Moves c (register_for c requester request invoke asked)
register_for_moves c requester request invoke (Ok pattern) base =
    registered_moves c requester request (registering.register c.registrations requester.session pattern invoke).registrations
    (registering.register c.registrations requester.session pattern invoke).answer base
register_for_moves c requester request invoke (Err fault) base =
    said_moves c (refuse c requester.transport kind.Register request invalid_uri).says base (λ u r. refl)

pub register_moves : (c : Content) (requester : Requester) (it : Register) → Base c → Moves c (register c requester it)
register_moves c requester it base =
    register_for_moves c requester it.request it.invoke (pattern_of it.procedure it.matching) base

unregistered_moves : (c : Content) (requester : Requester) (request : ℕ) (registrations : Registrations)
    (answer : Result (Unit {0}) RealmFault)
    → Base c → Moves c (unregistered c requester request registrations answer)
unregistered_moves c requester request registrations (Ok done) base =
    registrations_moves c registrations (unregistered c requester request registrations (Ok done)).says base (λ u r. refl)
unregistered_moves c requester request registrations (Err fault) base =
    refuse_by_moves c requester.transport kind.Unregister request (uri_of fault) (λ text u r. refl) base

pub unregister_moves : (c : Content) (requester : Requester) (it : Unregister) → Base c
    → Moves c (unregister c requester it)
unregister_moves c requester it base =
    unregistered_moves c requester it.request
    (registering.unregister c.registrations requester.session it.registration).registrations
    (registering.unregister c.registrations requester.session it.registration).answer base
