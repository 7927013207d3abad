-- No step changes the limits that a realm's parts are held to.
use Rattle.std.proofs.Common.{◌≡◌, ℕ, Bool, true, false, not, if◌then◌else◌, nat_lt, List, [], ◌∷◌, Result, Ok, Err}
use Rattle.std.proofs.Common.{Option, None, Some, bytes_eq, refl, ◌∙◌, ◌+◌}
use Rattle.paxos_packets.specs.declared.transport.Transport.{Transport}
use Rattle.wamp_ids.specs.declared.uri.UriFault.{UriFault}
use Rattle.wamp_ids.specs.declared.policy.Invoke.{Invoke}
use Rattle.wamp_ids.specs.declared.policy.Mode.{Mode}
use Rattle.wamp_ids.specs.Pattern.{PatternValue, pattern_of}
use Rattle.wamp_ids.specs.Uri.{is_reserved}
use Rattle.wamp_ids.specs.Uri.{uri_of as read_uri}
use Rattle.wamp_values.specs.declared.args.Args.{Args}
use Rattle.wamp_values.specs.declared.args.Args.TheVariants.{Nothing}
use Rattle.wamp_message_types.specs.declared.request_kind.RequestKind.{RequestKind}
use Rattle.wamp_message_types.specs.declared.request_kind.RequestKind.TheVariants as kind
use Rattle.wamp_message_types.specs.declared.session.Hello.{Hello as HelloMessage}
use Rattle.wamp_message_types.specs.declared.publish.Publish.{Publish as PublishMessage}
use Rattle.wamp_message_types.specs.declared.subscribe.Unsubscribe.{Unsubscribe as UnsubscribeMessage}
use Rattle.wamp_message_types.specs.declared.register.Unregister.{Unregister as UnregisterMessage}
use Rattle.wamp_message_types.specs.declared.call.Call.{Call as CallMessage}
use Rattle.wamp_message_types.specs.declared.call.Yield.{Yield as YieldMessage}
use Rattle.wamp_message_types.specs.declared.error.Error as error
use Rattle.wamp_message_types.specs.declared.message.Message.{Message}
use Rattle.wamp_message_types.specs.declared.message.Message.TheVariants as told
use Rattle.wamp_message_types.specs.declared.message.Message.TheVariants.{Hello, Abort, Goodbye, Error, Publish, Subscribe}
use Rattle.wamp_message_types.specs.declared.message.Message.TheVariants.{Unsubscribe, Register, Unregister}
use Rattle.wamp_message_types.specs.declared.message.Message.TheVariants.{Call, Cancel, Yield}
use Rattle.wamp_message_types.specs.declared.read_result.UnfitKind.{UnfitKind}
use Rattle.wamp_message_types.specs.declared.read_result.UnfitKind.TheVariants as unfit
use Rattle.wamp_message_types.specs.declared.read_result.Read.{Read}
use Rattle.wamp_message_types.specs.declared.read_result.Read.TheVariants.{Good, Unfit, Bad}
use Rattle.realm_acts.specs.declared.act.Act.{Act}
use Rattle.realm_acts.specs.declared.act.Act.TheVariants.{Connect, Said, Hung}
use Rattle.realm_sessions.specs.declared.fault.RealmFault.{RealmFault}
use Rattle.realm_sessions.specs.declared.fault.RealmFault.TheVariants as fault
use Rattle.realm_sessions.specs.Fault.{uri_of}
use Rattle.realm_sessions.specs.Links.{by_transport, of_origin, session_count, new_session_id, announces, invocation_of, session_with}
use Rattle.realm_sessions.specs.Sessions.{Sessions, Opened, opened, open_session, invoked_with, next_invocation}
use Rattle.realm_subscriptions.specs.declared.subscription.Subscription.{Subscription}
use Rattle.realm_subscriptions.specs.Subscriptions.{Subscriptions, subscription_on, is_full}
use Rattle.realm_subscriptions.specs.Subscription.{is_member}
use Rattle.realm_subscriptions.specs.Subscribing.{Subscribed}
use Rattle.realm_subscriptions.specs.Subscribing as subscribing
use Rattle.realm_subscriptions.specs.Leaving as left
use Rattle.realm_registrations.specs.declared.registration.Registration.{Registration}
use Rattle.realm_registrations.specs.declared.registration.Chosen.{Chosen}
use Rattle.realm_registrations.specs.Registration.{may_join}
use Rattle.realm_registrations.specs.Registrations.{Registrations, Registered, Unregistered, refused, register_at}
use Rattle.realm_registrations.specs.Registrations.{registration_at, with_registration, with_callee_at, is_callee, without_callee_of}
use Rattle.realm_registrations.specs.Registrations as registering
use Rattle.realm_calls.specs.declared.calls.Open.{Open}
use Rattle.realm_calls.specs.declared.calls.Cancelled.{Cancelled}
use Rattle.realm_calls.specs.Calls.{Calls, has, open_of, cancel_one, without_cancelled}
use Rattle.realm_calls.specs.Calls as calls
use Rattle.realm_machine.specs.declared.requester.Requester.{Requester}
use Rattle.realm_machine.specs.Config.{Config}
use Rattle.realm_machine.specs.Content.{Content, Step, limits_in, quiet, reply, refuse, refuse_by}
use Rattle.realm_machine.specs.Content.{with_subscriptions}
use Rattle.realm_machine.specs.Sayings.{to_session, limit, no_such_realm, no_such_subscription, no_such_procedure, invalid_uri}
use Rattle.realm_machine.specs.Sayings.{invalid_argument}
use Rattle.realm_machine.specs.Sayings.Events.{is_open_topic}
use Rattle.realm_machine.specs.Sayings.Invocations.{result_of, failure}
use Rattle.realm_machine.specs.Leaving.{leave_session, leave, remove, stop, violation, one_gone, all_gone, gone}
use Rattle.realm_machine.specs.Opening.{welcome, welcomed, open_at}
use Rattle.realm_machine.specs.Subscribing.{subscribed, subscribe_to}
use Rattle.realm_machine.specs.Unsubscribing.{unsubscribe}
use Rattle.realm_machine.specs.Publishing.{publish}
use Rattle.realm_machine.specs.Registering.{registered, register_for, unregistered, unregister}
use Rattle.realm_machine.specs.Calling.{refuse_call, invoke, call_chosen, call_uri, on_call}
use Rattle.realm_machine.specs.Calling.{cancel_found, replied, reply_to, progressed, on_yield}
use Rattle.realm_machine.specs.Step.{refuse_unless, on_unfit, on_error, on_request, on_opening, on_message, on_read, on_transport, on_act}

-- a step leaves what the parts are held to as it is
abbrev pub Stays : Content → Step → Type 0
Stays c step = limits_in step.content ≡ limits_in c

choice : {A : Type 0} (P : A → Type 0) (b : Bool) (x y : A) → P x → P y → P (if b then x else y)
choice P true x y h g = h
choice P false x y h g = g

-- ---- leaving

left_stays : (c : Content) (t : Transport) (session : Option (Option ℕ)) → Stays c (leave_session c t session)
left_stays c t None = refl
left_stays c t (Some None) = refl
left_stays c t (Some (Some session)) = refl

leave_stays : (c : Content) (t : Transport) → Stays c (leave c t)
leave_stays c t = left_stays c t (by_transport c.sessions.list t)

remove_stays : (c : Content) (t : Transport) → Stays c (remove c t)
remove_stays c t = leave_stays c t

violation_stays : (c : Content) (t : Transport) → Stays c (violation c t)
violation_stays c t = leave_stays c t

all_gone_stays : (ts : List Transport) (c : Content) → Stays c (all_gone ts c)
all_gone_stays [] c = refl
all_gone_stays (t ∷ ts) c = all_gone_stays ts (one_gone c t).content ∙ remove_stays c t

-- ---- opening

opened_limit : (sessions : Sessions) (t : Transport) (canceling : Bool) (id : Option ℕ)
    → (opened sessions t canceling id).sessions.limit ≡ sessions.limit
opened_limit sessions t canceling None = refl
opened_limit sessions t canceling (Some id) = refl

open_limit : (sessions : Sessions) (t : Transport) (draw : ℕ) (canceling : Bool)
    → (open_session sessions t draw canceling).sessions.limit ≡ sessions.limit
open_limit sessions t draw canceling =
    choice (λ (o : Opened). o.sessions.limit ≡ sessions.limit) (nat_lt (session_count sessions.list) sessions.limit)
    (opened sessions t canceling (new_session_id sessions.list draw)) (record { sessions = sessions; answer = Err fault.Limit })
    (opened_limit sessions t canceling (new_session_id sessions.list draw)) refl

welcome_stays : (c : Content) (t : Transport) (sessions : Sessions) (answer : Result ℕ RealmFault) → sessions.limit ≡ c.sessions.limit
    → Stays c (welcome c t sessions answer)
welcome_stays c t sessions (Ok id) same = λ i. record {
  sessions = same i;
  registrations = c.registrations.limit;
  subscriptions = c.subscriptions.limit;
  calls = c.calls.limit;
}
welcome_stays c t sessions (Err refused) same = leave_stays c t

hello_stays : (config : Config) (c : Content) (t : Transport) (draw : ℕ) (hello : HelloMessage) → Stays c (open_at config c t draw hello)
hello_stays config c t draw hello =
    let o = open_session c.sessions t draw hello.canceling in
    choice (Stays c) (not (bytes_eq hello.realm config.name)) (stop c t no_such_realm) (welcomed c t o) (leave_stays c t)
    (welcome_stays c t o.sessions o.answer (open_limit c.sessions t draw hello.canceling))

-- ---- subscribing and publishing

subscribe_limit : (subscriptions : Subscriptions) (session : ℕ) (pattern : PatternValue)
    → (subscribing.subscribe subscriptions session pattern).subscriptions.limit ≡ subscriptions.limit
subscribe_limit subscriptions session pattern = by_found (subscription_on subscriptions pattern)
  where
    unless : (id : ℕ) (changed : Subscriptions) → changed.limit ≡ subscriptions.limit
        → (subscribing.unless_full subscriptions session id changed).subscriptions.limit ≡ subscriptions.limit
    unless id changed same =
        choice (λ (d : Subscribed). d.subscriptions.limit ≡ subscriptions.limit) (is_full subscriptions session)
        (record { subscriptions = subscriptions; answer = Err fault.Limit }) (record { subscriptions = changed; answer = Ok id }) refl same

    by_found : (o : Option Subscription)
        → (subscribing.subscribe_to subscriptions session pattern o).subscriptions.limit ≡ subscriptions.limit
    by_found None = unless (subscriptions.last + 1) (subscribing.add subscriptions session pattern) refl
    by_found (Some found) =
        choice (λ (d : Subscribed). d.subscriptions.limit ≡ subscriptions.limit) (is_member session found)
        (record { subscriptions = subscriptions; answer = Ok found.id })
        (subscribing.unless_full subscriptions session found.id (subscribing.join subscriptions session pattern)) refl
        (unless found.id (subscribing.join subscriptions session pattern) refl)

subscribed_stays : (c : Content) (r : Requester) (request : ℕ) (changed : Subscriptions) (answer : Result ℕ RealmFault)
    → changed.limit ≡ c.subscriptions.limit → Stays c (subscribed c r request changed answer)
subscribed_stays c r request changed (Ok id) same = λ i. record {
  sessions = c.sessions.limit;
  registrations = c.registrations.limit;
  subscriptions = same i;
  calls = c.calls.limit;
}
subscribed_stays c r request changed (Err refused) same = refl

subscribe_stays : (c : Content) (r : Requester) (request : ℕ) (asked : Result PatternValue UriFault)
    → Stays c (subscribe_to c r request asked)
subscribe_stays c r request (Ok pattern) =
    let due = subscribing.subscribe c.subscriptions r.session pattern in
    subscribed_stays c r request due.subscriptions due.answer (subscribe_limit c.subscriptions r.session pattern)
subscribe_stays c r request (Err fault) = refl

unsubscribe_stays : (c : Content) (r : Requester) (asked : UnsubscribeMessage) → Stays c (unsubscribe c r asked)
unsubscribe_stays c r asked =
    choice (Stays c) (left.is_in c.subscriptions r.session asked.subscription)
    (reply (with_subscriptions c (left.unsubscribe c.subscriptions r.session asked.subscription)) r.transport
    (told.Unsubscribed (record { request = asked.request })))
    (refuse c r.transport kind.Unsubscribe asked.request no_such_subscription) refl refl

publish_stays : (c : Content) (r : Requester) (asked : PublishMessage) → Stays c (publish c r asked)
publish_stays c r asked =
    choice (Stays c) (is_open_topic asked.topic) _ _ refl
    (choice (Stays c) asked.acknowledge (refuse c r.transport kind.Publish asked.request invalid_uri) (quiet c) refl refl)

-- ---- registering

refuse_stays : (c : Content) (t : Transport) (k : RequestKind) (request : ℕ) (error : Option (List ℕ))
    → Stays c (refuse_by c t k request error)
refuse_stays c t k request None = refl
refuse_stays c t k request (Some error) = refl

register_at_limit : (registrations : Registrations) (session : ℕ) (pattern : PatternValue) (invoke : Invoke) (o : Option Registration)
    → (register_at registrations session pattern invoke o).registrations.limit ≡ registrations.limit
register_at_limit registrations session pattern invoke None =
    choice (λ (r : Registered). r.registrations.limit ≡ registrations.limit) (registering.is_full registrations session)
    (refused registrations fault.Limit)
    (record { registrations = with_registration registrations session pattern invoke; answer = Ok (registrations.last + 1) }) refl refl
register_at_limit registrations session pattern invoke (Some found) =
    choice Keeps (not (may_join session invoke found)) (refused registrations fault.AlreadyExists)
    (if registering.is_full registrations session then refused registrations fault.Limit else joined) refl
    (choice Keeps (registering.is_full registrations session) (refused registrations fault.Limit) joined refl refl)
  where
    Keeps : Registered → Type 0
    Keeps r = r.registrations.limit ≡ registrations.limit

    joined : Registered
    joined = record { registrations = with_callee_at registrations session pattern; answer = Ok found.id }

register_limit : (registrations : Registrations) (session : ℕ) (pattern : PatternValue) (invoke : Invoke)
    → (registering.register registrations session pattern invoke).registrations.limit ≡ registrations.limit
register_limit registrations session pattern invoke =
    choice (λ (r : Registered). r.registrations.limit ≡ registrations.limit) (is_reserved pattern.text) (refused registrations fault.InvalidUri)
    (register_at registrations session pattern invoke (registration_at registrations pattern)) refl
    (register_at_limit registrations session pattern invoke (registration_at registrations pattern))

with_registrations_stays : (c : Content) (n : ℕ) → n ≡ c.registrations.limit
    → record { sessions = c.sessions.limit; registrations = n; subscriptions = c.subscriptions.limit; calls = c.calls.limit } ≡ limits_in c
with_registrations_stays c n same = λ i. record {
  sessions = c.sessions.limit;
  registrations = same i;
  subscriptions = c.subscriptions.limit;
  calls = c.calls.limit;
}

registered_stays : (c : Content) (r : Requester) (request : ℕ) (changed : Registrations) (answer : Result ℕ RealmFault)
    → changed.limit ≡ c.registrations.limit → Stays c (registered c r request changed answer)
registered_stays c r request changed (Ok id) same = with_registrations_stays c changed.limit same
registered_stays c r request changed (Err fault) same = refuse_stays c r.transport kind.Register request (uri_of fault)

register_stays : (c : Content) (r : Requester) (request : ℕ) (invoke : Invoke) (asked : Result PatternValue UriFault)
    → Stays c (register_for c r request invoke asked)
register_stays c r request invoke (Ok pattern) =
    let due = registering.register c.registrations r.session pattern invoke in
    registered_stays c r request due.registrations due.answer (register_limit c.registrations r.session pattern invoke)
register_stays c r request invoke (Err fault) = refl

unregister_limit : (registrations : Registrations) (session id : ℕ)
    → (registering.unregister registrations session id).registrations.limit ≡ registrations.limit
unregister_limit registrations session id =
    choice (λ (r : Unregistered). r.registrations.limit ≡ registrations.limit) (is_callee registrations session id)
    (record { registrations = without_callee_of registrations session id; answer = Ok tt })
    (record { registrations = registrations; answer = Err fault.NoSuchRegistration }) refl refl

unregistered_stays : (c : Content) (r : Requester) (request : ℕ) (changed : Registrations) (answer : Result (Unit {0}) RealmFault)
    → changed.limit ≡ c.registrations.limit → Stays c (unregistered c r request changed answer)
unregistered_stays c r request changed (Ok done) same = with_registrations_stays c changed.limit same
unregistered_stays c r request changed (Err fault) same = refuse_stays c r.transport kind.Unregister request (uri_of fault)

unregister_stays : (c : Content) (r : Requester) (asked : UnregisterMessage) → Stays c (unregister c r asked)
unregister_stays c r asked =
    let due = registering.unregister c.registrations r.session asked.registration in
    unregistered_stays c r asked.request due.registrations due.answer (unregister_limit c.registrations r.session asked.registration)

-- ---- calls

invoked_stays : (c : Content) (r : Requester) (asked : CallMessage) (chosen : Chosen) (o : Option ℕ)
    → Stays c (invoke c r asked chosen (invoked_with c.sessions chosen.callee o))
invoked_stays c r asked chosen None = refl
invoked_stays c r asked chosen (Some id) = refl

chosen_stays : (c : Content) (r : Requester) (asked : CallMessage) (o : Option Chosen) → Stays c (call_chosen c r asked o)
chosen_stays c r asked None = refl
chosen_stays c r asked (Some chosen) =
    let taken = open_of c.calls.list chosen.callee in
    choice (Stays c) (calls.is_full c.calls r.session) (refuse_call c r asked limit)
    (invoke c r asked chosen (next_invocation c.sessions chosen.callee taken)) refl
    (invoked_stays c r asked chosen (invocation_of taken (session_with c.sessions.list chosen.callee)))

call_uri_stays : (c : Content) (r : Requester) (asked : CallMessage) (o : Result (List ℕ) UriFault) → Stays c (call_uri c r asked o)
call_uri_stays c r asked (Ok uri) =
    choice (Stays c) (is_reserved uri) (refuse_call c r asked no_such_procedure) (call_chosen c r asked (registering.choose c.registrations uri))
    refl (chosen_stays c r asked (registering.choose c.registrations uri))
call_uri_stays c r asked (Err fault) = refl

call_stays : (c : Content) (r : Requester) (asked : CallMessage) → Stays c (on_call c r asked)
call_stays c r asked =
    choice (Stays c) (has c.calls.list r.session asked.request) (violation c r.transport) (call_uri c r asked (read_uri asked.procedure))
    (violation_stays c r.transport) (call_uri_stays c r asked (read_uri asked.procedure))

canceled_limit : (list : Calls) (it : Cancelled) → (without_cancelled list it).limit ≡ list.limit
canceled_limit list it =
    choice (λ (l : Calls). l.limit ≡ list.limit) it.is_ended (calls.with_list list (calls.end list.list it.call)) list refl refl

cancel_stays : (c : Content) (r : Requester) (mode : Mode) (o : Option Open) → Stays c (cancel_found c r mode o)
cancel_stays c r mode None = refl
cancel_stays c r mode (Some call) = λ i. record {
  sessions = c.sessions.limit;
  registrations = c.registrations.limit;
  subscriptions = c.subscriptions.limit;
  calls = canceled_limit c.calls (cancel_one call mode (announces c.sessions.list call.callee)) i;
}

replied_stays : (c : Content) (answer : ℕ → Message) (o : Option Open) → Stays c (replied c answer o)
replied_stays c answer None = refl
replied_stays c answer (Some call) = refl

reply_stays : (c : Content) (callee request : ℕ) (answer : ℕ → Message) → Stays c (reply_to c callee request answer)
reply_stays c callee request answer = replied_stays c answer (calls.peek c.calls.list callee request)

progressed_stays : (c : Content) (args : Args) (o : Option Open) → Stays c (progressed c args o)
progressed_stays c args None = refl
progressed_stays c args (Some call) =
    choice (Stays c) call.progress
    (record { content = c; says = to_session c.sessions.list call.caller (result_of true args call.request) }) (quiet c) refl refl

yield_stays : (c : Content) (r : Requester) (it : YieldMessage) → Stays c (on_yield c r it)
yield_stays c r it =
    let found = calls.peek c.calls.list r.session it.request in
    choice (Stays c) it.progress (progressed c it.args found) (reply_to c r.session it.request (result_of false it.args))
    (progressed_stays c it.args found) (reply_stays c r.session it.request (result_of false it.args))

-- ---- by what the client sends

unless_stays : (c : Content) (r : Requester) (k : RequestKind) (request : ℕ) (is_quiet : Bool) → Stays c (refuse_unless c r k request is_quiet)
unless_stays c r k request true = refl
unless_stays c r k request false = refl

unfit_stays : (c : Content) (r : Requester) (k : UnfitKind) (request : ℕ) (is_quiet : Bool) → Stays c (on_unfit c r k request is_quiet)
unfit_stays c r unfit.Publish request is_quiet = unless_stays c r kind.Publish request is_quiet
unfit_stays c r unfit.Subscribe request is_quiet = unless_stays c r kind.Subscribe request is_quiet
unfit_stays c r unfit.Register request is_quiet = unless_stays c r kind.Register request is_quiet
unfit_stays c r unfit.Call request is_quiet =
    choice (Stays c) (has c.calls.list r.session request) (violation c r.transport) (refuse_unless c r kind.Call request is_quiet)
    (violation_stays c r.transport) (unless_stays c r kind.Call request is_quiet)
unfit_stays c r unfit.Cancel request is_quiet = unless_stays c r kind.Cancel request is_quiet
unfit_stays c r unfit.Yield request is_quiet = reply_stays c r.session request (failure invalid_argument Nothing)

error_stays : (c : Content) (r : Requester) (k : RequestKind) (it : error.Error) → Stays c (on_error c r k it)
error_stays c r kind.Invocation it = reply_stays c r.session it.request (failure it.error it.args)
error_stays c r k it = violation_stays c r.transport

request_stays : (config : Config) (c : Content) (r : Requester) (message : Message) → Stays c (on_request config c r message)
request_stays config c r (Abort reason) = leave_stays c r.transport
request_stays config c r (Goodbye reason) = leave_stays c r.transport
request_stays config c r (Error it) = error_stays c r it.kind it
request_stays config c r (Publish asked) = publish_stays c r asked
request_stays config c r (Subscribe asked) = subscribe_stays c r asked.request (pattern_of asked.topic asked.matching)
request_stays config c r (Unsubscribe asked) = unsubscribe_stays c r asked
request_stays config c r (Register asked) = register_stays c r asked.request asked.invoke (pattern_of asked.procedure asked.matching)
request_stays config c r (Unregister asked) = unregister_stays c r asked
request_stays config c r (Call asked) = call_stays c r asked
request_stays config c r (Cancel asked) = cancel_stays c r asked.mode (calls.call_of c.calls.list r.session asked.request)
request_stays config c r (Yield asked) = yield_stays c r asked
request_stays config c r message = violation_stays c r.transport

opening_stays : (config : Config) (c : Content) (t : Transport) (draw : ℕ) (message : Message) → Stays c (on_opening config c t draw message)
opening_stays config c t draw (Hello hello) = hello_stays config c t draw hello
opening_stays config c t draw (Abort reason) = leave_stays c t
opening_stays config c t draw message = violation_stays c t

message_stays : (config : Config) (c : Content) (t : Transport) (session : Option ℕ) (draw : ℕ) (message : Message)
    → Stays c (on_message config c t session draw message)
message_stays config c t None draw message = opening_stays config c t draw message
message_stays config c t (Some session) draw message =
    request_stays config c (record { transport = t; session = session; draw = draw }) message

read_stays : (config : Config) (c : Content) (t : Transport) (session : Option ℕ) (draw : ℕ) (read : Read)
    → Stays c (on_read config c t session draw read)
read_stays config c t session draw (Good message) = message_stays config c t session draw message
read_stays config c t None draw (Unfit k request is_quiet) = violation_stays c t
read_stays config c t (Some session) draw (Unfit k request is_quiet) =
    unfit_stays c (record { transport = t; session = session; draw = draw }) k request is_quiet
read_stays config c t session draw (Bad fault) = violation_stays c t

transport_stays : (config : Config) (c : Content) (t : Transport) (draw : ℕ) (read : Read) (session : Option (Option ℕ))
    → Stays c (on_transport config c t draw read session)
transport_stays config c t draw read None = refl
transport_stays config c t draw read (Some session) = read_stays config c t session draw read

-- ---- acts, and a node that is gone

pub act_stays : (config : Config) (c : Content) (t : Transport) (act : Act) → Stays c (on_act config c t act)
act_stays config c t Connect = refl
act_stays config c t (Said draw read) = transport_stays config c t draw read (by_transport c.sessions.list t)
act_stays config c t Hung = leave_stays c t

pub gone_stays : (c : Content) (node : ℕ) → Stays c (gone c node)
gone_stays c node = all_gone_stays (of_origin c.sessions.list node) c
