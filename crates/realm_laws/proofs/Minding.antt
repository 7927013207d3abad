-- If each connected transport passes a test, and so does the one that a client is at, then each passes it after the client's step, and the
-- step speaks to such transports alone. Ids begin with 1 before and after it.
use Rattle.std.proofs.Common.{◌≡◌, ℕ, Bool, true, false, not, List, [], ◌∷◌, ◌++◌, Option, None, Some, Result, Ok, Err, bytes_eq}
use Rattle.std.proofs.Common.{if◌then◌else◌}
use Rattle.std.specs.Prelude.{nat_lt}
use Rattle.std.specs.List.{flat_map}
use Rattle.std.proofs.lemmas.Bool.{cond_both}
use Rattle.paxos_packets.specs.declared.transport.Transport.{Transport}
use Rattle.wamp_ids.specs.declared.policy.Invoke.{Invoke}
use Rattle.wamp_ids.specs.declared.policy.Mode.{Mode}
use Rattle.wamp_ids.specs.declared.policy.Mode.TheVariants.{KillNoWait}
use Rattle.wamp_ids.specs.declared.uri.UriFault.{UriFault}
use Rattle.wamp_ids.specs.Pattern.{PatternValue}
use Rattle.wamp_ids.specs.Uri.{uri_of as read_uri, is_reserved}
use Rattle.wamp_values.specs.declared.args.Args.{Args}
use Rattle.wamp_message_types.specs.declared.request_kind.RequestKind.{RequestKind}
use Rattle.wamp_message_types.specs.declared.request_kind.RequestKind.TheVariants as kind
use Rattle.wamp_message_types.specs.declared.message.Message.{Message}
use Rattle.wamp_message_types.specs.declared.message.Message.TheVariants as told
use Rattle.wamp_message_types.specs.declared.session.Hello.{Hello as HelloMessage}
use Rattle.wamp_message_types.specs.declared.publish.Publish.{Publish as PublishMessage}
use Rattle.wamp_message_types.specs.declared.subscribe.Unsubscribe.{Unsubscribe as UnsubscribeMessage}
use Rattle.wamp_message_types.specs.declared.register.Unregister.{Unregister as UnregisterMessage}
use Rattle.wamp_message_types.specs.declared.call.Call.{Call as CallMessage}
use Rattle.wamp_message_types.specs.declared.call.Yield.{Yield as YieldMessage}
use Rattle.realm_sessions.specs.declared.fault.RealmFault.{RealmFault}
use Rattle.realm_sessions.specs.declared.fault.RealmFault.TheVariants as fault
use Rattle.realm_sessions.specs.Fault.{uri_of}
use Rattle.realm_sessions.specs.declared.links.Link.{Link}
use Rattle.realm_sessions.specs.Links.{by_transport, set_session, without_transport, announces, new_session_id, session_count}
use Rattle.realm_sessions.specs.Links.{invocation_of, session_with}
use Rattle.realm_sessions.specs.Sessions.{Opened, opened, open_session, invoked_with, next_invocation}
use Rattle.realm_registrations.specs.declared.registration.Chosen.{Chosen}
use Rattle.realm_registrations.specs.Registrations.{Registrations}
use Rattle.realm_registrations.specs.Registrations as registering
use Rattle.realm_subscriptions.specs.Subscriptions.{Subscriptions}
use Rattle.realm_subscriptions.specs.Subscribing as subscribing
use Rattle.realm_subscriptions.specs.Leaving as left
use Rattle.realm_subscriptions.specs.Receiving.{receivers}
use Rattle.realm_calls.specs.declared.calls.Open.{Open}
use Rattle.realm_calls.specs.declared.calls.Cancelled.{Cancelled}
use Rattle.realm_calls.specs.Calls.{Calls, has, open_of, cancel_one, without_cancelled, calls_to, calls_by, without_callee}
use Rattle.realm_calls.specs.Calls as calls
use Rattle.realm_machine.specs.declared.sayings.say.Say.{Say}
use Rattle.realm_machine.specs.Sayings.{say, shut, to_session, refusal, abort, goodbye as goodbye_for, goodbye_and_out, protocol_violation}
use Rattle.realm_machine.specs.Sayings.{limit, no_such_realm, no_such_procedure, no_such_subscription, invalid_uri, canceled}
use Rattle.realm_machine.specs.Sayings.Endings.{end_for_caller, end_for_callee, farewell}
use Rattle.realm_machine.specs.Sayings.Events.{event_of, event_to, is_open_topic}
use Rattle.realm_machine.specs.Sayings.Invocations.{interrupt, interrupted, invocation, result_of, told_canceled}
use Rattle.realm_machine.specs.declared.requester.Requester.{Requester}
use Rattle.realm_machine.specs.Config.{Config}
use Rattle.realm_machine.specs.Content.{Content, Step, quiet, reply, refuse, refuse_by, and_then, with_links, with_subscriptions}
use Rattle.realm_machine.specs.Content.{with_registrations}
use Rattle.realm_machine.specs.Leaving.{leave_session, leave, remove, stop, violation, aborted, goodbye, one_gone, all_gone}
use Rattle.realm_machine.specs.Opening.{welcomed, open_at}
use Rattle.realm_machine.specs.Subscribing.{subscribed, subscribe_to}
use Rattle.realm_machine.specs.Unsubscribing.{unsubscribe}
use Rattle.realm_machine.specs.Publishing.{events, published, publish}
use Rattle.realm_machine.specs.Registering.{registered, register_for, unregistered, unregister}
use Rattle.realm_machine.specs.Calling.{refuse_call, invoke, call_chosen, call_uri, on_call, cancel_found, replied, reply_to}
use Rattle.realm_machine.specs.Calling.{progressed, on_yield}
use Rattle.realm_laws.proofs.Has.{Has, in_front, further}
use Rattle.realm_laws.proofs.Known.{AreOf, set_of, invoked_of, removed_of, AreFor, for_none, for_first, for_one, for_both, for_each}
use Rattle.realm_laws.proofs.Known.{for_session, FromOne, registered_from, unregistered_from, withdrawn_from, turned_from, CountFromOne}
use Rattle.realm_laws.proofs.Known.{subscribed_count, unsubscribed_count, withdrawn_count}

pub record Knows (P : Transport → Bool) (c : Content) : Type 0 where
  pub links : AreOf P c.sessions.list
  pub registrations : FromOne c.registrations.list
  pub subscriptions : CountFromOne c.subscriptions.list

pub record Minds (P : Transport → Bool) (s : Step) : Type 0 where
  pub knows : Knows P s.content
  pub says : AreFor P s.says

pub quiet_minds : (P : Transport → Bool) (c : Content) → Knows P c → Minds P (quiet c)
quiet_minds P c it = record { knows = it; says = for_none P }

pub says_minds : (P : Transport → Bool) (c : Content) (said : List Say) → Knows P c → AreFor P said
    → Minds P (record { content = c; says = said })
says_minds P c said it are = record { knows = it; says = are }

pub reply_minds : (P : Transport → Bool) (c : Content) (t : Transport) (message : Message) → P t ≡ true → Knows P c
    → Minds P (reply c t message)
reply_minds P c t message own it = says_minds P c (say t message ∷ []) it (for_one P (say t message) own)

pub then_minds : (P : Transport → Bool) (a : Step) (f : Content → Step) → Minds P a → Minds P (f a.content) → Minds P (and_then a f)
then_minds P a f first second = record { knows = second.knows; says = for_both P a.says (f a.content).says first.says second.says }

-- something more is said
more_minds : (P : Transport → Bool) (a : Step) (said : List Say) → Minds P a → AreFor P said
    → Minds P (and_then a (λ d. record { content = d; says = said }))
more_minds P a said first are =
    then_minds P a (λ d. record { content = d; says = said }) first (says_minds P a.content said first.knows are)

linked : (P : Transport → Bool) (c : Content) (links : List Link) → AreOf P links → Knows P c → Knows P (with_links c links)
linked P c links are it = record { links = are; registrations = it.registrations; subscriptions = it.subscriptions }

with_calls_knows : (P : Transport → Bool) (c : Content) (calls : Calls) → Knows P c → Knows P (record c { calls = calls })
with_calls_knows P c calls it = record { links = it.links; registrations = it.registrations; subscriptions = it.subscriptions }

-- ---- leaving

for_callee : (P : Transport → Bool) (links : List Link) (call : Open) → AreOf P links → AreFor P (end_for_callee links call)
for_callee P links call are =
    cond_both (announces links call.callee) (to_session links call.callee (interrupt call KillNoWait)) [] (AreFor P)
    (λ _. for_session P links call.callee (interrupt call KillNoWait) are) (λ _. for_none P)

leave_with : (P : Transport → Bool) (c : Content) (t : Transport) (o : Option (Option ℕ)) → Knows P c → Minds P (leave_session c t o)
leave_with P c t None it = quiet_minds P c it
leave_with P c t (Some None) it = quiet_minds P c it
leave_with P c t (Some (Some session)) it = record {
  knows = record {
    links = cleared;
    registrations = withdrawn_from c.registrations session it.registrations;
    subscriptions = withdrawn_count c.subscriptions session it.subscriptions;
  };
  says = for_both P to (by ++ [])
      (for_each P (end_for_caller links) (calls_to list session)
      (λ call. for_session P links call.caller (refusal kind.Call call.request canceled) cleared))
      (for_both P by [] (for_each P (end_for_callee links) (calls_by (without_callee list session) session)
      (λ call. for_callee P links call cleared))
      (for_none P));
}
  where
    links : List Link
    links = set_session c.sessions.list t None

    list : List Open
    list = c.calls.list

    cleared : AreOf P links
    cleared = set_of P c.sessions.list t None it.links

    to : List Say
    to = flat_map (end_for_caller links) (calls_to list session)

    by : List Say
    by = flat_map (end_for_callee links) (calls_by (without_callee list session) session)

pub leave_minds : (P : Transport → Bool) (c : Content) (t : Transport) → Knows P c → Minds P (leave c t)
leave_minds P c t it = leave_with P c t (by_transport c.sessions.list t) it

pub remove_minds : (P : Transport → Bool) (c : Content) (t : Transport) → Knows P c → Minds P (remove c t)
remove_minds P c t it =
    let left = leave_minds P c t it in
    let d = (leave c t).content in
    then_minds P (leave c t) (λ d. quiet (with_links d (without_transport d.sessions.list t))) left
    (quiet_minds P (with_links d (without_transport d.sessions.list t))
    (linked P d (without_transport d.sessions.list t) (removed_of P d.sessions.list t left.knows.links) left.knows))

pub stop_minds : (P : Transport → Bool) (c : Content) (t : Transport) (reason : List ℕ) → P t ≡ true → Knows P c
    → Minds P (stop c t reason)
stop_minds P c t reason own it =
    more_minds P (remove c t) (say t (abort reason) ∷ (shut t ∷ [])) (remove_minds P c t it)
    (for_first P (say t (abort reason)) (shut t ∷ []) own (for_one P (shut t) own))

pub violation_minds : (P : Transport → Bool) (c : Content) (t : Transport) → P t ≡ true → Knows P c → Minds P (violation c t)
violation_minds P c t own it = stop_minds P c t protocol_violation own it

pub aborted_minds : (P : Transport → Bool) (c : Content) (t : Transport) → P t ≡ true → Knows P c → Minds P (aborted c t)
aborted_minds P c t own it = more_minds P (remove c t) (shut t ∷ []) (remove_minds P c t it) (for_one P (shut t) own)

pub goodbye_minds : (P : Transport → Bool) (c : Content) (t : Transport) → P t ≡ true → Knows P c → Minds P (goodbye c t)
goodbye_minds P c t own it =
    more_minds P (leave c t) (say t (goodbye_for goodbye_and_out) ∷ []) (leave_minds P c t it)
    (for_one P (say t (goodbye_for goodbye_and_out)) own)

for_farewell : (P : Transport → Bool) (t : Transport) (o : Option (Option ℕ)) → P t ≡ true → AreFor P (farewell t o)
for_farewell P t None own = for_none P
for_farewell P t (Some None) own = for_one P (shut t) own
for_farewell P t (Some (Some session)) own = for_first P _ (shut t ∷ []) own (for_one P (shut t) own)

one_gone_minds : (P : Transport → Bool) (c : Content) (t : Transport) → P t ≡ true → Knows P c → Minds P (one_gone c t)
one_gone_minds P c t own it =
    more_minds P (remove c t) (farewell t (by_transport c.sessions.list t)) (remove_minds P c t it)
    (for_farewell P t (by_transport c.sessions.list t) own)

pub all_gone_minds : (P : Transport → Bool) (ts : List Transport) (c : Content) → ((t : Transport) → Has ts t → P t ≡ true) → Knows P c
    → Minds P (all_gone ts c)
all_gone_minds P [] c own it = quiet_minds P c it
all_gone_minds P (t ∷ ts) c own it =
    let one = one_gone_minds P c t (own t in_front) it in
    then_minds P (one_gone c t) (all_gone ts) one
    (all_gone_minds P ts (one_gone c t).content (λ u h. own u (further h)) one.knows)

-- ---- opening a session

welcome_minds : (P : Transport → Bool) (c : Content) (t : Transport) (o : Option ℕ) (canceling : Bool) → P t ≡ true → Knows P c
    → Minds P (welcomed c t (opened c.sessions t canceling o))
welcome_minds P c t None canceling own it = stop_minds P c t limit own it
welcome_minds P c t (Some id) canceling own it =
    let session = Some (record { id = id; canceling = canceling; last_invocation = None }) in
    reply_minds P (with_links c (set_session c.sessions.list t session)) t (told.Welcome (record { session = id })) own
    (linked P c (set_session c.sessions.list t session) (set_of P c.sessions.list t session it.links) it)

pub open_minds : (P : Transport → Bool) (config : Config) (c : Content) (t : Transport) (draw : ℕ) (hello : HelloMessage) → P t ≡ true
    → Knows P c → Minds P (open_at config c t draw hello)
open_minds P config c t draw hello own it =
    cond_both (not (bytes_eq hello.realm config.name)) (stop c t no_such_realm)
    (welcomed c t (open_session c.sessions t draw hello.canceling))
    (Minds P)
    (λ _. stop_minds P c t no_such_realm own it)
    (λ _. cond_both (nat_lt (session_count c.sessions.list) c.sessions.limit)
    (opened c.sessions t hello.canceling (new_session_id c.sessions.list draw))
    (record { sessions = c.sessions; answer = Err fault.Limit }) (λ (o : Opened). Minds P (welcomed c t o))
    (λ _. welcome_minds P c t (new_session_id c.sessions.list draw) hello.canceling own it)
    (λ _. stop_minds P c t limit own it))

-- ---- subscribing and publishing

subscribed_minds : (P : Transport → Bool) (c : Content) (r : Requester) (request : ℕ) (changed : Subscriptions)
    (answer : Result ℕ RealmFault) → P r.transport ≡ true → CountFromOne changed.list → Knows P c
    → Minds P (subscribed c r request changed answer)
subscribed_minds P c r request changed (Ok id) own are it =
    reply_minds P (with_subscriptions c changed) r.transport _ own
    (record { links = it.links; registrations = it.registrations; subscriptions = are })
subscribed_minds P c r request changed (Err refused) own are it = reply_minds P c r.transport _ own it

pub subscribe_minds : (P : Transport → Bool) (c : Content) (r : Requester) (request : ℕ) (asked : Result PatternValue UriFault)
    → P r.transport ≡ true → Knows P c → Minds P (subscribe_to c r request asked)
subscribe_minds P c r request (Ok pattern) own it =
    let due = subscribing.subscribe c.subscriptions r.session pattern in
    subscribed_minds P c r request due.subscriptions due.answer own (subscribed_count c.subscriptions r.session pattern it.subscriptions) it
subscribe_minds P c r request (Err fault) own it = reply_minds P c r.transport _ own it

pub unsubscribe_minds : (P : Transport → Bool) (c : Content) (r : Requester) (asked : UnsubscribeMessage) → P r.transport ≡ true
    → Knows P c → Minds P (unsubscribe c r asked)
unsubscribe_minds P c r asked own it =
    let changed = with_subscriptions c (left.unsubscribe c.subscriptions r.session asked.subscription) in
    cond_both (left.is_in c.subscriptions r.session asked.subscription)
    (reply changed r.transport (told.Unsubscribed (record { request = asked.request })))
    (refuse c r.transport kind.Unsubscribe asked.request no_such_subscription) (Minds P)
    (λ _. reply_minds P changed r.transport (told.Unsubscribed (record { request = asked.request })) own
    (record {
      links = it.links;
      registrations = it.registrations;
      subscriptions = unsubscribed_count c.subscriptions r.session asked.subscription it.subscriptions;
    }))
    (λ _. reply_minds P c r.transport _ own it)

pub publish_minds : (P : Transport → Bool) (c : Content) (r : Requester) (asked : PublishMessage) → P r.transport ≡ true → Knows P c
    → Minds P (publish c r asked)
publish_minds P c r asked own it =
    cond_both (is_open_topic asked.topic) (record { content = c; says = first ++ events c asked.topic r.draw asked.args except })
    (if asked.acknowledge then refuse c r.transport kind.Publish asked.request invalid_uri else quiet c) (Minds P)
    (λ _. says_minds P c (first ++ events c asked.topic r.draw asked.args except) it
    (for_both P first (events c asked.topic r.draw asked.args except) confirmed
    (for_each P (event_to c.sessions.list asked.topic r.draw asked.args) (receivers c.subscriptions asked.topic except)
    (λ one. for_session P c.sessions.list one.member (told.Event (event_of asked.topic r.draw asked.args one)) it.links))))
    (λ _. cond_both asked.acknowledge (refuse c r.transport kind.Publish asked.request invalid_uri) (quiet c) (Minds P)
    (λ _. reply_minds P c r.transport _ own it) (λ _. quiet_minds P c it))
  where
    first : List Say
    first = if asked.acknowledge then published r asked.request ∷ [] else []

    except : Option ℕ
    except = if asked.exclude_me then Some r.session else None

    confirmed : AreFor P first
    confirmed =
        cond_both asked.acknowledge (published r asked.request ∷ []) [] (AreFor P) (λ _. for_one P (published r asked.request) own)
        (λ _. for_none P)

-- ---- registering

refused_minds : (P : Transport → Bool) (c : Content) (t : Transport) (k : RequestKind) (request : ℕ) (error : Option (List ℕ))
    → P t ≡ true → Knows P c → Minds P (refuse_by c t k request error)
refused_minds P c t k request None own it = quiet_minds P c it
refused_minds P c t k request (Some error) own it = reply_minds P c t _ own it

with_registrations_knows : (P : Transport → Bool) (c : Content) (changed : Registrations) → FromOne changed.list → Knows P c
    → Knows P (with_registrations c changed)
with_registrations_knows P c changed are it = record { links = it.links; registrations = are; subscriptions = it.subscriptions }

registered_minds : (P : Transport → Bool) (c : Content) (r : Requester) (request : ℕ) (changed : Registrations)
    (answer : Result ℕ RealmFault) → P r.transport ≡ true → FromOne changed.list → Knows P c
    → Minds P (registered c r request changed answer)
registered_minds P c r request changed (Ok id) own are it =
    reply_minds P (with_registrations c changed) r.transport _ own (with_registrations_knows P c changed are it)
registered_minds P c r request changed (Err fault) own are it = refused_minds P c r.transport kind.Register request (uri_of fault) own it

pub register_minds : (P : Transport → Bool) (c : Content) (r : Requester) (request : ℕ) (invoke : Invoke)
    (asked : Result PatternValue UriFault) → P r.transport ≡ true → Knows P c → Minds P (register_for c r request invoke asked)
register_minds P c r request invoke (Ok pattern) own it =
    let due = registering.register c.registrations r.session pattern invoke in
    registered_minds P c r request due.registrations due.answer own
    (registered_from c.registrations r.session pattern invoke it.registrations) it
register_minds P c r request invoke (Err fault) own it = reply_minds P c r.transport _ own it

unregistered_minds : (P : Transport → Bool) (c : Content) (r : Requester) (request : ℕ) (changed : Registrations)
    (answer : Result (Unit {0}) RealmFault) → P r.transport ≡ true → FromOne changed.list → Knows P c
    → Minds P (unregistered c r request changed answer)
unregistered_minds P c r request changed (Ok done) own are it =
    reply_minds P (with_registrations c changed) r.transport _ own (with_registrations_knows P c changed are it)
unregistered_minds P c r request changed (Err fault) own are it =
    refused_minds P c r.transport kind.Unregister request (uri_of fault) own it

pub unregister_minds : (P : Transport → Bool) (c : Content) (r : Requester) (asked : UnregisterMessage) → P r.transport ≡ true
    → Knows P c → Minds P (unregister c r asked)
unregister_minds P c r asked own it =
    let due = registering.unregister c.registrations r.session asked.registration in
    unregistered_minds P c r asked.request due.registrations due.answer own
    (unregistered_from c.registrations r.session asked.registration it.registrations) it

-- ---- calls

invoke_minds : (P : Transport → Bool) (c : Content) (r : Requester) (asked : CallMessage) (chosen : Chosen) (o : Option ℕ)
    → P r.transport ≡ true → Knows P c → Minds P (invoke c r asked chosen (invoked_with c.sessions chosen.callee o))
invoke_minds P c r asked chosen None own it = reply_minds P c r.transport _ own it
invoke_minds P c r asked chosen (Some id) own it =
    let are = invoked_of P c.sessions.list chosen.callee id it.links in
    record {
      knows = record {
        links = are;
        registrations = turned_from c.registrations chosen.registration it.registrations;
        subscriptions = it.subscriptions;
      };
      says = for_session P _ chosen.callee (invocation id r.session chosen asked) are;
    }

chosen_minds : (P : Transport → Bool) (c : Content) (r : Requester) (asked : CallMessage) (o : Option Chosen) → P r.transport ≡ true
    → Knows P c → Minds P (call_chosen c r asked o)
chosen_minds P c r asked None own it = reply_minds P c r.transport _ own it
chosen_minds P c r asked (Some chosen) own it =
    let taken = open_of c.calls.list chosen.callee in
    cond_both (calls.is_full c.calls r.session) (refuse_call c r asked limit)
    (invoke c r asked chosen (next_invocation c.sessions chosen.callee taken)) (Minds P)
    (λ _. reply_minds P c r.transport _ own it)
    (λ _. invoke_minds P c r asked chosen (invocation_of taken (session_with c.sessions.list chosen.callee)) own it)

call_uri_minds : (P : Transport → Bool) (c : Content) (r : Requester) (asked : CallMessage) (o : Result (List ℕ) UriFault)
    → P r.transport ≡ true → Knows P c → Minds P (call_uri c r asked o)
call_uri_minds P c r asked (Ok uri) own it =
    cond_both (is_reserved uri) (refuse_call c r asked no_such_procedure) (call_chosen c r asked (registering.choose c.registrations uri))
    (Minds P)
    (λ _. reply_minds P c r.transport _ own it) (λ _. chosen_minds P c r asked (registering.choose c.registrations uri) own it)
call_uri_minds P c r asked (Err fault) own it = reply_minds P c r.transport _ own it

pub call_minds : (P : Transport → Bool) (c : Content) (r : Requester) (asked : CallMessage) → P r.transport ≡ true → Knows P c
    → Minds P (on_call c r asked)
call_minds P c r asked own it =
    cond_both (has c.calls.list r.session asked.request) (violation c r.transport) (call_uri c r asked (read_uri asked.procedure)) (Minds P)
    (λ _. violation_minds P c r.transport own it) (λ _. call_uri_minds P c r asked (read_uri asked.procedure) own it)

for_interrupted : (P : Transport → Bool) (links : List Link) (call : Open) (o : Option Mode) → AreOf P links
    → AreFor P (interrupted links call o)
for_interrupted P links call None are = for_none P
for_interrupted P links call (Some mode) are = for_session P links call.callee (interrupt call mode) are

for_canceled : (P : Transport → Bool) (t : Transport) (it : Cancelled) → P t ≡ true → AreFor P (told_canceled t it)
for_canceled P t it own =
    let message = refusal kind.Call it.call.request canceled in
    cond_both it.is_ended (say t message ∷ []) [] (AreFor P) (λ _. for_one P (say t message) own) (λ _. for_none P)

pub cancel_minds : (P : Transport → Bool) (c : Content) (r : Requester) (mode : Mode) (o : Option Open) → P r.transport ≡ true
    → Knows P c → Minds P (cancel_found c r mode o)
cancel_minds P c r mode None own it = quiet_minds P c it
cancel_minds P c r mode (Some call) own it =
    let done = cancel_one call mode (announces c.sessions.list call.callee) in
    record {
      knows = with_calls_knows P c (without_cancelled c.calls done) it;
      says = for_both P (interrupted c.sessions.list done.call done.interrupt) (told_canceled r.transport done)
          (for_interrupted P c.sessions.list done.call done.interrupt it.links) (for_canceled P r.transport done own);
    }

replied_minds : (P : Transport → Bool) (c : Content) (answer : ℕ → Message) (o : Option Open) → Knows P c → Minds P (replied c answer o)
replied_minds P c answer None it = quiet_minds P c it
replied_minds P c answer (Some call) it = record {
  knows = with_calls_knows P c (calls.with_list c.calls (calls.end c.calls.list call)) it;
  says = for_session P c.sessions.list call.caller (answer call.request) it.links;
}

pub answer_minds : (P : Transport → Bool) (c : Content) (callee request : ℕ) (answer : ℕ → Message) → Knows P c
    → Minds P (reply_to c callee request answer)
answer_minds P c callee request answer it = replied_minds P c answer (calls.peek c.calls.list callee request) it

progressed_minds : (P : Transport → Bool) (c : Content) (args : Args) (o : Option Open) → Knows P c → Minds P (progressed c args o)
progressed_minds P c args None it = quiet_minds P c it
progressed_minds P c args (Some call) it =
    let said = to_session c.sessions.list call.caller (result_of true args call.request) in
    cond_both call.progress (record { content = c; says = said }) (quiet c) (Minds P)
    (λ _. says_minds P c said it (for_session P c.sessions.list call.caller (result_of true args call.request) it.links))
    (λ _. quiet_minds P c it)

pub yield_minds : (P : Transport → Bool) (c : Content) (r : Requester) (asked : YieldMessage) → Knows P c → Minds P (on_yield c r asked)
yield_minds P c r asked it =
    let found = calls.peek c.calls.list r.session asked.request in
    cond_both asked.progress (progressed c asked.args found) (reply_to c r.session asked.request (result_of false asked.args)) (Minds P)
    (λ _. progressed_minds P c asked.args found it)
    (λ _. answer_minds P c r.session asked.request (result_of false asked.args) it)
