-- What every realm keeps is kept by each step of calls.
use Rattle.std.proofs.Common.{◌≡◌, ℕ, true, false, List, Result, Ok, Err}
use Rattle.std.proofs.Common.{Option, None, Some, refl, ◌∙◌}
use Rattle.std.proofs.lemmas.Bool.{cond_both}
use Rattle.wamp_ids.specs.declared.uri.UriFault.{UriFault}
use Rattle.wamp_message_types.specs.declared.message.Message.{Message}
use Rattle.realm_machine.specs.Sayings.{to_session, limit, no_such_procedure}
use Rattle.realm_machine.specs.Sayings.Invocations.{result_of}
use Rattle.realm_machine.specs.declared.requester.Requester.{Requester}
use Rattle.realm_machine.specs.Config.{Config}
use Rattle.realm_machine.specs.Content.{Content, quiet}
use Rattle.realm_machine.specs.Leaving.{violation}
use Rattle.realm_laws.specs.Laws.{IsSound}
use Rattle.wamp_ids.specs.Uri.{is_reserved}
use Rattle.realm_registrations.specs.Registrations as registering
use Rattle.realm_registrations.proofs.SoundRegistrations as sound_registrations
use Rattle.wamp_ids.specs.Uri.{uri_of as read_uri}
use Rattle.wamp_ids.specs.declared.policy.Mode.{Mode}
use Rattle.wamp_values.specs.declared.args.Args.{Args}
use Rattle.wamp_message_types.specs.declared.call.Call.{Call as CallMessage}
use Rattle.wamp_message_types.specs.declared.call.Yield.{Yield}
use Rattle.realm_sessions.specs.Links.{is_taken, announces, invocation_of, session_with, set_invocation}
use Rattle.realm_sessions.specs.Sessions.{invoked_with, next_invocation}
use Rattle.realm_registrations.specs.declared.registration.Chosen.{Chosen}
use Rattle.realm_calls.specs.declared.calls.Open.{Open}
use Rattle.realm_calls.specs.declared.calls.Cancelled.{Cancelled}
use Rattle.realm_calls.specs.Calls.{Calls, has, open_of, cancel_one, without_cancelled}
use Rattle.realm_calls.specs.Calls as calls
use Rattle.realm_machine.specs.Calling.{refuse_call, invoke, call_chosen, call_uri, on_call}
use Rattle.realm_machine.specs.Calling.{cancel_found, replied, reply_to, progressed, on_yield}
use Rattle.realm_sessions.proofs.Invoking.{invoked_links}
use Rattle.realm_laws.proofs.Standing.{invoked_taken}
use Rattle.realm_laws.proofs.Holders.{callees_stay, callees_turned, members_stay}
use Rattle.realm_laws.proofs.SoundParts.{Keeps, violation_sound}

-- ---- calls

with_calls_sound : (config : Config) (c : Content) (calls : Calls) → calls.limit ≡ config.limits.calls
    → IsSound config c
    → IsSound config (record c { calls = calls })
with_calls_sound config c calls same ok =
    record {
      limit = ok.limit;
      subscriptions_limit = ok.subscriptions_limit;
      registrations_limit = ok.registrations_limit;
      calls_limit = same;
      links = ok.links;
      registrations = ok.registrations;
      subscriptions = ok.subscriptions;
      callees = ok.callees;
      members = ok.members;
    }

invoked_sound : (config : Config) (c : Content) (r : Requester) (asked : CallMessage) (chosen : Chosen) (o : Option ℕ)
    → IsSound config c
    → Keeps config (invoke c r asked chosen (invoked_with c.sessions chosen.callee o))
invoked_sound config c r asked chosen None ok = ok
invoked_sound config c r asked chosen (Some id) ok =
    let after = set_invocation c.sessions.list chosen.callee id in
    let stays : (session : ℕ) → is_taken c.sessions.list session ≡ true → is_taken after session ≡ true =
    λ session taken. invoked_taken c.sessions.list chosen.callee id session taken in
    record {
      limit = ok.limit;
      subscriptions_limit = ok.subscriptions_limit;
      registrations_limit = ok.registrations_limit;
      calls_limit = ok.calls_limit;
      links = invoked_links c.sessions.list chosen.callee id ok.links;
      registrations = sound_registrations.turn_sound c.registrations chosen.registration ok.registrations;
      subscriptions = ok.subscriptions;
      callees = callees_turned after c.registrations chosen.registration
          (callees_stay c.sessions.list after c.registrations.list stays ok.callees);
      members = members_stay c.sessions.list after c.subscriptions.list stays ok.members;
    }

chosen_sound : (config : Config) (c : Content) (r : Requester) (asked : CallMessage) (o : Option Chosen)
    → IsSound config c
    → Keeps config (call_chosen c r asked o)
chosen_sound config c r asked None ok = ok
chosen_sound config c r asked (Some chosen) ok =
    let taken = open_of c.calls.list chosen.callee in
    cond_both (calls.is_full c.calls r.session) (refuse_call c r asked limit)
    (invoke c r asked chosen (next_invocation c.sessions chosen.callee taken)) (Keeps config)
    (λ _. ok)
    (λ _. invoked_sound config c r asked chosen (invocation_of taken (session_with c.sessions.list chosen.callee)) ok)

call_uri_sound : (config : Config) (c : Content) (r : Requester) (asked : CallMessage) (o : Result (List ℕ) UriFault)
    → IsSound config c
    → Keeps config (call_uri c r asked o)
call_uri_sound config c r asked (Ok uri) ok =
    cond_both (is_reserved uri) (refuse_call c r asked no_such_procedure) (call_chosen c r asked (registering.choose c.registrations uri)) (Keeps config)
    (λ _. ok) (λ _. chosen_sound config c r asked (registering.choose c.registrations uri) ok)
call_uri_sound config c r asked (Err fault) ok = ok

pub call_sound : (config : Config) (c : Content) (r : Requester) (asked : CallMessage) → IsSound config c
    → Keeps config (on_call c r asked)
call_sound config c r asked ok =
    cond_both (has c.calls.list r.session asked.request) (violation c r.transport) (call_uri c r asked (read_uri asked.procedure)) (Keeps config)
    (λ _. violation_sound config c r.transport ok) (λ _. call_uri_sound config c r asked (read_uri asked.procedure) ok)

-- canceling changes no limit
canceled_limit : (list : Calls) (it : Cancelled) → (without_cancelled list it).limit ≡ list.limit
canceled_limit list it =
    cond_both it.is_ended (calls.with_list list (calls.end list.list it.call)) list
    (λ (l : Calls). l.limit ≡ list.limit) (λ _. refl) (λ _. refl)

pub cancel_sound : (config : Config) (c : Content) (r : Requester) (mode : Mode) (o : Option Open) → IsSound config c
    → Keeps config (cancel_found c r mode o)
cancel_sound config c r mode None ok = ok
cancel_sound config c r mode (Some call) ok =
    let it = cancel_one call mode (announces c.sessions.list call.callee) in
    with_calls_sound config c (without_cancelled c.calls it) (canceled_limit c.calls it ∙ ok.calls_limit) ok

replied_sound : (config : Config) (c : Content) (answer : ℕ → Message) (o : Option Open) → IsSound config c
    → Keeps config (replied c answer o)
replied_sound config c answer None ok = ok
replied_sound config c answer (Some call) ok =
    with_calls_sound config c (calls.with_list c.calls (calls.end c.calls.list call)) ok.calls_limit ok

pub reply_sound : (config : Config) (c : Content) (callee request : ℕ) (answer : ℕ → Message) → IsSound config c
    → Keeps config (reply_to c callee request answer)
reply_sound config c callee request answer ok =
    replied_sound config c answer (calls.peek c.calls.list callee request) ok

progressed_sound : (config : Config) (c : Content) (args : Args) (o : Option Open) → IsSound config c
    → Keeps config (progressed c args o)
progressed_sound config c args None ok = ok
progressed_sound config c args (Some call) ok =
    cond_both call.progress
    (record { content = c; says = to_session c.sessions.list call.caller (result_of true args call.request) }) (quiet c)
    (Keeps config) (λ _. ok) (λ _. ok)

pub yield_sound : (config : Config) (c : Content) (r : Requester) (it : Yield) → IsSound config c
    → Keeps config (on_yield c r it)
yield_sound config c r it ok =
    let found = calls.peek c.calls.list r.session it.request in
    cond_both it.progress (progressed c it.args found) (reply_to c r.session it.request (result_of false it.args))
    (Keeps config)
    (λ _. progressed_sound config c it.args found ok)
    (λ _. reply_sound config c r.session it.request (result_of false it.args) ok)
