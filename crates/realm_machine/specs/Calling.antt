-- How a client calls a procedure, cancels a call, and answers an invocation (WAMP specification, "Remote Procedure Calls",
-- "Call Canceling", "Progressive Call Results", "Caller Identification"; the limits, the refusals and their order are this profile's:
-- docs/PROTOCOL.md, "The realm").
use Rattle.std.specs.Prelude.{ℕ, true, false, List, ◌++◌, Option, None, Some, Result, Ok, Err, if◌then◌else◌}
use Rattle.wamp_ids.specs.declared.policy.Mode.{Mode}
use Rattle.wamp_ids.specs.declared.uri.UriFault.{UriFault}
use Rattle.wamp_ids.specs.Uri.{uri_of, is_reserved}
use Rattle.wamp_values.specs.declared.args.Args.{Args}
use Rattle.wamp_values.specs.declared.args.Args.TheVariants.{Nothing}
use Rattle.wamp_message_types.specs.declared.request_kind.RequestKind.TheVariants as kind
use Rattle.wamp_message_types.specs.declared.message.Message.{Message}
use Rattle.wamp_message_types.specs.declared.call.Call.{Call}
use Rattle.wamp_message_types.specs.declared.call.Cancel.{Cancel}
use Rattle.wamp_message_types.specs.declared.call.Yield.{Yield}
use Rattle.realm_sessions.specs.Links.{announces}
use Rattle.realm_sessions.specs.Sessions.{Invoked, next_invocation}
use Rattle.realm_registrations.specs.declared.registration.Chosen.{Chosen}
use Rattle.realm_registrations.specs.Registrations.{choose, turn}
use Rattle.realm_calls.specs.declared.calls.Open.{Open}
use Rattle.realm_calls.specs.declared.calls.Cancelled.{Cancelled}
use Rattle.realm_calls.specs.Calls.{has, call_of, peek, is_full, open_call, with_call, open_of, end, cancel_one, without_cancelled}
use Rattle.realm_machine.specs.Sayings.{to_session, invalid_uri, invalid_argument, no_such_procedure, limit}
use Rattle.realm_machine.specs.Sayings.Invocations.{invocation, result_of, interrupted, told_canceled, failure}
use Rattle.realm_machine.specs.declared.requester.Requester.{Requester}
use Rattle.realm_machine.specs.Content.{Content, Step, quiet, refuse, with_calls}
use Rattle.realm_machine.specs.Leaving.{violation}

-- ---- CALL

abbrev pub refuse_call : Content → Requester → Call → List ℕ → Step
refuse_call c requester call error = refuse c requester.transport kind.Call call.request error

-- the call is open under this invocation id of the callee, callees that take turns do so, and the callee gets the INVOCATION; that an id is
-- found is a law of sessions
abbrev pub invoke_under : Content → Requester → Call → Chosen → Option ℕ → Step
invoke_under c requester call chosen None = refuse_call c requester call limit
invoke_under c requester call chosen (Some id) = record {
  content = record {
    sessions = c.sessions;
    registrations = turn c.registrations chosen.registration;
    subscriptions = c.subscriptions;
    calls = with_call c.calls (open_call requester.session call.request chosen.callee id call.receive_progress);
  };
  says = to_session c.sessions.list chosen.callee (invocation id requester.session chosen call);
}

-- under the callee's next id, which is its last one now
abbrev pub invoke : Content → Requester → Call → Chosen → Invoked → Step
invoke c requester call chosen invoked =
    invoke_under (record c { sessions = invoked.sessions }) requester call chosen invoked.answer

-- a procedure that this callee serves, or that none does
abbrev pub call_chosen : Content → Requester → Call → Option Chosen → Step
call_chosen c requester call None = refuse_call c requester call no_such_procedure
call_chosen c requester call (Some chosen) =
    if is_full c.calls requester.session then refuse_call c requester call limit
    else invoke c requester call chosen (next_invocation c.sessions chosen.callee (open_of c.calls.list chosen.callee))

-- a procedure that is this URI, or that is none
abbrev pub call_uri : Content → Requester → Call → Result (List ℕ) UriFault → Step
call_uri c requester call (Err fault) = refuse_call c requester call invalid_uri
call_uri c requester call (Ok uri) =
    if is_reserved uri then refuse_call c requester call no_such_procedure
    else call_chosen c requester call (choose c.registrations uri)

-- a request that is open breaks the protocol
abbrev pub on_call : Content → Requester → Call → Step
on_call c requester call =
    if has c.calls.list requester.session call.request then violation c requester.transport
    else call_uri c requester call (uri_of call.procedure)

-- ---- CANCEL

abbrev pub canceled_as : Content → Requester → Cancelled → Step
canceled_as c requester it = record {
  content = record c { calls = without_cancelled c.calls it };
  says = interrupted c.sessions.list it.call it.interrupt ++ told_canceled requester.transport it;
}

abbrev pub cancel_found : Content → Requester → Mode → Option Open → Step
cancel_found c requester mode None = quiet c
cancel_found c requester mode (Some call) =
    canceled_as c requester (cancel_one call mode (announces c.sessions.list call.callee))

abbrev pub on_cancel : Content → Requester → Cancel → Step
on_cancel c requester cancel = cancel_found c requester cancel.mode (call_of c.calls.list requester.session cancel.request)

-- ---- YIELD, and ERROR on an invocation

-- the call ends, and its caller gets the answer
abbrev pub replied : Content → (ℕ → Message) → Option Open → Step
replied c answer None = quiet c
replied c answer (Some call) = record {
  content = with_calls c (end c.calls.list call);
  says = to_session c.sessions.list call.caller (answer call.request);
}

-- the callee answers this invocation
abbrev pub reply_to : Content → ℕ → ℕ → (ℕ → Message) → Step
reply_to c callee request answer = replied c answer (peek c.calls.list callee request)

-- the caller gets a progressive result, if it takes them; the call stays open
abbrev pub progressed : Content → Args → Option Open → Step
progressed c args None = quiet c
progressed c args (Some call) =
    if call.progress then record { content = c; says = to_session c.sessions.list call.caller (result_of true args call.request) }
    else quiet c

abbrev pub on_yield : Content → Requester → Yield → Step
on_yield c requester yield =
    if yield.progress then progressed c yield.args (peek c.calls.list requester.session yield.request)
    else reply_to c requester.session yield.request (result_of false yield.args)

-- the invocation failed
abbrev pub on_failure : Content → Requester → ℕ → List ℕ → Args → Step
on_failure c requester request error args = reply_to c requester.session request (failure error args)

-- ---- unfit requests, before it is looked at whether they are quiet

abbrev pub unfit_yield : Content → Requester → ℕ → Step
unfit_yield c requester request = on_failure c requester request invalid_argument Nothing

abbrev pub unfit_call : Content → Requester → ℕ → Step → Step
unfit_call c requester request otherwise =
    if has c.calls.list requester.session request then violation c requester.transport else otherwise
