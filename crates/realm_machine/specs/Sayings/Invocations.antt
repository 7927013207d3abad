-- What is said to callees and callers about invocations (WAMP specification, "Remote Procedure Calls", "Call Canceling", "Progressive Call
-- Results", "Caller Identification").
use Rattle.std.specs.Prelude.{ℕ, Bool, List, [], ◌∷◌, Option, None, Some, if◌then◌else◌}
use Rattle.paxos_packets.specs.declared.transport.Transport.{Transport}
use Rattle.wamp_ids.specs.declared.policy.Match.{Match}
use Rattle.wamp_ids.specs.declared.policy.Match.TheVariants.{Exact, Prefix, Wildcard}
use Rattle.wamp_ids.specs.declared.policy.Mode.{Mode}
use Rattle.wamp_values.specs.declared.args.Args.{Args}
use Rattle.wamp_message_types.specs.declared.request_kind.RequestKind.TheVariants as kind
use Rattle.wamp_message_types.specs.declared.message.Message.{Message}
use Rattle.wamp_message_types.specs.declared.message.Message.TheVariants.{Error, CallResult, Invocation, Interrupt}
use Rattle.wamp_message_types.specs.declared.call.Call.{Call}
use Rattle.realm_sessions.specs.declared.links.Link.{Link}
use Rattle.realm_registrations.specs.declared.registration.Chosen.{Chosen}
use Rattle.realm_calls.specs.declared.calls.Open.{Open}
use Rattle.realm_calls.specs.declared.calls.Cancelled.{Cancelled}
use Rattle.realm_machine.specs.declared.sayings.say.Say.{Say}
use Rattle.realm_machine.specs.Sayings.{say, to_session, refusal, canceled}

-- an INVOCATION names its procedure unless the match is exact
abbrev pub procedure_for : Match → List ℕ → Option (List ℕ)
procedure_for Exact procedure = None
procedure_for Prefix procedure = Some procedure
procedure_for Wildcard procedure = Some procedure

-- an INVOCATION names its caller if the CALL asks for it
abbrev pub caller_for : Bool → ℕ → Option ℕ
caller_for disclose_me caller = if disclose_me then Some caller else None

abbrev pub invocation : ℕ → ℕ → Chosen → Call → Message
invocation id caller chosen call = Invocation (record {
  request = id;
  registration = chosen.registration;
  caller = caller_for call.disclose_me caller;
  procedure = procedure_for chosen.matching call.procedure;
  receive_progress = call.receive_progress;
  args = call.args;
})

-- a RESULT: a progressive one, or the one that ends the call
abbrev pub result_of : Bool → Args → ℕ → Message
result_of progress args request = CallResult (record { request = request; progress = progress; args = args })

abbrev pub interrupt : Open → Mode → Message
interrupt call mode = Interrupt (record { request = call.invocation; mode = mode })

-- the callee is interrupted, if that is due
abbrev pub interrupted : List Link → Open → Option Mode → List Say
interrupted links call None = []
interrupted links call (Some mode) = to_session links call.callee (interrupt call mode)

-- the ERROR to the caller, if its call ended
abbrev pub told_canceled : Transport → Cancelled → List Say
told_canceled t it = if it.is_ended then say t (refusal kind.Call it.call.request canceled) ∷ [] else []

abbrev pub failure : List ℕ → Args → ℕ → Message
failure error args request = Error (record { kind = kind.Call; request = request; error = error; args = args })
