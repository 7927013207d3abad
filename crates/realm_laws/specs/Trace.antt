-- Calls, their progressive results and their final replies, entry by entry (WAMP specification, "Remote Procedure Calls",
-- "Progressive Call Results").
use Rattle.std.specs.Prelude.{ℕ, ◌==◌, Bool, true, false, not, ◌&&◌, ◌||◌, List, [], ◌∷◌, ◌++◌}
use Rattle.std.specs.List.{flat_map}
use Rattle.paxos_packets.specs.declared.transport.Transport.{Transport}
use Rattle.paxos_packets.specs.Transport.{same_transport}
use Rattle.replica_machine.specs.declared.input.Input.{Input}
use Rattle.replica_machine.specs.declared.input.Input.TheVariants.{Boot, Lost, Item}
use Rattle.wamp_message_types.specs.declared.request_kind.RequestKind.{RequestKind}
use Rattle.wamp_message_types.specs.declared.request_kind.RequestKind.TheVariants as kind
use Rattle.wamp_message_types.specs.declared.message.Message.{Message}
use Rattle.wamp_message_types.specs.declared.message.Message.TheVariants.{Error, Call, CallResult}
use Rattle.wamp_message_types.specs.declared.read_result.UnfitKind.{UnfitKind}
use Rattle.wamp_message_types.specs.declared.read_result.UnfitKind.TheVariants as unfit
use Rattle.wamp_message_types.specs.declared.read_result.Read.{Read}
use Rattle.wamp_message_types.specs.declared.read_result.Read.TheVariants.{Good, Unfit, Bad}
use Rattle.realm_acts.specs.declared.act.Act.{Act}
use Rattle.realm_acts.specs.declared.act.Act.TheVariants.{Connect, Said, Hung}
use Rattle.realm_machine.specs.declared.sayings.say.Out.{Out}
use Rattle.realm_machine.specs.declared.sayings.say.Out.TheVariants.{Send, Close}
use Rattle.realm_machine.specs.declared.sayings.say.Say.{Say}
use Rattle.realm_machine.specs.Config.{Config}
use Rattle.realm_machine.specs.Content.{Content}
use Rattle.realm_machine.specs.Step.{after_input, said_at}

-- a call is made, gets a progressive result, or gets its final reply
pub data Letter : Type 0 where
  Asked : Letter
  Progressed : Letter
  Answered : Letter

-- ---- what asks

abbrev pub is_call_of : ℕ → Message → Bool
is_call_of request (Call call) = call.request == request
is_call_of request message = false

abbrev pub is_unfit_call : UnfitKind → Bool
is_unfit_call unfit.Call = true
is_unfit_call kind = false

-- an unfit CALL asks, too
abbrev pub is_call_read : ℕ → Read → Bool
is_call_read request (Good message) = is_call_of request message
is_call_read request (Unfit kind unfit is_quiet) = is_unfit_call kind && unfit == request
is_call_read request (Bad fault) = false

abbrev pub is_call_act : ℕ → Act → Bool
is_call_act request Connect = false
is_call_act request (Said draw read) = is_call_read request read
is_call_act request Hung = false

-- the transport calls under this request, be it connected or not
abbrev pub asks : Transport → ℕ → Input Act → Bool
asks t request (Boot node boot) = false
asks t request (Lost node boot) = false
asks t request (Item transport act) = is_call_act request act && same_transport transport t

-- ---- what answers

abbrev pub is_call_kind : RequestKind → Bool
is_call_kind kind.Call = true
is_call_kind kind = false

-- a RESULT that is not progressive, or an ERROR on a CALL
abbrev pub is_final_message : ℕ → Message → Bool
is_final_message request (CallResult reply) = not reply.progress && reply.request == request
is_final_message request (Error error) = is_call_kind error.kind && error.request == request
is_final_message request message = false

-- a RESULT that is progressive
abbrev pub is_progress_message : ℕ → Message → Bool
is_progress_message request (CallResult reply) = reply.progress && reply.request == request
is_progress_message request message = false

abbrev pub is_sent : (ℕ → Message → Bool) → ℕ → Out → Bool
is_sent test request (Send message) = test request message
is_sent test request Close = false

-- a message that passes the test under this request is said to the transport
abbrev pub is_said : (ℕ → Message → Bool) → Transport → ℕ → Say → Bool
is_said test t request it = is_sent test request it.out && same_transport it.transport t

abbrev pub is_final : Transport → ℕ → Say → Bool
is_final t request it = is_said is_final_message t request it

abbrev pub is_progress : Transport → ℕ → Say → Bool
is_progress t request it = is_said is_progress_message t request it

-- ---- the trace

abbrev pub asked : Bool → List Letter
asked true = Asked ∷ []
asked false = []

-- what is said is a final reply, or a progressive result
abbrev pub told : Bool → Bool → List Letter
told true progress = Answered ∷ []
told false true = Progressed ∷ []
told false false = []

-- what an input brings: whether it asks, then a letter for each reply, in order
abbrev pub letters : Transport → ℕ → Input Act → List Say → List Letter
letters t request input said =
    asked (asks t request input) ++ flat_map (λ it. told (is_final t request it) (is_progress t request it)) said

abbrev pub trace : Config → Transport → ℕ → Content → List (Input Act) → List Letter
trace config t request c [] = []
trace config t request c (input ∷ inputs) =
    letters t request input (said_at config c input) ++ trace config t request (after_input config c input) inputs

-- a progressive result or a final reply comes first
abbrev pub begins_with_reply : List Letter → Bool
begins_with_reply [] = false
begins_with_reply (Asked ∷ letters) = false
begins_with_reply (Progressed ∷ letters) = true
begins_with_reply (Answered ∷ letters) = true

-- one comes right after a final reply
abbrev pub replies_after_answer : List Letter → Bool
replies_after_answer [] = false
replies_after_answer (Asked ∷ letters) = replies_after_answer letters
replies_after_answer (Progressed ∷ letters) = replies_after_answer letters
replies_after_answer (Answered ∷ letters) = begins_with_reply letters || replies_after_answer letters
