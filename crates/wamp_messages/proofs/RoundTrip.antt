-- A message is read back from what is written of it.
use Rattle.std.proofs.Common.{◌≡◌, ◌∙◌, ℕ, Bool, true, false, List, Option, Some, sym, ap, refl}
use Rattle.std.specs.Str.{IsUtf8}
use Rattle.json.specs.Token.{Token}
use Rattle.json.specs.Print.{print}
use Rattle.serde_json.specs.Data.{Data, string, array, item}
use Rattle.serde_json.specs.Read.{read}
use Rattle.wamp_ids.specs.declared.policy.Match.{Match}
use Rattle.wamp_ids.specs.declared.policy.Match.TheVariants.{Exact, Prefix, Wildcard}
use Rattle.wamp_ids.specs.declared.policy.Invoke.{Invoke}
use Rattle.wamp_ids.specs.declared.policy.Invoke.TheVariants.{Single, First, Last, RoundRobin}
use Rattle.wamp_ids.specs.declared.policy.Mode.{Mode}
use Rattle.wamp_ids.specs.declared.policy.Mode.TheVariants.{Skip, Kill, KillNoWait}
use Rattle.wamp_values.specs.Args.{IsArgs, args_items}
use Rattle.wamp_values.specs.declared.args.Args.{Args}
use Rattle.wamp_values.specs.Tokens.{data_tokens}
use Rattle.wamp_values.proofs.Texts.{print_tokens}
use Rattle.wamp_values.proofs.ReadBack.{reads_back}
use Rattle.wamp_message_types.specs.declared.request_kind.RequestKind.{RequestKind}
use Rattle.wamp_message_types.specs.declared.request_kind.RequestKind.TheVariants as kind
use Rattle.wamp_message_types.specs.declared.message.Message.{Message}
use Rattle.wamp_message_types.specs.declared.message.Message.TheVariants.{Hello, Welcome, Abort, Goodbye, Error, Publish, Published}
use Rattle.wamp_message_types.specs.declared.message.Message.TheVariants.{Subscribe, Subscribed, Event, Unsubscribe, Unsubscribed}
use Rattle.wamp_message_types.specs.declared.message.Message.TheVariants.{Register, Registered, Unregister, Unregistered}
use Rattle.wamp_message_types.specs.declared.message.Message.TheVariants.{Call, Cancel, CallResult, Invocation, Interrupt, Yield}
use Rattle.wamp_message_types.specs.declared.read_result.Read.TheVariants.{Good}
use Rattle.wamp_messages.specs.Writing.{value_of, text_of}
use Rattle.wamp_messages.specs.Reading.{by_code, read_of, message_in}
use Rattle.wamp_messages.specs.Message.{IsId, HasParts, IsMessage}
use Rattle.wamp_messages.specs.Publish.{event_keys, event_told}
use Rattle.wamp_messages.specs.Call.{call_keys, call_told, progress_keys, progress_told, invocation_keys, invocation_told}
use Rattle.wamp_message_types.specs.Codes as code
use Rattle.wamp_message_layouts.specs.Elements.{is_dictionary}
use Rattle.wamp_message_layouts.specs.Keys.{are_typed, flag_at, id_at, text_at}
use Rattle.wamp_message_layouts.specs.Parts.{whole, dictionary_of, flag_told, id_told, text_told}
use Rattle.wamp_message_layouts.specs.declared.keys.Key.TheVariants.{Caller, DiscloseMe, Procedure, Progress, ReceiveProgress, Topic}
use Rattle.wamp_message_layouts.proofs.ArgsAgain.{args_again}
use Rattle.wamp_message_layouts.proofs.Told.{told_once, flag_again, id_again, text_again, flag_is_typed, id_is_typed, text_is_typed}
use Rattle.wamp_messages.proofs.Values.{value_is_plain, value_nests}
use Rattle.wamp_messages.proofs.Json.{json_read}

-- ---- the messages are read again

abbrev Again : Message → Type 0
Again m = HasParts m → message_in (value_of m) ≡ Good m

hello_again : (realm : List ℕ) (canceling : Bool) → Again (Hello (record { realm = realm; canceling = canceling }))
unfolding by_code
hello_again realm false h = refl
hello_again realm true h = refl

error_again : (k : RequestKind) (request : ℕ) (error : List ℕ) (args : Args)
    → Again (Error (record { kind = k; request = request; error = error; args = args }))
unfolding by_code
error_again kind.Publish request error args h = rw (args_again args h.1, h.0) refl
error_again kind.Subscribe request error args h = rw (args_again args h.1, h.0) refl
error_again kind.Unsubscribe request error args h = rw (args_again args h.1, h.0) refl
error_again kind.Call request error args h = rw (args_again args h.1, h.0) refl
error_again kind.Cancel request error args h = rw (args_again args h.1, h.0) refl
error_again kind.Register request error args h = rw (args_again args h.1, h.0) refl
error_again kind.Unregister request error args h = rw (args_again args h.1, h.0) refl
error_again kind.Invocation request error args h = rw (args_again args h.1, h.0) refl

publish_again : (request : ℕ) (acknowledge exclude_me : Bool) (topic : List ℕ) (args : Args)
    → Again (Publish (record { request = request; acknowledge = acknowledge; exclude_me = exclude_me; topic = topic; args = args }))
unfolding by_code
publish_again request false false topic args h = rw (args_again args h.1, h.0) refl
publish_again request false true topic args h = rw (args_again args h.1, h.0) refl
publish_again request true false topic args h = rw (args_again args h.1, h.0) refl
publish_again request true true topic args h = rw (args_again args h.1, h.0) refl

subscribe_again : (request : ℕ) (matching : Match) (topic : List ℕ)
    → Again (Subscribe (record { request = request; matching = matching; topic = topic }))
unfolding by_code
subscribe_again request Exact topic h = rw h refl
subscribe_again request Prefix topic h = rw h refl
subscribe_again request Wildcard topic h = rw h refl

-- with these details
event_with : (subscription publication : ℕ) (details : Data) (args : Args) → IsId subscription → IsId publication → IsArgs args
    → is_dictionary details ≡ true → are_typed event_keys details ≡ true
    → message_in (array
    (item (whole code.event) (item (whole subscription) (item (whole publication) (item details (args_items args))))))
    ≡ Good (Event (record { subscription = subscription; publication = publication; topic = text_at Topic details; args = args }))
unfolding by_code
event_with subscription publication details args s p a dictionary typed = rw (args_again args a, s, p, dictionary, typed) refl

event_again : (subscription publication : ℕ) (topic : Option (List ℕ)) (args : Args)
    → Again (Event (record { subscription = subscription; publication = publication; topic = topic; args = args }))
event_again subscription publication topic args h =
    let entries = event_told topic in
    let once = told_once (text_told topic) in
    event_with subscription publication (dictionary_of entries) args h.0 h.1.0 h.1.1 refl (rw (text_is_typed Topic entries topic refl once) refl)
    ∙ ap (λ label. Good (Event (record { subscription = subscription; publication = publication; topic = label; args = args })))
    (text_again Topic entries topic once)

-- with these options
call_by : (request : ℕ) (options : Data) (procedure : List ℕ) (args : Args) → IsId request → IsArgs args
    → is_dictionary options ≡ true → are_typed call_keys options ≡ true
    → message_in (array (item (whole code.call) (item (whole request) (item options (item (string procedure) (args_items args))))))
    ≡ Good (Call (record {
      request = request;
      disclose_me = flag_at DiscloseMe options;
      receive_progress = flag_at ReceiveProgress options;
      procedure = procedure;
      args = args;
    }))
unfolding by_code
call_by request options procedure args r a dictionary typed = rw (args_again args a, r, dictionary, typed) refl

call_again : (request : ℕ) (disclose_me receive_progress : Bool) (procedure : List ℕ) (args : Args)
    → Again (Call (record {
      request = request;
      disclose_me = disclose_me;
      receive_progress = receive_progress;
      procedure = procedure;
      args = args;
    }))
call_again request disclose_me receive_progress procedure args h =
    let entries = call_told disclose_me receive_progress in
    let first = told_once (flag_told disclose_me) in
    let second = told_once (flag_told receive_progress) in
    let disclosed = flag_again DiscloseMe entries disclose_me first in
    let progresses = flag_again ReceiveProgress entries receive_progress second in
    call_by request (dictionary_of entries) procedure args h.0 h.1 refl
    (rw (flag_is_typed DiscloseMe entries disclose_me refl first, flag_is_typed ReceiveProgress entries receive_progress refl second) refl)
    ∙ (λ i. Good (Call (record {
      request = request;
      disclose_me = disclosed i;
      receive_progress = progresses i;
      procedure = procedure;
      args = args;
    })))

call_result_with : (request : ℕ) (details : Data) (args : Args) → IsId request → IsArgs args
    → is_dictionary details ≡ true → are_typed progress_keys details ≡ true
    → message_in (array (item (whole code.result) (item (whole request) (item details (args_items args)))))
    ≡ Good (CallResult (record { request = request; progress = flag_at Progress details; args = args }))
unfolding by_code
call_result_with request details args r a dictionary typed = rw (args_again args a, r, dictionary, typed) refl

yield_by : (request : ℕ) (options : Data) (args : Args) → IsId request → IsArgs args
    → is_dictionary options ≡ true → are_typed progress_keys options ≡ true
    → message_in (array (item (whole code.yield) (item (whole request) (item options (args_items args)))))
    ≡ Good (Yield (record { request = request; progress = flag_at Progress options; args = args }))
unfolding by_code
yield_by request options args r a dictionary typed = rw (args_again args a, r, dictionary, typed) refl

progress_typed : (progress : Bool) → are_typed progress_keys (dictionary_of (progress_told progress)) ≡ true
progress_typed progress = rw (flag_is_typed Progress (progress_told progress) progress refl (told_once (flag_told progress))) refl

progress_again : (progress : Bool) → flag_at Progress (dictionary_of (progress_told progress)) ≡ progress
progress_again progress = flag_again Progress (progress_told progress) progress (told_once (flag_told progress))

call_result_again : (request : ℕ) (progress : Bool) (args : Args)
    → Again (CallResult (record { request = request; progress = progress; args = args }))
call_result_again request progress args h =
    call_result_with request (dictionary_of (progress_told progress)) args h.0 h.1 refl (progress_typed progress)
    ∙ ap (λ p. Good (CallResult (record { request = request; progress = p; args = args }))) (progress_again progress)

yield_again : (request : ℕ) (progress : Bool) (args : Args) → Again (Yield (record { request = request; progress = progress; args = args }))
yield_again request progress args h =
    yield_by request (dictionary_of (progress_told progress)) args h.0 h.1 refl (progress_typed progress)
    ∙ ap (λ p. Good (Yield (record { request = request; progress = p; args = args }))) (progress_again progress)

register_again : (request : ℕ) (matching : Match) (invoke : Invoke) (procedure : List ℕ)
    → Again (Register (record { request = request; matching = matching; invoke = invoke; procedure = procedure }))
unfolding by_code
register_again request Exact Single procedure h = rw h refl
register_again request Exact First procedure h = rw h refl
register_again request Exact Last procedure h = rw h refl
register_again request Exact RoundRobin procedure h = rw h refl
register_again request Prefix Single procedure h = rw h refl
register_again request Prefix First procedure h = rw h refl
register_again request Prefix Last procedure h = rw h refl
register_again request Prefix RoundRobin procedure h = rw h refl
register_again request Wildcard Single procedure h = rw h refl
register_again request Wildcard First procedure h = rw h refl
register_again request Wildcard Last procedure h = rw h refl
register_again request Wildcard RoundRobin procedure h = rw h refl

cancel_again : (request : ℕ) (mode : Mode) → Again (Cancel (record { request = request; mode = mode }))
unfolding by_code
cancel_again request Skip h = rw h refl
cancel_again request Kill h = rw h refl
cancel_again request KillNoWait h = rw h refl

interrupt_again : (request : ℕ) (mode : Mode) → Again (Interrupt (record { request = request; mode = mode }))
unfolding by_code
interrupt_again request Skip h = rw h refl
interrupt_again request Kill h = rw h refl
interrupt_again request KillNoWait h = rw h refl

invocation_with : (request registration : ℕ) (details : Data) (args : Args) → IsId request → IsId registration → IsArgs args
    → is_dictionary details ≡ true → are_typed invocation_keys details ≡ true
    → message_in (array
    (item (whole code.invocation) (item (whole request) (item (whole registration) (item details (args_items args))))))
    ≡ Good (Invocation (record {
      request = request;
      registration = registration;
      caller = id_at Caller details;
      procedure = text_at Procedure details;
      receive_progress = flag_at ReceiveProgress details;
      args = args;
    }))
unfolding by_code
invocation_with request registration details args q r a dictionary typed = rw (args_again args a, q, r, dictionary, typed) refl

invocation_again : (request registration : ℕ) (caller : Option ℕ) (procedure : Option (List ℕ)) (receive_progress : Bool) (args : Args)
    → Again (Invocation (record {
      request = request;
      registration = registration;
      caller = caller;
      procedure = procedure;
      receive_progress = receive_progress;
      args = args;
    }))
invocation_again request registration caller procedure receive_progress args h =
    let entries = invocation_told caller procedure receive_progress in
    let first = told_once (id_told caller) in
    let second = told_once (text_told procedure) in
    let third = told_once (flag_told receive_progress) in
    let called = id_again Caller entries caller h.1.1.0 first in
    let named = text_again Procedure entries procedure second in
    let progresses = flag_again ReceiveProgress entries receive_progress third in
    let caller_typed = id_is_typed Caller entries caller refl h.1.1.0 first in
    let procedure_typed = text_is_typed Procedure entries procedure refl second in
    let progress_typed = flag_is_typed ReceiveProgress entries receive_progress refl third in
    invocation_with request registration (dictionary_of entries) args h.0 h.1.0 h.1.1.1 refl
    (rw (caller_typed, procedure_typed, progress_typed) refl)
    ∙ (λ i. Good (Invocation (record {
      request = request;
      registration = registration;
      caller = called i;
      procedure = named i;
      receive_progress = progresses i;
      args = args;
    })))

message_again : (m : Message) → Again m
unfolding by_code
message_again (Hello hello) h = hello_again hello.realm hello.canceling h
message_again (Welcome welcome) h = rw h refl
message_again (Abort abort) h = rw (args_again abort.args h) refl
message_again (Goodbye goodbye) h = refl
message_again (Error error) h = error_again error.kind error.request error.error error.args h
message_again (Publish publish) h =
    publish_again publish.request publish.acknowledge publish.exclude_me publish.topic publish.args h
message_again (Published published) h = rw (h.0, h.1) refl
message_again (Subscribe subscribe) h = subscribe_again subscribe.request subscribe.matching subscribe.topic h
message_again (Subscribed subscribed) h = rw (h.0, h.1) refl
message_again (Event event) h = event_again event.subscription event.publication event.topic event.args h
message_again (Unsubscribe unsubscribe) h = rw (h.0, h.1) refl
message_again (Unsubscribed unsubscribed) h = rw h refl
message_again (Register register) h = register_again register.request register.matching register.invoke register.procedure h
message_again (Registered registered) h = rw (h.0, h.1) refl
message_again (Unregister unregister) h = rw (h.0, h.1) refl
message_again (Unregistered unregistered) h = rw h refl
message_again (Call call) h = call_again call.request call.disclose_me call.receive_progress call.procedure call.args h
message_again (Cancel cancel) h = cancel_again cancel.request cancel.mode h
message_again (CallResult reply) h = call_result_again reply.request reply.progress reply.args h
message_again (Invocation invocation) h =
    invocation_again invocation.request invocation.registration invocation.caller invocation.procedure invocation.receive_progress invocation.args h
message_again (Interrupt interrupt) h = interrupt_again interrupt.request interrupt.mode h
message_again (Yield yielded) h = yield_again yielded.request yielded.progress yielded.args h

-- ---- and the octets are read as the value

octets_again : (m : Message) → IsMessage m → read (text_of m) ≡ Some (value_of m)
octets_again m h = reads_back (value_of m) (value_is_plain m h.parts) (value_nests m h.parts)

pub read_again : (m : Message) → IsMessage m → read_of (text_of m) ≡ Good m
read_again m h =
    sym (json_read (text_of m) (value_of m) h.utf8 (octets_again m h)) ∙ message_again m h.parts

pub written_again : (m : Message) (ts : List Token)
    → ts ≡ data_tokens (value_of m) → HasParts m → IsUtf8 (print ts) → read_of (text_of m) ≡ Good m
written_again m ts e parts utf8 = read_again m (record { parts = parts; utf8 = rw (e, print_tokens (value_of m)) at utf8 })
