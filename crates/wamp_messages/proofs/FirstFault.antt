-- For octets that are no message the first of their faults is reported.
use Rattle.std.proofs.Common.{◌≡◌, ◌∙◌, ℕ, ◌==◌, Bool, true, false, List, [], Option, Some, None, codes, refl}
use Rattle.std.specs.Prelude.{Result, Ok, Err, find, if◌then◌else◌}
use Rattle.serde_json.specs.Data.{unsigned, Data, number, array, Items, item}
use Rattle.wamp_values.specs.declared.args.Args.{Args}
use Rattle.wamp_message_types.specs.Codes as code
use Rattle.wamp_message_types.specs.declared.fault.MessageFault.{MessageFault}
use Rattle.wamp_message_types.specs.declared.fault.MessageFault.TheVariants.{Kind}
use Rattle.wamp_message_layouts.specs.declared.refusal.Refusal.{Refusal}
use Rattle.wamp_message_types.specs.declared.request_kind.RequestKind.{RequestKind}
use Rattle.wamp_message_layouts.specs.Layouts.{Layout, taken, first_fault, text_dictionary, named_of, id_dictionary, numbered_of}
use Rattle.wamp_message_layouts.specs.Layouts.{dictionary_text, dictionary_text_args, reason_of, refusal, refusal_of, Asked, asked_of}
use Rattle.wamp_message_layouts.specs.Layouts.{id_dictionary_text, id_dictionary_text_args, two_ids, two_ids_of, two_ids_keys_args, keyed_of}
use Rattle.wamp_message_layouts.specs.Layouts.{one_id, one_id_of, id_keys_args, Answer, answer_of, id_mode, stopped_of, Numbered}
use Rattle.wamp_message_layouts.specs.Keys.{are_typed, flag_at}
use Rattle.wamp_message_layouts.specs.declared.keys.Key.TheVariants.{DiscloseMe, ReceiveProgress, Progress}
use Rattle.wamp_values.specs.Options.{flag_in, match_in, invoke_in, mode_in}
use Rattle.wamp_message_layouts.proofs.FirstFault.{fault_in, taken_first}
use Rattle.wamp_ids.specs.declared.policy.Match.{Match}
use Rattle.wamp_ids.specs.declared.policy.Invoke.{Invoke}
use Rattle.wamp_ids.specs.declared.policy.Mode.{Mode}
use Rattle.wamp_message_types.specs.declared.read_result.Read.{Read}
use Rattle.wamp_messages.specs.ReadResult.{read_as}
use Rattle.wamp_messages.specs.Session.{hello_read, welcome_read, abort_read, goodbye_read}
use Rattle.wamp_messages.specs.Error.{error_with, error_read}
use Rattle.wamp_messages.specs.Publish.{publish_with, publish_read, published_read, event_keys, event_read}
use Rattle.wamp_messages.specs.Subscribe.{subscribe_with, subscribe_read, subscribed_read, unsubscribe_read, unsubscribed_read}
use Rattle.wamp_messages.specs.Register.{register_with, register_read, registered_read, unregister_read, unregistered_read}
use Rattle.wamp_messages.specs.Call.{call_keys, call_with, call_read, cancel_with, cancel_read, progress_keys, call_result_read}
use Rattle.wamp_messages.specs.Call.{invocation_keys, invocation_read, interrupt_read, yield_with, yield_read}
use Rattle.wamp_messages.specs.Layouts.{layout_of}
use Rattle.wamp_messages.specs.Reading.{by_code, json_of, json_read_as}
use Rattle.wamp_messages.specs.Faults.{faults, has_fault_in, fault_of}
use Rattle.wamp_messages.specs.Laws.{FirstFaultIsTold}

-- the first fault of what follows a code
abbrev first_of : Option Layout → Items → Option MessageFault
first_of None ds = Some Kind
first_of (Some layout) ds = first_fault layout ds

read_fault : {T : Type 0} (f : T → Read) → ((x : T) → fault_of (f x) ≡ None)
    → (r : Result T MessageFault) → fault_of (read_as f r) ≡ fault_in r
read_fault f never (Ok x) = never x
read_fault f never (Err fault) = refl

-- a kind of message whose parts are never bad
told : {T : Type 0} (f : T → Read) (layout : Layout) (parts : Items → Option Args → T) (ds : Items) → ((x : T) → fault_of (f x) ≡ None)
    → fault_of (read_as f (taken layout parts ds)) ≡ first_of (Some layout) ds
told f layout parts ds never = read_fault f never (taken layout parts ds) ∙ taken_first layout parts ds

-- ---- none is bad by itself

error_good : (kind : RequestKind) (request : ℕ) (error : List ℕ) (args : Option Args) → fault_of (error_with kind request error args) ≡ None
error_good kind request error None = refl
error_good kind request error (Some args) = refl

publish_good : (request : ℕ) (acknowledge exclude_me : Option Bool) (topic : List ℕ) (args : Option Args)
    → fault_of (publish_with request acknowledge exclude_me topic args) ≡ None
publish_good request None exclude_me topic args = refl
publish_good request (Some acknowledge) None topic args = refl
publish_good request (Some acknowledge) (Some exclude_me) topic None = refl
publish_good request (Some acknowledge) (Some exclude_me) topic (Some args) = refl

subscribe_good : (request : ℕ) (matching : Option Match) (topic : List ℕ) → fault_of (subscribe_with request matching topic) ≡ None
subscribe_good request None topic = refl
subscribe_good request (Some matching) topic = refl

register_good : (request : ℕ) (matching : Option Match) (invoke : Option Invoke) (procedure : List ℕ)
    → fault_of (register_with request matching invoke procedure) ≡ None
register_good request None invoke procedure = refl
register_good request (Some matching) None procedure = refl
register_good request (Some matching) (Some invoke) procedure = refl

call_good : (request : ℕ) (typed disclose_me receive_progress : Bool) (procedure : List ℕ) (args : Option Args)
    → fault_of (call_with request typed disclose_me receive_progress procedure args) ≡ None
call_good request true disclose_me receive_progress procedure None = refl
call_good request true disclose_me receive_progress procedure (Some args) = refl
call_good request false disclose_me receive_progress procedure args = refl

cancel_good : (request : ℕ) (mode : Option Mode) → fault_of (cancel_with request mode) ≡ None
cancel_good request None = refl
cancel_good request (Some mode) = refl

yield_good : (request : ℕ) (typed progress : Bool) (args : Option Args) → fault_of (yield_with request typed progress args) ≡ None
yield_good request true progress None = refl
yield_good request true progress (Some args) = refl
yield_good request false progress args = refl

-- ---- by the code

either : (b : Bool) (x y : Read) (layout : Layout) (others : Option Layout) (ds : Items) → fault_of x ≡ first_of (Some layout) ds
    → fault_of y ≡ first_of others ds → fault_of (if b then x else y) ≡ first_of (if b then Some layout else others) ds
either true x y layout others ds p q = p
either false x y layout others ds p q = q

by_code_told : (n : ℕ) (ds : Items) → fault_of (by_code n ds) ≡ first_of (layout_of n ds) ds
unfolding by_code
by_code_told n ds =
    either (n == code.hello) _ _ text_dictionary _ ds (told hello_read text_dictionary named_of ds (λ x. refl))
    (either (n == code.welcome) _ _ id_dictionary _ ds (told welcome_read id_dictionary numbered_of ds (λ x. refl))
    (either (n == code.abort) _ _ dictionary_text_args _ ds (told abort_read dictionary_text_args reason_of ds (λ x. refl))
    (either (n == code.goodbye) _ _ dictionary_text _ ds (told goodbye_read dictionary_text reason_of ds (λ x. refl))
    (either (n == code.error) _ _ (refusal ds) _ ds
    (told error_read (refusal ds) refusal_of ds (λ (x : Refusal). error_good x.kind x.request x.error x.args))
    (either (n == code.publish) _ _ id_dictionary_text_args _ ds
    (told publish_read id_dictionary_text_args asked_of ds
    (λ (x : Asked). publish_good x.request (flag_in (codes "acknowledge") false x.options) (flag_in (codes "exclude_me") true x.options) x.uri x.args))
    (either (n == code.published) _ _ two_ids _ ds (told published_read two_ids two_ids_of ds (λ x. refl))
    (either (n == code.subscribe) _ _ id_dictionary_text _ ds
    (told subscribe_read id_dictionary_text asked_of ds (λ (x : Asked). subscribe_good x.request (match_in x.options) x.uri))
    (either (n == code.subscribed) _ _ two_ids _ ds (told subscribed_read two_ids two_ids_of ds (λ x. refl))
    (either (n == code.event) _ _ (two_ids_keys_args event_keys) _ ds
    (told event_read (two_ids_keys_args event_keys) keyed_of ds (λ x. refl))
    (either (n == code.unsubscribe) _ _ two_ids _ ds (told unsubscribe_read two_ids two_ids_of ds (λ x. refl))
    (either (n == code.unsubscribed) _ _ one_id _ ds (told unsubscribed_read one_id one_id_of ds (λ x. refl))
    (either (n == code.register) _ _ id_dictionary_text _ ds (told register_read id_dictionary_text asked_of ds (λ (x : Asked). register_good x.request (match_in x.options) (invoke_in x.options) x.uri))
    (either (n == code.registered) _ _ two_ids _ ds (told registered_read two_ids two_ids_of ds (λ x. refl))
    (either (n == code.unregister) _ _ two_ids _ ds (told unregister_read two_ids two_ids_of ds (λ x. refl))
    (either (n == code.unregistered) _ _ one_id _ ds (told unregistered_read one_id one_id_of ds (λ x. refl))
    (either (n == code.call) _ _ id_dictionary_text_args _ ds
    (told call_read id_dictionary_text_args asked_of ds
    (λ (x : Asked). call_good x.request (are_typed call_keys x.options) (flag_at DiscloseMe x.options) (flag_at ReceiveProgress x.options) x.uri x.args))
    (either (n == code.cancel) _ _ id_dictionary _ ds (told cancel_read id_dictionary numbered_of ds (λ (x : Numbered). cancel_good x.id (mode_in x.details)))
    (either (n == code.result) _ _ (id_keys_args progress_keys false) _ ds
    (told call_result_read (id_keys_args progress_keys false) answer_of ds (λ x. refl))
    (either (n == code.invocation) _ _ (two_ids_keys_args invocation_keys) _ ds
    (told invocation_read (two_ids_keys_args invocation_keys) keyed_of ds (λ x. refl))
    (either (n == code.interrupt) _ _ id_mode _ ds (told interrupt_read id_mode stopped_of ds (λ x. refl))
    (either (n == code.yield) _ _ (id_keys_args [] true) _ ds
    (told yield_read (id_keys_args [] true) answer_of ds
    (λ (x : Answer). yield_good x.request (are_typed progress_keys x.details) (flag_at Progress x.details) x.args)) refl)))))))))))))))))))))

-- ---- and of the whole

-- the first of the faults of a layout is the first among all
layout_first : (n : ℕ) (ds : Items) (layout : Option Layout) → layout_of n ds ≡ layout
    → first_of layout ds ≡ find (λ fault. has_fault_in fault (Some (array (item (number (unsigned n)) ds)))) faults
layout_first n ds None e = rw e refl
layout_first n ds (Some layout) e = rw e refl

json_told : (json : Option Data) → fault_of (json_read_as json) ≡ find (λ fault. has_fault_in fault json) faults
json_told None = refl
json_told (Some (array (item (number (unsigned n)) ds))) = by_code_told n ds ∙ layout_first n ds (layout_of n ds) refl
json_told (Some d) = refl

pub first_fault_is_told : FirstFaultIsTold
first_fault_is_told octets = json_told (json_of octets)
