-- The messages of calls (WAMP specification, "Remote Procedure Calls", "Call Canceling", "Progressive Call Results" and "Caller
-- Identification"; the keys and their defaults: docs/PROTOCOL.md, "Messages").
use Rattle.std.specs.Prelude.{ℕ, Bool, true, false, List, [], ◌∷◌, Option, Some, None, codes, unwrap_or}
use Rattle.serde_json.specs.Data.{Data, string, array, Items, no_items, item}
use Rattle.wamp_ids.specs.declared.policy.Mode.{Mode}
use Rattle.wamp_ids.specs.declared.policy.Mode.TheVariants.{Skip, Kill, KillNoWait}
use Rattle.wamp_values.specs.Args.{args_items}
use Rattle.wamp_values.specs.declared.args.Args.{Args}
use Rattle.wamp_values.specs.declared.args.Args.TheVariants.{Nothing}
use Rattle.wamp_message_types.specs.Codes as code
use Rattle.wamp_message_layouts.specs.Keys.{are_typed, flag_at, id_at, text_at}
use Rattle.wamp_message_layouts.specs.Parts.{whole, only, nothing, dictionary_of, flag_told, id_told, text_told}
use Rattle.wamp_values.specs.Options.{mode_in}
use Rattle.wamp_message_layouts.specs.declared.keys.Key.{Key}
use Rattle.wamp_message_layouts.specs.declared.keys.Key.TheVariants.{Caller, DiscloseMe, Procedure, Progress, ReceiveProgress}
use Rattle.wamp_message_layouts.specs.declared.layouts.Stopped.{Stopped}
use Rattle.wamp_message_layouts.specs.Layouts.{taken, id_dictionary_text_args, Asked, asked_of, id_dictionary, Numbered, numbered_of}
use Rattle.wamp_message_layouts.specs.Layouts.{id_keys_args, Answer, answer_of, two_ids_keys_args, Keyed, keyed_of, id_mode, stopped_of}
use Rattle.wamp_message_types.specs.declared.call.Call.{Call}
use Rattle.wamp_message_types.specs.declared.call.Cancel.{Cancel}
use Rattle.wamp_message_types.specs.declared.call.CallResult.{CallResult}
use Rattle.wamp_message_types.specs.declared.call.Invocation.{Invocation}
use Rattle.wamp_message_types.specs.declared.call.Interrupt.{Interrupt}
use Rattle.wamp_message_types.specs.declared.call.Yield.{Yield}
use Rattle.wamp_message_types.specs.declared.message.Message.TheVariants as message
use Rattle.wamp_message_types.specs.declared.read_result.UnfitKind.TheVariants as unfit
use Rattle.wamp_message_types.specs.declared.read_result.Read.{Read}
use Rattle.wamp_message_types.specs.declared.read_result.Read.TheVariants.{Good, Unfit}
use Rattle.wamp_messages.specs.ReadResult.{read_as}

-- ---- CALL: Request, Options, Procedure, Args

-- the keys that are read; a value of another type at one is unfit
abbrev pub call_keys : List Key
call_keys = DiscloseMe ∷ ReceiveProgress ∷ []

abbrev pub call_told : Bool → Bool → List (Key × Option Data)
call_told disclose_me receive_progress = (DiscloseMe, flag_told disclose_me) ∷ (ReceiveProgress, flag_told receive_progress) ∷ []

abbrev pub call_value : Call → Data
call_value call =
    array
    (item (whole code.call)
    (item (whole call.request)
    (item (dictionary_of (call_told call.disclose_me call.receive_progress)) (item (string call.procedure) (args_items call.args)))))

-- given whether each key has its type
abbrev pub call_with : ℕ → Bool → Bool → Bool → List ℕ → Option Args → Read
call_with request true disclose_me receive_progress procedure (Some args) =
    Good (message.Call (record {
      request = request;
      disclose_me = disclose_me;
      receive_progress = receive_progress;
      procedure = procedure;
      args = args;
    }))
call_with request true disclose_me receive_progress procedure None = Unfit unfit.Call request false
call_with request false disclose_me receive_progress procedure args = Unfit unfit.Call request false

abbrev pub call_read : Asked → Read
call_read asked =
    call_with asked.request (are_typed call_keys asked.options) (flag_at DiscloseMe asked.options)
    (flag_at ReceiveProgress asked.options) asked.uri asked.args

abbrev pub call_in : Items → Read
call_in ds = read_as call_read (taken id_dictionary_text_args asked_of ds)

-- ---- CANCEL: Request, Options

abbrev pub mode_name : Mode → List ℕ
mode_name Skip = codes "skip"
mode_name Kill = codes "kill"
mode_name KillNoWait = codes "killnowait"

-- the options that name a mode
abbrev pub mode_options : Mode → Data
mode_options mode = only (codes "mode") (string (mode_name mode))

-- options hold exactly the keys whose values differ from their defaults
abbrev pub cancel_options : Mode → Data
cancel_options Skip = mode_options Skip
cancel_options Kill = mode_options Kill
cancel_options KillNoWait = nothing

abbrev pub cancel_value : Cancel → Data
cancel_value cancel = array (item (whole code.cancel) (item (whole cancel.request) (item (cancel_options cancel.mode) no_items)))

abbrev pub cancel_with : ℕ → Option Mode → Read
cancel_with request (Some mode) = Good (message.Cancel (record { request = request; mode = mode }))
cancel_with request None = Unfit unfit.Cancel request false

abbrev pub cancel_read : Numbered → Read
cancel_read numbered = cancel_with numbered.id (mode_in numbered.details)

abbrev pub cancel_in : Items → Read
cancel_in ds = read_as cancel_read (taken id_dictionary numbered_of ds)

-- ---- RESULT: Request, Details, Args

-- the keys of RESULT, and of YIELD
abbrev pub progress_keys : List Key
progress_keys = Progress ∷ []

abbrev pub progress_told : Bool → List (Key × Option Data)
progress_told progress = (Progress, flag_told progress) ∷ []

abbrev pub call_result_value : CallResult → Data
call_result_value reply =
    array
    (item (whole code.result) (item (whole reply.request) (item (dictionary_of (progress_told reply.progress)) (args_items reply.args))))

abbrev pub call_result_read : Answer → Read
call_result_read answer =
    Good (message.CallResult (record {
      request = answer.request;
      progress = flag_at Progress answer.details;
      args = unwrap_or answer.args Nothing;
    }))

abbrev pub call_result_in : Items → Read
call_result_in ds = read_as call_result_read (taken (id_keys_args progress_keys false) answer_of ds)

-- ---- INVOCATION: Request, Registration, Details, Args

abbrev pub invocation_keys : List Key
invocation_keys = Caller ∷ Procedure ∷ ReceiveProgress ∷ []

abbrev pub invocation_told : Option ℕ → Option (List ℕ) → Bool → List (Key × Option Data)
invocation_told caller procedure receive_progress =
    (Caller, id_told caller) ∷ (Procedure, text_told procedure) ∷ (ReceiveProgress, flag_told receive_progress) ∷ []

abbrev pub invocation_value : Invocation → Data
invocation_value invocation =
    array
    (item (whole code.invocation)
    (item (whole invocation.request)
    (item (whole invocation.registration)
    (item (dictionary_of (invocation_told invocation.caller invocation.procedure invocation.receive_progress))
    (args_items invocation.args)))))

abbrev pub invocation_read : Keyed → Read
invocation_read keyed =
    Good (message.Invocation (record {
      request = keyed.first;
      registration = keyed.second;
      caller = id_at Caller keyed.details;
      procedure = text_at Procedure keyed.details;
      receive_progress = flag_at ReceiveProgress keyed.details;
      args = keyed.args;
    }))

abbrev pub invocation_in : Items → Read
invocation_in ds = read_as invocation_read (taken (two_ids_keys_args invocation_keys) keyed_of ds)

-- ---- INTERRUPT: Request, Options, whose mode is always written

abbrev pub interrupt_value : Interrupt → Data
interrupt_value interrupt =
    array (item (whole code.interrupt) (item (whole interrupt.request) (item (mode_options interrupt.mode) no_items)))

abbrev pub interrupt_read : Stopped → Read
interrupt_read stopped = Good (message.Interrupt (record { request = stopped.request; mode = stopped.mode }))

abbrev pub interrupt_in : Items → Read
interrupt_in ds = read_as interrupt_read (taken id_mode stopped_of ds)

-- ---- YIELD: Request, Options, Args

abbrev pub yield_value : Yield → Data
yield_value yielded =
    array
    (item (whole code.yield)
    (item (whole yielded.request) (item (dictionary_of (progress_told yielded.progress)) (args_items yielded.args))))

-- given whether each key has its type
abbrev pub yield_with : ℕ → Bool → Bool → Option Args → Read
yield_with request true progress (Some args) = Good (message.Yield (record { request = request; progress = progress; args = args }))
yield_with request true progress None = Unfit unfit.Yield request false
yield_with request false progress args = Unfit unfit.Yield request false

abbrev pub yield_read : Answer → Read
yield_read answer =
    yield_with answer.request (are_typed progress_keys answer.details) (flag_at Progress answer.details) answer.args

-- a value of another type at its key is no fault of the layout: it is unfit
abbrev pub yield_in : Items → Read
yield_in ds = read_as yield_read (taken (id_keys_args [] true) answer_of ds)
