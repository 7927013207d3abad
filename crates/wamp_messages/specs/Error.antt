-- The message that refuses a request (WAMP specification, "ERROR"; docs/PROTOCOL.md, "Messages").
use Rattle.std.specs.Prelude.{ℕ, false, List, Option, Some, None}
use Rattle.serde_json.specs.Data.{Data, string, array, Items, item}
use Rattle.wamp_values.specs.Args.{args_items}
use Rattle.wamp_values.specs.declared.args.Args.{Args}
use Rattle.wamp_message_types.specs.Codes as code
use Rattle.wamp_message_layouts.specs.Parts.{whole, nothing}
use Rattle.wamp_message_types.specs.RequestKind.{code_of}
use Rattle.wamp_message_types.specs.declared.request_kind.RequestKind.{RequestKind}
use Rattle.wamp_message_layouts.specs.declared.refusal.Refusal.{Refusal}
use Rattle.wamp_message_layouts.specs.Layouts.{taken, refusal, refusal_of}
use Rattle.wamp_message_types.specs.declared.error.Error.{Error}
use Rattle.wamp_message_types.specs.declared.message.Message.TheVariants as message
use Rattle.wamp_message_types.specs.declared.read_result.UnfitKind.TheVariants as unfit
use Rattle.wamp_message_types.specs.declared.read_result.Read.{Read}
use Rattle.wamp_message_types.specs.declared.read_result.Read.TheVariants.{Good, Unfit}
use Rattle.wamp_messages.specs.ReadResult.{read_as}

-- ---- ERROR: Type, Request, Details, Error, Args

abbrev pub error_value : Error → Data
error_value error =
    array
    (item (whole code.error)
    (item (whole (code_of error.kind)) (item (whole error.request) (item nothing (item (string error.error) (args_items error.args))))))

-- without exactly kept arguments it is unfit: it answers an invocation
abbrev pub error_with : RequestKind → ℕ → List ℕ → Option Args → Read
error_with kind request error (Some args) = Good (message.Error (record { kind = kind; request = request; error = error; args = args }))
error_with kind request error None = Unfit unfit.Yield request false

abbrev pub error_read : Refusal → Read
error_read refused = error_with refused.kind refused.request refused.error refused.args

abbrev pub error_in : Items → Read
error_in ds = read_as error_read (taken (refusal ds) refusal_of ds)
