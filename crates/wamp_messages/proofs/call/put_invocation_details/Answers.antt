use Rattle.std.proofs.Common.{[], ◌∷◌}
use Rattle.serde_json.specs.Data.{no_members}
use Rattle.wamp_values.proofs.Texts.{appended, appended_one}
use Rattle.wamp_message_layouts.specs.Keys.{name_of}
use Rattle.wamp_message_layouts.specs.Parts.{flag_told, id_told, text_told, told}
use Rattle.wamp_message_layouts.specs.declared.keys.Key.TheVariants.{Caller, Procedure, ReceiveProgress}
use Rattle.wamp_message_layouts.proofs.Told.{told_then}
use Rattle.wamp_messages.proofs.call.put_invocation_details.Goals as goal

pub returns-clause-tokens : goal.returns-clause-tokens
returns-clause-tokens c =
    let progress = flag_told c.args.receive_progress in
    let procedure = text_told c.args.procedure.now in
    let ended = appended_one c.end_object.ensures in
    let third = told_then (name_of ReceiveProgress) progress no_members c.in_ok-put_flag.ensures ended in
    let second = told_then (name_of Procedure) procedure (told ((ReceiveProgress, progress) ∷ [])) c.in_ok-put_text.ensures third in
    let first = told_then (name_of Caller) (id_told c.args.caller) (told ((Procedure, procedure) ∷ (ReceiveProgress, progress) ∷ []))
    c.in_ok-put_id.ensures.tokens second in
    appended (appended_one c.in_ok-begin_object.ensures) first
