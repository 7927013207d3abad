use Rattle.std.proofs.Common.{[], ◌∷◌}
use Rattle.serde_json.specs.Data.{no_members}
use Rattle.wamp_values.proofs.Texts.{appended, appended_one}
use Rattle.wamp_message_layouts.specs.Keys.{name_of}
use Rattle.wamp_message_layouts.specs.Parts.{flag_told, told}
use Rattle.wamp_message_layouts.specs.declared.keys.Key.TheVariants.{DiscloseMe, ReceiveProgress}
use Rattle.wamp_message_layouts.proofs.Told.{told_then}
use Rattle.wamp_messages.proofs.call.put_call_options.Goals as goal

pub returns : goal.returns
returns c =
    let ended = appended_one c.end_object.ensures in
    let second = told_then (name_of ReceiveProgress) (flag_told c.args.receive_progress) no_members c.in_ok-put_flag-2.ensures ended in
    let first = told_then (name_of DiscloseMe) (flag_told c.args.disclose_me) (told ((ReceiveProgress, flag_told c.args.receive_progress) ∷ []))
    c.in_ok-put_flag.ensures second in
    appended (appended_one c.in_ok-begin_object.ensures) first
