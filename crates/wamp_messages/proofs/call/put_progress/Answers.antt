use Rattle.serde_json.specs.Data.{no_members}
use Rattle.wamp_values.proofs.Texts.{appended, appended_one}
use Rattle.wamp_message_layouts.specs.Keys.{name_of}
use Rattle.wamp_message_layouts.specs.Parts.{flag_told}
use Rattle.wamp_message_layouts.specs.declared.keys.Key.TheVariants.{Progress}
use Rattle.wamp_message_layouts.proofs.Told.{told_then}
use Rattle.wamp_messages.proofs.call.put_progress.Goals as goal

pub returns : goal.returns
returns c =
    let ended = appended_one c.end_object.ensures in
    let first = told_then (name_of Progress) (flag_told c.args.progress) no_members c.in_ok-put_flag.ensures ended in
    appended (appended_one c.in_ok-begin_object.ensures) first
