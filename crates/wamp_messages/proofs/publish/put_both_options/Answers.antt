use Rattle.wamp_values.proofs.Texts.{appended, appended_one}
use Rattle.wamp_messages.proofs.publish.put_both_options.Goals as goal

pub returns : goal.returns
returns c =
    let acknowledge = appended c.in_ok-open.ensures (appended_one c.in_ok-boolean.ensures) in
    let exclude_me = appended (appended_one c.in_ok-key.ensures) (appended_one c.in_ok-boolean-2.ensures) in
    appended (appended acknowledge exclude_me) (appended_one c.end_object.ensures)
