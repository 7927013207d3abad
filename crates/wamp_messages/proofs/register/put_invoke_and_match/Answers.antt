use Rattle.wamp_values.proofs.Texts.{appended, appended_one}
use Rattle.wamp_messages.proofs.register.put_invoke_and_match.Goals as goal

pub returns : goal.returns
returns c =
    let invoke = appended c.in_ok-open.ensures (appended_one c.in_ok-string.ensures) in
    let matching = appended (appended_one c.in_ok-key.ensures) (appended_one c.in_ok-string-2.ensures) in
    appended (appended invoke matching) (appended_one c.end_object.ensures)
