use Rattle.wamp_values.proofs.Texts.{appended}
use Rattle.wamp_messages.proofs.session.put_canceling.Goals as goal

pub returns : goal.returns
returns c =
    appended (appended (appended c.in_ok-open.ensures c.in_ok-open-2.ensures) c.in_ok-put_callee.ensures) c.close_two.ensures
