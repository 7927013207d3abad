use Rattle.wamp_values.proofs.Texts.{appended}
use Rattle.wamp_messages.proofs.session.put_callee.Goals as goal

pub returns : goal.returns
returns c =
    appended (appended c.in_ok-open_within.ensures c.in_ok-put_feature.ensures) c.close_two.ensures
