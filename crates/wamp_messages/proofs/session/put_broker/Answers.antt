use Rattle.wamp_values.proofs.Texts.{appended}
use Rattle.wamp_messages.proofs.session.put_broker.Goals as goal

pub returns : goal.returns
returns c =
    let features = appended c.in_ok-put_feature.ensures c.in_ok-put_feature-2.ensures in
    appended (appended c.in_ok-open_role.ensures features) c.close_two.ensures
