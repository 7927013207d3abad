use Rattle.wamp_values.proofs.Texts.{appended}
use Rattle.wamp_messages.proofs.session.put_dealer.Goals as goal

pub returns : goal.returns
returns c =
    let two_features = appended c.in_ok-put_feature.ensures c.in_ok-put_feature-2.ensures in
    let four_features = appended (appended two_features c.in_ok-put_feature-3.ensures) c.in_ok-put_feature-4.ensures in
    let features = appended four_features c.in_ok-put_feature-5.ensures in
    appended (appended c.in_ok-open_role.ensures features) c.close_two.ensures
