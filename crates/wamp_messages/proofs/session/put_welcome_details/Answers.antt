use Rattle.wamp_values.proofs.Texts.{appended}
use Rattle.wamp_messages.proofs.session.put_welcome_details.Goals as goal

pub returns : goal.returns
returns c =
    appended (appended (appended c.in_ok-open_within.ensures c.in_ok-put_broker.ensures) c.in_ok-put_dealer.ensures) c.close_two.ensures
