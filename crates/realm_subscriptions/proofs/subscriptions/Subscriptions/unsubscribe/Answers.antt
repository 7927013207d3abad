use Rattle.std.proofs.Common.{ap, sym}
use Rattle.realm_subscriptions.specs.Subscription.{is_held}
use Rattle.realm_subscriptions.specs.Subscriptions.{with_list}
use Rattle.realm_subscriptions.specs.Leaving.{left}
use Rattle.realm_subscriptions.proofs.Grouped.{none_left}
use Rattle.realm_subscriptions.proofs.subscriptions.Subscriptions.unsubscribe.Goals as goal

pub returns-then-not-is_in-clause-subscriptions : goal.returns-then-not-is_in-clause-subscriptions
returns-then-not-is_in-clause-subscriptions c =
    ap (with_list c.args.self.now)
    (sym (none_left (is_held c.args.session c.args.id) (left c.args.session) c.args.self.now.list (sym c.if-not-is_in.ensures.there)))
