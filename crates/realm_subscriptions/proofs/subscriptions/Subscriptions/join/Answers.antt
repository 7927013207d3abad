use Rattle.std.proofs.Common.{List, Some, ap}
use Rattle.realm_subscriptions.specs.declared.subscription.Subscription.{Subscription}
use Rattle.realm_subscriptions.specs.Subscription.{is_on, with_member}
use Rattle.realm_subscriptions.proofs.Grouped.{same_change}
use Rattle.realm_subscriptions.proofs.subscriptions.Subscriptions.join.Goals as goal

pub returns-clause-ok : goal.returns-clause-ok
returns-clause-ok c = rw (c.in_ok-join.ensures.ok, ← c.self.view_is)
    (ap (λ (list : List Subscription). record { limit = c.self.inside.limit; list = list; last = c.self.inside.groups.last })
    (same_change (is_on c.args.pattern.now) (λ subscription. Some (with_member c.args.session subscription)) c.self.inside.groups.list))
