use Rattle.std.proofs.Common.{List, ap}
use Rattle.realm_subscriptions.specs.declared.subscription.Subscription.{Subscription}
use Rattle.realm_subscriptions.proofs.Grouped.{left_same}
use Rattle.realm_subscriptions.proofs.subscriptions.Subscriptions.leave_one.Goals as goal

pub returns : goal.returns
returns c = rw (c.leave.ensures, ← c.self.view_is)
    (ap (λ (list : List Subscription). record { limit = c.self.inside.limit; list = list; last = c.self.inside.groups.last })
    (left_same c.args.session c.args.id c.self.inside.groups.list (rw (← c.self.view_is) at c.requires)))
