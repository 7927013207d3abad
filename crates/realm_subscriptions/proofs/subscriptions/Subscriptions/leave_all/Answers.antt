use Rattle.std.proofs.Common.{List, ap}
use Rattle.realm_subscriptions.specs.declared.subscription.Subscription.{Subscription}
use Rattle.realm_subscriptions.proofs.Grouped.{each_same}
use Rattle.realm_subscriptions.proofs.subscriptions.Subscriptions.leave_all.Goals as goal

pub returns : goal.returns
returns c = rw (c.leave_all.ensures, ← c.self.view_is)
    (ap (λ (list : List Subscription). record { limit = c.self.inside.limit; list = list; last = c.self.inside.groups.last })
    (each_same c.args.session c.self.inside.groups.list c.are_held.ensures))
