use Rattle.std.proofs.Common.{is_some, ap, ◌∙◌}
use Rattle.realm_subscriptions.specs.Subscribers.{place_of}
use Rattle.realm_subscriptions.proofs.Joined.{member_is}
use Rattle.realm_subscriptions.proofs.later.Later.has.Goals as goal

pub returns : goal.returns
returns c = rw (← c.self.view_is)
    (c.is_some.ensures ∙ ap is_some (c.get-2.ensures ∙ ap (place_of c.self.inside.places) c.get.ensures.value)
    ∙ member_is c.self.inside.places c.self.inside.rows c.args.session c.self.invariant)
