use Rattle.std.proofs.Common.{nat_cmp, length, ap, subst, ◌∙◌}
use Rattle.std.specs.List.Sorted.{IsStrictlySortedBy}
use Rattle.realm_groups.specs.IdSets.{ids_of}
use Rattle.realm_groups.proofs.Joining.{count_is}
use Rattle.realm_groups.proofs.groups.Groups.count.Goals as goal

pub returns : goal.returns
returns g c = rw (← c.self.view_is)
    (c.count.ensures.count ∙ ap (λ s. length (ids_of c.self.inside.by_session s)) c.get.ensures.value
    ∙ count_is g.G.Group.sessions_of c.self.inside.by_session c.self.inside.by_id.entries c.args.session c.self.invariant.kept.rising
    (subst (λ s. IsStrictlySortedBy nat_cmp (ids_of c.self.inside.by_session s)) c.get.ensures.value c.count.ensures.ordered)
    c.self.invariant.joined)
