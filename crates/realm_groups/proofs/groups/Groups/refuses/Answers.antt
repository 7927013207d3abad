use Rattle.std.proofs.Common.{sym, ◌∙◌}
use Rattle.realm_groups.proofs.PutGroups.{late_refused, pattern_refused}
use Rattle.realm_groups.proofs.groups.Groups.refuses.Goals as goal

pub returns-then-not-is_next : goal.returns-then-not-is_next
returns-then-not-is_next g c =
    late_refused g.G.Group.id_of g.G.Group.pattern_of c.args.self.now c.args.group.now c.args.id c.requires
    (sym c.is_next.ensures ∙ c.if-not-is_next.true)

pub returns : goal.returns
returns g c =
    c.has_pattern.ensures
    ∙ pattern_refused g.G.Group.id_of g.G.Group.pattern_of c.args.self.now c.args.group.now c.args.id c.requires
    (sym c.is_next.ensures ∙ c.if-not-is_next.false)
