use Rattle.std.proofs.Common.{sym, ◌∙◌}
use Rattle.realm_groups.proofs.Keeping.{found_pattern, none_pattern}
use Rattle.realm_groups.proofs.groups.Groups.at.Goals as goal

pub returns-in_default : goal.returns-in_default
returns-in_default g c = rw (← c.self.view_is) (sym (none_pattern g.G.Group.id_of g.G.Group.pattern_of g.G.Group.sessions_of
    c.self.inside.by_id.entries c.self.inside.patterns
    c.self.inside.last c.self.invariant.kept c.args.pattern.now (sym c.in_default.ensures.value)))

pub returns : goal.returns
returns g c = rw (← c.self.view_is)
    (c.get-2.ensures.value ∙ sym (found_pattern g.G.Group.id_of g.G.Group.pattern_of g.G.Group.sessions_of
    c.self.inside.by_id.entries c.self.inside.patterns
    c.self.inside.last c.self.invariant.kept c.args.pattern.now c.in-Some.id.now (sym c.in-Some.ensures.value)))
