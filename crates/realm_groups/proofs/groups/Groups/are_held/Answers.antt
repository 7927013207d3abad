use Rattle.realm_groups.proofs.Keeping.{all_held}
use Rattle.realm_groups.proofs.groups.Groups.are_held.Goals as goal

pub returns : goal.returns
returns g c = rw (← c.self.view_is) (all_held g.G.Group.id_of g.G.Group.pattern_of g.G.Group.sessions_of
    c.self.inside.by_id.entries c.self.inside.patterns c.self.inside.last c.self.invariant.kept)
