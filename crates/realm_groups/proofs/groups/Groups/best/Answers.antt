use Rattle.realm_groups.proofs.groups.Groups.best.Goals as goal

pub returns : goal.returns
returns g c = rw (← c.self.view_is) (c.best_in.ensures c.self.inside.last c.self.invariant.kept)
