use Rattle.realm_groups.proofs.id_sets.IdSet.add.Goals as goal

pub returns-clause-ok : goal.returns-clause-ok
returns-clause-ok c = λ q. rw (← c.self.view_is) (c.in-Ok.ensures.updates.0 q)
