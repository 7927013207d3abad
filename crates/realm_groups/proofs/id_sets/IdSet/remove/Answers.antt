use Rattle.realm_groups.proofs.id_sets.IdSet.remove.Goals as goal

pub returns-clause-ids : goal.returns-clause-ids
returns-clause-ids c = λ q. rw (← c.self.view_is) (c.remove.ensures.updates.0 q)
