use Rattle.std.proofs.lemmas.Result.{IfOk-weaker}
use Rattle.realm_groups.proofs.groups.Groups.all.Goals as goal

pub returns-clause-found : goal.returns-clause-found
returns-clause-found g c = rw (← c.self.view_is)
    (IfOk-weaker c.matching_in.result _ _ (λ list h. h c.self.inside.last c.self.invariant.kept) c.matching_in.ensures.found)
