-- Some events lead to it.
use Rattle.std.proofs.Common.{subst}
use Rattle.cluster_world.specs.StandsAt.{Held, ShowsAt}
use Rattle.cluster_world.proofs.world.World.leads.Goals as goal

pub returns-clause-leads : goal.returns-clause-leads
returns-clause-leads g c =
    let i = c.self.invariant.1 in (i.0, subst (λ (w : Held _ _ _). ShowsAt g.M.Body.Body.same w i.0) c.self.view_is i.1)
