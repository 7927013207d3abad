use Rattle.std.proofs.Common.{◌∙◌, ap, sym, subst}
use Rattle.node_actor.specs.Actor.{Acting}
use Rattle.node_actor.specs.Views.{StandsFor}
use Rattle.node_actor.proofs.Leaving.{shown_front, shown_whole}
use Rattle.node_actor.proofs.actor.Actor.log.Goals as goal

pub returns-clause-whole : goal.returns-clause-whole
returns-clause-whole g c = λ view stands fresh.
    rw c.log.ensures (shown_whole _ _ _ c.self.inside.last c.self.inside.parts c.self.inside.seat view c.self.invariant.0
    (subst (λ (a : Acting g.row.M-Body.Denot g.row.M.Denot g.row.K.Denot). StandsFor a view) (sym c.self.view_is) stands)
    (ap (λ (a : Acting g.row.M-Body.Denot g.row.M.Denot g.row.K.Denot). a.spoiled) c.self.view_is ∙ fresh))

pub returns-clause-front : goal.returns-clause-front
returns-clause-front g c = λ view stands.
    rw c.log.ensures (shown_front _ _ _ c.self.inside.last c.self.inside.parts c.self.inside.seat view c.self.invariant.0
    (subst (λ (a : Acting g.row.M-Body.Denot g.row.M.Denot g.row.K.Denot). StandsFor a view) (sym c.self.view_is) stands))
