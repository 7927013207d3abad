use Rattle.std.proofs.Common.{subst, sym}
use Rattle.node_actor.specs.Actor.{Acting}
use Rattle.node_actor.specs.Views.{StandsFor}
use Rattle.node_actor.proofs.Leaving.{left_of, left_is}
use Rattle.node_actor.proofs.actor.Actor.crash.Goals as goal

pub returns-clause-left : goal.returns-clause-left
returns-clause-left g c = λ view stands.
    rw (c.of.ensures, c.me-me.ensures, c.members-members.ensures, c.leave_rows-rows.ensures.rows, c.leave_rows-rows.ensures.failed)
    (left_of _ _ _ c.self.inside.last c.self.inside.parts c.self.inside.seat view c.self.invariant.0 c.self.invariant.1
    (subst (λ (a : Acting g.row.M-Body.Denot g.row.M.Denot g.row.K.Denot). StandsFor a view) (sym c.self.view_is) stands))

pub of-requires : goal.of-requires
of-requires g c =
    rw (c.me-me.ensures, c.members-members.ensures, c.leave_rows-rows.ensures.rows, c.leave_rows-rows.ensures.failed)
    (left_is g.M.Body.Body.same _ _ c.self.inside.parts c.self.inside.seat c.self.invariant.0 c.self.invariant.1)
