use Rattle.std.proofs.Common.{sym, subst, refl}
use Rattle.node_actor.specs.Actor.{Acting, acting_since}
use Rattle.node_actor.specs.Views.{StandsFor}
use Rattle.node_actor.proofs.actor.Actor.stands.Goals as goal

pub returns : goal.returns
returns g c =
    let seated = c.self.invariant.1 in
    let here : StandsFor (acting_since c.self.inside.last c.self.inside.parts c.self.inside.seat) c.self.inside.seat =
    record { seat = refl; node = λ up. sym (seated.node up); rows = sym seated.same_rows; waits = seated.waits } in
    subst (λ (a : Acting g.row.M-Body.Denot g.row.M.Denot g.row.K.Denot). StandsFor a a.seat) c.self.view_is here
