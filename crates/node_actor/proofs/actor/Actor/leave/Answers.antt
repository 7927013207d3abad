use Rattle.std.proofs.Common.{◌∙◌, ap, sym, subst}
use Rattle.paxos_packets.specs.Snapshot.{floor_in}
use Rattle.replica_machine.specs.Log.{LogState}
use Rattle.node_actor.specs.Actor.{Acting, acting_since}
use Rattle.node_actor.specs.Views.{StandsFor}
use Rattle.node_actor.proofs.actor.Actor.leave.Goals as goal

pub returns-clause-floor : goal.returns-clause-floor
returns-clause-floor g c = λ view stands fresh.
    let here : StandsFor (acting_since c.self.inside.last c.self.inside.parts c.self.inside.seat) view =
    subst (λ (a : Acting g.row.M-Body.Denot g.row.M.Denot g.row.K.Denot). StandsFor a view) (sym c.self.view_is) stands in
    ap (λ (l : LogState g.row.M-Body.Denot g.row.M.Denot). l.floor) c.leave.ensures
    ∙ (c.self.invariant.0.serves (ap (λ (a : Acting g.row.M-Body.Denot g.row.M.Denot g.row.K.Denot). a.spoiled) c.self.view_is ∙ fresh)).floor
    ∙ ap (λ x. floor_in x.snapshot) here.rows

pub returns-clause-log : goal.returns-clause-log
returns-clause-log g c = λ view stands fresh.
    let here : StandsFor (acting_since c.self.inside.last c.self.inside.parts c.self.inside.seat) view =
    subst (λ (a : Acting g.row.M-Body.Denot g.row.M.Denot g.row.K.Denot). StandsFor a view) (sym c.self.view_is) stands in
    let serving =
    c.self.invariant.0.serves (ap (λ (a : Acting g.row.M-Body.Denot g.row.M.Denot g.row.K.Denot). a.spoiled) c.self.view_is ∙ fresh) in
    ap (λ (l : LogState g.row.M-Body.Denot g.row.M.Denot). l.applied) c.leave.ensures ∙ serving.followed
    ∙ ap (λ x. x.applied) (here.node serving.up)
