use Rattle.std.proofs.Common.{◌≡◌, ◌<◌, true, ap, refl, arith, rules, lt-ltb}
use Rattle.std.proofs.lemmas.Bool.{and_from, eq-eqb}
use Rattle.node_actor.specs.Actor.{Acting, acting}
use Rattle.node_actor.specs.Calls.{take_event}
use Rattle.node_actor.proofs.Since.{rests_since}
use Rattle.node_actor.proofs.Viewing.{acts_passed, take_some}
use Rattle.node_actor.proofs.actor.Actor.take.Goals as goal

pub returns-then-number-eq0-clause-acts : goal.returns-then-number-eq0-clause-acts
returns-then-number-eq0-clause-acts g c =
    acts_passed _ _ _ _ _ _ _ (λ me members. take_event me c.args.number c.args.body) c.self.inside.last c.self.inside.parts c.self.inside.seat
    c.args.self.now
    c.pass.result
    (rw c.if-number-eq0.true refl) c.self.view_is c.pass.ensures.acts

pub returns-then-number-eq0-clause-rests : goal.returns-then-number-eq0-clause-rests
returns-then-number-eq0-clause-rests g c = λ zero.
    rests_since (acting c.self.inside.parts c.self.inside.seat) c.args.self.now c.pass.result
    (ap (λ (a : Acting g.row.M-Body.Denot g.row.M.Denot g.row.K.Denot). a.spoiled) c.self.view_is) c.pass.ensures.rests

pub event-requires-clause-own : goal.event-requires-clause-own
event-requires-clause-own g c =
    let nonzero : c.args.number ≡ 0 → ⊥ = search rules in
    let some : 0 < c.args.number = omega (arith, nonzero) in
    and_from _ _ (eq-eqb _ _ c.me.ensures) (lt-ltb _ _ some)

pub returns-clause-acts : goal.returns-clause-acts
returns-clause-acts g c =
    let nonzero : c.args.number ≡ 0 → ⊥ = search rules in
    rw (take_some c.args.self.now.node.me c.args.self.now.node.me c.args.number c.args.body nonzero refl)
    (rw c.me.ensures at c.event.ensures.acts)
