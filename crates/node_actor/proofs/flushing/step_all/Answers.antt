use Rattle.std.proofs.Common.{◌≡◌, ◌≤◌, ◌+◌, ◌∷◌, List, arith, drop, length, refl, subst}
use Rattle.actor_parts.specs.declared.tried.Tried.{Tried}
use Rattle.node_actor.specs.Posts.{advanced_all}
use Rattle.node_actor.proofs.StepsLeft.{StepsLeft, first_log, first_may, rest_done, rest_from, steps_next}
use Rattle.node_actor.proofs.flushing.step_all.Goals as goal

pub loop-one-init : goal.loop-one-init
loop-one-init g c = record { owned = c.requires.owned; may = c.requires.may; counts = c.requires.counts; leads = refl }

pub advance_by-requires-clause-may : goal.advance_by-requires-clause-may
advance_by-requires-clause-may g c =
    let rest : List (Tried g.row.B.Denot) = drop (c.loop-one.one-index + 1) c.args.tried.now in
    let last = advanced_all g.B.Body.same c.args.tried.now c.args.seat.now in
    let cut : drop c.loop-one.one-index c.args.tried.now ≡ c.one-item.result ∷ rest =
    rest_from c.args.tried.now c.loop-one.one-index c.one-item.result c.loop-one-test.true c.one-item.is in
    first_may g.B.Body.same c.args.mail.now c.one-item.result rest c.loop-one.seat last
    (subst (λ ts. StepsLeft g.B.Body.same c.args.mail.now ts c.loop-one.seat last) cut c.loop-one.invariant)

pub advance_by-requires-clause-log : goal.advance_by-requires-clause-log
advance_by-requires-clause-log g c =
    let rest : List (Tried g.row.B.Denot) = drop (c.loop-one.one-index + 1) c.args.tried.now in
    let last = advanced_all g.B.Body.same c.args.tried.now c.args.seat.now in
    let cut : drop c.loop-one.one-index c.args.tried.now ≡ c.one-item.result ∷ rest =
    rest_from c.args.tried.now c.loop-one.one-index c.one-item.result c.loop-one-test.true c.one-item.is in
    first_log g.B.Body.same c.args.mail.now c.one-item.result rest c.loop-one.seat last
    (subst (λ ts. StepsLeft g.B.Body.same c.args.mail.now ts c.loop-one.seat last) cut c.loop-one.invariant)

pub loop-one-preserved : goal.loop-one-preserved
loop-one-preserved g c =
    let rest : List (Tried g.row.B.Denot) = drop (c.loop-one.one-index + 1) c.args.tried.now in
    let last = advanced_all g.B.Body.same c.args.tried.now c.args.seat.now in
    let cut : drop c.loop-one.one-index c.args.tried.now ≡ c.one-item.result ∷ rest =
    rest_from c.args.tried.now c.loop-one.one-index c.one-item.result c.loop-one-test.true c.one-item.is in
    steps_next g.B.Body.same c.args.mail.now c.one-item.result rest c.loop-one.seat last
    (subst (λ ts. StepsLeft g.B.Body.same c.args.mail.now ts c.loop-one.seat last) cut c.loop-one.invariant)
    c.advance_by.result c.advance_by.new.seat c.advance_by.ensures.exactly c.advance_by.ensures.moved

pub returns-clause-advanced : goal.returns-clause-advanced
returns-clause-advanced g c =
    let last = advanced_all g.B.Body.same c.args.tried.now c.args.seat.now in
    let over : length c.args.tried.now ≤ c.loop-one.one-index = (let end = c.loop-one-test.false in omega (arith, end)) in
    (subst (λ ts. StepsLeft g.B.Body.same c.args.mail.now ts c.loop-one.seat last)
    (rest_done c.args.tried.now c.loop-one.one-index over) c.loop-one.invariant).leads
