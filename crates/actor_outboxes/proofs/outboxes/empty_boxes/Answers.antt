use Rattle.std.proofs.Common.{◌≡◌, ◌+◌, ◌++◌, ◌∷◌, [], suc, ap, ◌∙◌, refl, arith}
use Rattle.actor_outboxes.specs.Outboxes.{empty_boxes}
use Rattle.actor_outboxes.proofs.outboxes.empty_boxes.Goals as goal

pub loop-number-preserved : goal.loop-number-preserved
loop-number-preserved g c =
    let plus : c.loop-number.number + 1 ≡ suc c.loop-number.number = omega arith in
    (rw (plus, c.in_ok-push.ensures.items, c.loop-number.invariant.0, c.in_ok-empty.ensures, c.limit.ensures) refl, omega (arith, c.loop-number-test.true))

pub returns : goal.returns
returns g c =
    let e : c.loop-number.number ≡ suc c.args.members =
    omega (arith, c.loop-number-test.false, c.loop-number.invariant.1, c.count-number-end.ensures.value) in
    c.loop-number.invariant.0 ∙ ap (empty_boxes c.args.me) e
