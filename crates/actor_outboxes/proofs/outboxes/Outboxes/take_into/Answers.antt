use Rattle.std.proofs.Common.{◌<◌, ◌∙◌, length, refl, arith}
use Rattle.actor_outboxes.proofs.Dues.{taken_more, one_longer}
use Rattle.actor_outboxes.proofs.outboxes.Outboxes.take_into.Goals as goal

pub loop-turn-init : goal.loop-turn-init
loop-turn-init g c = rw c.requires.empty (refl, refl, refl, omega arith)

pub returns-then-is_err-clause-taken : goal.returns-then-is_err-clause-taken
returns-then-is_err-clause-taken g c = rw c.reserve.ensures.items c.loop-turn.invariant.2

pub returns-in_default-clause-taken : goal.returns-in_default-clause-taken
returns-in_default-clause-taken g c = rw (c.in_default.ensures.none.0, c.reserve.ensures.items) c.loop-turn.invariant.2

pub loop-turn-preserved : goal.loop-turn-preserved
loop-turn-preserved g c =
    let was = c.loop-turn.invariant in
    let due = c.loop-turn.list.items in
    let few = was.3 in
    let turn = c.loop-turn-test.true in
    let fewer : length due < c.args.most = omega (arith, few, turn) in (
      c.in-Some.ensures.me ∙ was.0,
      c.in-Some.ensures.members ∙ was.1,
      rw (c.put_due.ensures, c.reserve.ensures.items) (taken_more c.args.peer c.args.most due c.in-Some.packet c.args.self.now c.loop-turn.self
          c.take_for.new.self was.0 was.1 c.limits.ensures fewer was.2 c.in-Some.ensures.some),
      rw (c.put_due.ensures, c.reserve.ensures.items) (one_longer c.loop-turn._turn due c.in-Some.packet few),
    )
