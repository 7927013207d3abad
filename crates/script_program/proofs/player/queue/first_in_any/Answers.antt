use Rattle.std.proofs.Common.{sym, ◌∙◌, arith}
use Rattle.script_program.specs.Queue.{least_of}
use Rattle.script_program.proofs.Firsts.{first_same, first_never, first_or}
use Rattle.script_program.proofs.Pairs.{due_none, due_more, due_all}
use Rattle.script_program.proofs.player.queue.first_in_any.Goals as goal

pub loop-pair-init : goal.loop-pair-init
loop-pair-init c = (sym (first_never _ (due_none c.args.members c.args.among) 0 c.args.sent.now), c.requires.queues)

pub loop-pair-preserved : goal.loop-pair-preserved
loop-pair-preserved c = (
  c.least_of-least.ensures ∙ (λ i. least_of (c.loop-pair.invariant.0 i) (c.first_of_pair.ensures.value i)) ∙ sym (first_or _ _ 0 c.args.sent.now)
      ∙ sym (first_same _ _ (due_more c.args.members c.args.among c.loop-pair.pair) 0 c.args.sent.now),
  c.first_of_pair.ensures.queues,
)

pub returns-clause-value : goal.returns-clause-value
returns-clause-value c = c.loop-pair.invariant.0 ∙ first_same _ _ (due_all c.args.members c.args.among (omega (arith, c.count.ensures.value, c.count.ensures.most)) c.loop-pair.pair
    (omega (arith, c.loop-pair-test.false, c.from.ensures, c.count.ensures.value))) 0 c.args.sent.now
