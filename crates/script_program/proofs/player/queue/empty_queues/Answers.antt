use Rattle.std.proofs.Common.{arith, refl}
use Rattle.script_program.proofs.Queues.{nothing_queued, none_yet, one_empty_more}
use Rattle.script_program.proofs.player.queue.empty_queues.Goals as goal

pub returns : goal.returns
returns c = nothing_queued c.loop-pair.queues.items (omega (arith, c.loop-pair.invariant.0, c.loop-pair-test.false, c.loop-pair.auto._pair-end)) c.loop-pair.invariant.1

pub loop-pair-init : goal.loop-pair-init
loop-pair-init c = none_yet c.in_ok-queues.queues.items c.in_ok-queues.ensures.items

pub loop-pair-preserved : goal.loop-pair-preserved
loop-pair-preserved c =
    one_empty_more c.loop-pair.queues.items c.push.new.self.items (record { places = c.new.result; passed = 0 }) c.loop-pair._pair c.in_ok-push.ensures.items
    (c.new.ensures.items, refl) c.loop-pair.invariant
