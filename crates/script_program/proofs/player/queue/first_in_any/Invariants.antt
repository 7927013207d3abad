use Rattle.std.proofs.Common.{◌≡◌, ◌&&◌}
use Rattle.std.specs.Prelude.{nat_lt}
use Rattle.script_program.specs.Waiting.{is_due, first_from}
use Rattle.script_program.specs.Queue.{AreQueues, pair_of}
use Rattle.script_program.proofs.player.queue.first_in_any.Given as goal

abbrev pub invariant-loop-pair : goal.invariant-loop-pair
invariant-loop-pair l =
    (l.least ≡ first_from (λ p. is_due l.members l.among p && nat_lt (pair_of p) l.pair) 0 l.sent) × AreQueues l.members l.sent l.queues.items
