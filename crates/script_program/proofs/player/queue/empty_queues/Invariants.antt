use Rattle.std.proofs.Common.{◌≡◌, length}
use Rattle.std.specs.List.{All}
use Rattle.script_program.proofs.Queues.{IsEmpty}
use Rattle.script_program.proofs.player.queue.empty_queues.Given as goal

abbrev pub invariant-loop-pair : goal.invariant-loop-pair
invariant-loop-pair l = (length l.queues.items ≡ l._pair) × All IsEmpty l.queues.items
