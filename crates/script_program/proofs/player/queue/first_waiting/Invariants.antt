use Rattle.script_program.specs.Queue.{ArePassed}
use Rattle.script_program.proofs.player.queue.first_waiting.Given as goal

abbrev pub invariant-loop-index : goal.invariant-loop-index
invariant-loop-index l = ArePassed l.sent l.places l.passed → ArePassed l.sent l.places l.index
