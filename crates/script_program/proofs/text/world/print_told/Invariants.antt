use Rattle.script_program.specs.Printing.{Underway}
use Rattle.script_program.specs.WorldText.{told_text}
use Rattle.script_program.proofs.text.world.print_told.Given as goal

abbrev pub invariant-loop-transport : goal.invariant-loop-transport
invariant-loop-transport g l =
    Underway (g.W.Write.contents l.fn.writer) (g.W.Write.contents l.writer) l.fn.out.items l.out.items (told_text l.fn.told)
    (told_text l.transport-iterator)
