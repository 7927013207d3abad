use Rattle.std.proofs.Common.{drop, map}
use Rattle.script_program.specs.Text.{handed_text}
use Rattle.script_program.specs.Printing.{Underway}
use Rattle.script_program.proofs.text.print.print_handed.Given as goal

abbrev pub invariant-loop-say : goal.invariant-loop-say
invariant-loop-say g l =
    Underway (g.W.Write.contents l.fn.writer) (g.W.Write.contents l.writer) l.fn.out.items l.out.items
    (handed_text l.transport (map (λ say. say.out) l.says)) (handed_text l.transport (map (λ say. say.out) (drop l.say-index l.says)))
