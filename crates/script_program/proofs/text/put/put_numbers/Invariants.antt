use Rattle.std.proofs.Common.{◌≡◌, ◌++◌, drop}
use Rattle.script_program.specs.Text.{numbers_text}
use Rattle.script_program.proofs.text.put.put_numbers.Given as goal

abbrev pub invariant-loop-number : goal.invariant-loop-number
invariant-loop-number l = l.out.items ++ numbers_text (drop l.number-index l.numbers) ≡ l.fn.out.items ++ numbers_text l.numbers
