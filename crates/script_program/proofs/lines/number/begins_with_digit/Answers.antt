use Rattle.std.proofs.Common.{rules}
use Rattle.script_program.proofs.lines.number.begins_with_digit.Goals as goal

pub returns-in-Some : goal.returns-in-Some
returns-in-Some c = search rules
