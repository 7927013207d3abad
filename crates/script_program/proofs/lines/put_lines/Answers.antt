use Rattle.std.proofs.Common.{arith}
use Rattle.std.proofs.lemmas.Grind.{common_steps}
use Rattle.script_program.proofs.lines.put_lines.Goals as goal

pub pieces-preserved : goal.pieces-preserved
pieces-preserved c = grind (arith, common_steps)
