use Rattle.std.proofs.Common.{rules}
use Rattle.script_program.proofs.lines.draw_behind_act.Goals as goal

pub returns-in-Connect : goal.returns-in-Connect
returns-in-Connect c = search rules
