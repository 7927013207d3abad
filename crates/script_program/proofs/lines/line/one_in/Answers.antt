use Rattle.std.proofs.Common.{rules}
use Rattle.script_program.proofs.Words.{one_more}
use Rattle.script_program.proofs.lines.line.one_in.Goals as goal

pub returns-then-is_some-clause-value : goal.returns-then-is_some-clause-value
returns-then-is_some-clause-value c = search (rules, one_more)
