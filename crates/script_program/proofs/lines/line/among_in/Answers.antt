use Rattle.std.proofs.Common.{◌∙◌}
use Rattle.script_program.proofs.Words.{among_words}
use Rattle.script_program.proofs.lines.line.among_in.Goals as goal

pub returns-in-Some : goal.returns-in-Some
returns-in-Some c = rw c.in-Some.is (c.listed.ensures ∙ among_words c.args.members c.in-Some.text.now)
