use Rattle.script_program.proofs.Words.{no_text, text_line}
use Rattle.script_program.proofs.lines.line.read_line.Goals as goal

pub returns-in_default : goal.returns-in_default
returns-in_default c = no_text c.args.members c.args.draw c.args.octets.now c.in_default.ensures.cases.0

pub returns-then-eq : goal.returns-then-eq
returns-then-eq c =
    rw (
      text_line c.args.members c.args.draw c.args.octets.now c.in-Ok.ensures.cases.1,
      ← c.in-Ok.ensures.cases.0,
      c.first_word.ensures.words,
      ← c.eq.ensures,
      c.if-eq.true,
    ) c.take_in.ensures

pub returns : goal.returns
returns c =
    rw (
      text_line c.args.members c.args.draw c.args.octets.now c.in-Ok.ensures.cases.1,
      ← c.in-Ok.ensures.cases.0,
      c.first_word.ensures.words,
      ← c.eq.ensures,
      c.if-eq.false,
    ) c.other_line.ensures
