use Rattle.script_program.proofs.Words.{said_words}
use Rattle.script_program.proofs.lines.line.act_in.Goals as goal

pub returns-in-Some-text : goal.returns-in-Some-text
returns-in-Some-text c =
    rw (c.in-Some.is, c.first_word.ensures.words, c.in-Some-text.is, ← said_words c.args.draw c.first_word.result.0.now c.in-Some-text.text.now) c.said_in.ensures
