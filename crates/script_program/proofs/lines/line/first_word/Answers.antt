use Rattle.std.proofs.Common.{Some, None, arith}
use Rattle.std.proofs.lemmas.Str.Pattern.{split_once_first}
use Rattle.script_program.proofs.Cutting.{cut_first, cut_nowhere}
use Rattle.script_program.proofs.lines.line.first_word.Goals as goal

pub returns-in-Some-clause-words : goal.returns-in-Some-clause-words
returns-in-Some-clause-words c =
    let k = split_once_first 32 c.args.text.now (Some (c.in-Some.word, c.in-Some.rest)) c.in-Some.ensures.cases (omega arith) in
    cut_first _ c.args.text.now c.in-Some.word.now c.in-Some.rest.now k.0 k.1 k.2

pub returns-in-None-clause-words : goal.returns-in-None-clause-words
returns-in-None-clause-words c = cut_nowhere _ c.args.text.now (split_once_first 32 c.args.text.now None c.in-None.ensures.cases (omega arith))
