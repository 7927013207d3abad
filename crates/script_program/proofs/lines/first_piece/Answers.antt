use Rattle.script_program.proofs.Cutting.{cut_at_byte, cut_at_no_byte}
use Rattle.script_program.proofs.lines.first_piece.Goals as goal

pub returns-in-Some-clause-pieces : goal.returns-in-Some-clause-pieces
returns-in-Some-clause-pieces c = cut_at_byte 10 c.args.text.now c.in-Some.end c.in-Some.ensures

pub returns-in-None-clause-pieces : goal.returns-in-None-clause-pieces
returns-in-None-clause-pieces c = cut_at_no_byte 10 c.args.text.now c.in-None.ensures
