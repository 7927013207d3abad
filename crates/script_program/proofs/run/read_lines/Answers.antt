use Rattle.std.proofs.lemmas.Result.{err_from_is_err_and}
use Rattle.script_program.proofs.Ending.{unread_lines}
use Rattle.script_program.proofs.run.read_lines.Goals as goal

pub returns-in_err-text : goal.returns-in_err-text
returns-in_err-text g c =
    let p = err_from_is_err_and c.from_residual.result c.from_residual.ensures.1 in
    rw (p.1, p.2) (unread_lines c.args.members c.in_err-text.field-0.0 _ _ c.in_err-text.ensures)
