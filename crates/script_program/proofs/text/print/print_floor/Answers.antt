use Rattle.std.proofs.lemmas.Result.{err_from_is_err_and}
use Rattle.script_program.proofs.Pages.{breaks_unput}
use Rattle.script_program.proofs.text.print.print_floor.Goals as goal

pub returns-in_err-put_floor : goal.returns-in_err-put_floor
returns-in_err-put_floor g c =
    let p = err_from_is_err_and c.from_residual.result c.from_residual.ensures.1 in
    rw (p.1, p.2) (breaks_unput _ _)
