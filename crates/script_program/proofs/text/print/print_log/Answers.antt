use Rattle.std.proofs.lemmas.Result.{err_from_is_err_and}
use Rattle.script_program.proofs.Appending.{log_cut}
use Rattle.script_program.proofs.Pages.{prints_part, prints_same, prints_then}
use Rattle.script_program.proofs.text.print.print_log.Goals as goal

pub returns-in_err-print_floor : goal.returns-in_err-print_floor
returns-in_err-print_floor g c = λ under long stands.
    let p = err_from_is_err_and c.from_residual.result c.from_residual.ensures.1 in
    rw (p.1, p.2) (prints_part c.in_err-print_floor.field-0.0 _ _ _ _ _ _ _ (log_cut under c.args.log.now c.args.floor long)
    c.in_err-print_floor.ensures)

pub returns : goal.returns
returns g c = λ under long stands.
    prints_same c.print_entries.result _ _ _ _ _ _ (log_cut under c.args.log.now c.args.floor long)
    (prints_then _ _ _ _ _ _ c.in_ok-print_floor.ensures c.print_entries.result _ _ (c.print_entries.ensures under stands))
