use Rattle.std.proofs.lemmas.Result.{err_from_is_err_and}
use Rattle.script_program.proofs.Intake.{reads_stop}
use Rattle.script_program.proofs.reading.read_into.Goals as goal

pub returns-in_err-read_once : goal.returns-in_err-read_once
returns-in_err-read_once g c =
    let p = err_from_is_err_and c.from_residual.result c.from_residual.ensures.1 in
    rw (p.1, p.2) (reads_stop _ _ _ _ _ c.loop-read.invariant.0 _ _ c.in_err-read_once.field-0.0 c.in_err-read_once.ensures.reads)
