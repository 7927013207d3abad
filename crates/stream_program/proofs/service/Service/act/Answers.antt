use Rattle.std.proofs.Common.{refl}
use Rattle.std.proofs.lemmas.Result.{err_from_is_err_and}
use Rattle.stream_program.proofs.Putting.{put_nothing}
use Rattle.stream_program.proofs.service.Service.act.Goals as goal

pub returns-in_err-says : goal.returns-in_err-says
returns-in_err-says c =
    let p = err_from_is_err_and c.from_residual.result c.from_residual.ensures.1 in
    rw (p.1, p.2) (record { puts = λ after. put_nothing _ after _ _ refl; has_acted = tt })
