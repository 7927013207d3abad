use Rattle.std.proofs.Common.{ap}
use Rattle.std.proofs.lemmas.Result.{err_from_is_err_and}
use Rattle.script_program.specs.WorldText.{told_text}
use Rattle.script_program.proofs.Pages.{begins, goes_on, goes_wrong}
use Rattle.script_program.proofs.text.world.print_told.Goals as goal

pub loop-transport-init : goal.loop-transport-init
loop-transport-init g c = rw c.into_iter-transport-iterator.ensures.into_iter_gives (begins _ _ _)

pub returns-in_err-print_handed : goal.returns-in_err-print_handed
returns-in_err-print_handed g c =
    let p = err_from_is_err_and c.from_residual.result c.from_residual.ensures.1 in
    rw (p.1, p.2) (goes_wrong _ _ _ _ _ _ c.loop-transport.invariant c.in_err-print_handed.field-0.0 _ _ _ (told_text c.next.new.self)
    (ap told_text c.in-Some.ensures.steps) c.in_err-print_handed.ensures)

pub loop-transport-preserved : goal.loop-transport-preserved
loop-transport-preserved g c =
    goes_on _ _ _ _ _ _ c.loop-transport.invariant _ _ _ (told_text c.next.new.self)
    (ap told_text c.in-Some.ensures.steps) c.in_ok-print_handed.ensures
