use Rattle.std.proofs.lemmas.Result.{err_from_is_err_and}
use Rattle.script_program.proofs.Pages.{goes_on, goes_wrong}
use Rattle.script_program.proofs.Texts.{said_step}
use Rattle.script_program.proofs.text.print.print_handed.Goals as goal

pub returns-in_err-print_said : goal.returns-in_err-print_said
returns-in_err-print_said g c =
    let p = err_from_is_err_and c.from_residual.result c.from_residual.ensures.1 in
    rw (p.1, p.2) (goes_wrong _ _ _ _ _ _ c.loop-say.invariant c.in_err-print_said.field-0.0 _ _ _ _
    (said_step c.args.transport c.args.says.now c.loop-say.say-index c.say-item.result c.loop-say-test.true c.say-item.is)
    c.in_err-print_said.ensures)

pub loop-say-preserved : goal.loop-say-preserved
loop-say-preserved g c =
    goes_on _ _ _ _ _ _ c.loop-say.invariant _ _ _ _
    (said_step c.args.transport c.args.says.now c.loop-say.say-index c.say-item.result c.loop-say-test.true c.say-item.is)
    c.in_ok-print_said.ensures
