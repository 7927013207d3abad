use Rattle.std.proofs.lemmas.Result.{err_from_is_err_and}
use Rattle.script_program.specs.WorldText.{IsTextOf}
use Rattle.script_program.proofs.Ending.{written_wrong, written_whole}
use Rattle.script_program.proofs.text.world.write_world.Goals as goal

pub returns-in_err-print_world : goal.returns-in_err-print_world
returns-in_err-print_world g c config ls stands =
    let p = err_from_is_err_and c.from_residual.result c.from_residual.ensures.1 in
    rw (p.1, p.2) (written_wrong (IsTextOf config c.args.members ls) _ _ _ _ c.new-out.ensures.items c.in_err-print_world.field-0.0
    (c.in_err-print_world.ensures config ls stands))

pub returns : goal.returns
returns g c config ls stands =
    written_whole (IsTextOf config c.args.members ls) _ _ _ _ c.new-out.ensures.items c.write_rest.result _
    (c.in_ok-print_world.ensures config ls stands) c.write_rest.ensures
