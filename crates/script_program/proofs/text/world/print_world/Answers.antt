use Rattle.std.proofs.lemmas.Result.{err_from_is_err_and}
use Rattle.script_program.specs.Playing.{events_of}
use Rattle.realm_machine.specs.Machine.{begun}
use Rattle.script_program.proofs.Ending.{world_wrong, world_printed}
use Rattle.script_program.proofs.text.world.print_world.Goals as goal

pub returns-in_err-print_nodes : goal.returns-in_err-print_nodes
returns-in_err-print_nodes g c config ls stands =
    let p = err_from_is_err_and c.from_residual.result c.from_residual.ensures.1 in
    rw (p.1, p.2) (world_wrong c.realms_are_handed_out.ensures config c.args.members _ ls c.requires.members c.handed-told.result
    (c.handed-told.ensures (begun config) (events_of config c.args.members ls) stands) _ _ _ _ c.in_err-print_nodes.field-0.0
    (c.in_err-print_nodes.ensures (begun config) (events_of config c.args.members ls) stands))

pub returns : goal.returns
returns g c config ls stands =
    world_printed c.realms_are_handed_out.ensures config c.args.members _ ls c.requires.members c.handed-told.result
    (c.handed-told.ensures (begun config) (events_of config c.args.members ls) stands) _ _ _ _
    (c.in_ok-print_nodes.ensures (begun config) (events_of config c.args.members ls) stands) c.print_told.result _ _ c.print_told.ensures
