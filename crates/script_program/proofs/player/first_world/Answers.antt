use Rattle.realm_machine.specs.Config.{Config}
use Rattle.realm_machine.specs.Machine.{begun}
use Rattle.script_program.proofs.Turns.{have_content}
use Rattle.script_program.proofs.player.first_world.Goals as goal

pub returns-clause-stands : goal.returns-clause-stands
returns-clause-stands c =
    let config : Config = record { name = c.args.realm.now; limits = c.args.limits } in
    c.new.ensures.stands (begun config) (have_content config c.in_ok-realms.realms.items c.in_ok-realms.ensures.each)
