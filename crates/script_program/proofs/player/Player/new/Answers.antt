use Rattle.realm_machine.specs.Config.{Config}
use Rattle.script_program.proofs.Turns.{begins}
use Rattle.script_program.proofs.player.Player.new.Goals as goal

pub returns : goal.returns
returns c =
    let config : Config = record { name = c.args.realm.now; limits = c.args.limits } in
    begins config c.args.members (record { alloc = c.args.alloc; world = c.in_ok-world.world; waiting = c.in-Ok.waiting })
    c.in_ok-world.ensures.members c.in_ok-world.ensures.stands c.in-Ok.ensures.members c.in-Ok.ensures.sent
