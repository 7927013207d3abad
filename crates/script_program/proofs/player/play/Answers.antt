use Rattle.std.proofs.Common.{◌∙◌, ap, sym, subst}
use Rattle.cluster_world.specs.Scripts.{first_stage}
use Rattle.realm_machine.specs.Config.{Config}
use Rattle.script_program.specs.Playing.{IsPlayed}
use Rattle.script_program.proofs.player.play.Goals as goal

pub returns-in-Ok-clause-members : goal.returns-in-Ok-clause-members
returns-in-Ok-clause-members c =
    let config : Config = record { name = c.args.realm.now; limits = c.args.limits } in
    let at = c.in-Ok.ensures config c.args.members (first_stage c.args.members) c.in_ok-player.ensures in
    ap (λ w. w.members) c.into_world.ensures ∙ at.members_are

pub returns-in-Ok-clause-stands : goal.returns-in-Ok-clause-stands
returns-in-Ok-clause-stands c =
    let config : Config = record { name = c.args.realm.now; limits = c.args.limits } in
    let at = c.in-Ok.ensures config c.args.members (first_stage c.args.members) c.in_ok-player.ensures in
    subst (IsPlayed config c.args.members c.args.lines.now) (sym c.into_world.ensures) at.stands
