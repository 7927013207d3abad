use Rattle.std.proofs.Common.{List, subst}
use Rattle.realm_machine.specs.Config.{Config}
use Rattle.script_program.specs.declared.lines.line.Line.{Line}
use Rattle.script_program.specs.Playing.{IsPlayed}
use Rattle.script_program.proofs.Ending.{ends_played}
use Rattle.script_program.proofs.run.script_run.Goals as goal

pub returns : goal.returns
returns g c =
    let config : Config = record { name = c.args.realm.now; limits = c.args.limits } in
    let Led : List Line → Type 0 = λ ls. IsPlayed config c.args.members ls c.in_ok-world.world in
    ends_played config c.args.members _ _ _ c.in_ok-lines.lines c.in_ok-lines.ensures c.write_world-written.result _
    (c.write_world-written.ensures config c.in_ok-lines.lines.items (subst Led c.as_slice.ensures.value c.in_ok-world.ensures.stands))
