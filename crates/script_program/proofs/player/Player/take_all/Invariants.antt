use Rattle.std.proofs.Common.{ℕ, take}
use Rattle.realm_acts.specs.declared.act.Act as acted
use Rattle.realm_machine.specs.Config.{Config}
use Rattle.cluster_world.specs.Scripts.{Stage}
use Rattle.script_program.specs.Player.{IsAt}
use Rattle.script_program.specs.Playing.{script_of, stage_behind}
use Rattle.script_program.proofs.player.Player.take_all.Given as goal

abbrev pub invariant-loop-line : goal.invariant-loop-line
invariant-loop-line l =
    (config : Config) (members : ℕ) (s : Stage acted.Act) → IsAt config members l.initial.self s
    → IsAt config members l.self (stage_behind config members (script_of (take l.line-index l.lines)) s)
