use Rattle.std.proofs.Common.{◌≡◌, ◌+◌, ℕ}
use Rattle.realm_acts.specs.declared.act.Act as acted
use Rattle.realm_acts.specs.Act.{same_act}
use Rattle.realm_machine.specs.Config.{Config}
use Rattle.cluster_world.specs.Scripts.{Stage, flush, most_deliveries}
use Rattle.script_program.specs.Player.{IsAt, IsFlushing}
use Rattle.script_program.proofs.player.Player.flush.Given as goal

abbrev pub invariant-loop-turn : goal.invariant-loop-turn
invariant-loop-turn l =
    (config : Config) (members : ℕ) (s : Stage acted.Act) → IsAt config members l.initial.self s
    → (more : ℕ) × (more + l._turn ≡ 100000)
    × IsFlushing config members l.among more l.self (flush same_act members l.among most_deliveries s)
