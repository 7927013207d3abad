use Rattle.std.proofs.Common.{◌≡◌, List, length, drop}
use Rattle.paxos_node.specs.declared.event.Event as occurred
use Rattle.realm_acts.specs.declared.act.Act as acted
use Rattle.realm_machine.specs.Config.{Config}
use Rattle.script_program.specs.Player.{send_all}
use Rattle.script_program.specs.Playing.{IsBehind, world_behind}
use Rattle.script_program.proofs.player.send_new.Given as goal

-- the rest makes of what waits what all makes of what waited
abbrev pub invariant-loop-place : goal.invariant-loop-place
invariant-loop-place l =
    (config : Config) (es : List (occurred.Event acted.Act)) → IsBehind config l.world es
    → send_all (drop l.place (world_behind config l.world.members es).sent) l.waiting
    ≡ send_all (drop (length l.initial.waiting.sent) (world_behind config l.world.members es).sent) l.initial.waiting
