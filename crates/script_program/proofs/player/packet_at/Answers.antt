use Rattle.std.proofs.Common.{◌∙◌, sym, arith}
use Rattle.std.proofs.lemmas.Option.{slice_get_past}
use Rattle.realm_machine.specs.Machine.{begun}
use Rattle.script_program.specs.Playing.{world_behind}
use Rattle.script_program.proofs.Turns.{by_number}
use Rattle.script_program.proofs.player.packet_at.Goals as goal

pub returns-then-place-sent : goal.returns-then-place-sent
returns-then-place-sent c = λ config es stands.
    c.packet.ensures (begun config) es stands ∙ by_number c.args.place (world_behind config c.args.world.now.members es).sent

pub returns-else-place-sent : goal.returns-else-place-sent
returns-else-place-sent c = λ config es stands.
    sym (slice_get_past (world_behind config c.args.world.now.members es).sent c.args.place
    (omega (arith, c.if-place-sent.false, c.sent.ensures (begun config) es stands)))
