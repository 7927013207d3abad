use Rattle.std.proofs.Common.{arith}
use Rattle.realm_machine.specs.Machine.{begun}
use Rattle.script_program.proofs.Turns.{send_next, send_ends}
use Rattle.script_program.proofs.player.send_new.Goals as goal

pub loop-place-preserved : goal.loop-place-preserved
loop-place-preserved c = λ config es stands.
    send_next c.loop-place.place _ _ c.loop-place.waiting c.send.new.waiting _
    c.in_ok-send.ensures (c.packet_at.ensures config es stands) (c.loop-place.invariant config es stands)

pub returns : goal.returns
returns c = λ config es stands.
    let sent = c.sent-place-end.ensures (begun config) es stands in
    send_ends c.loop-place.place _ c.loop-place.waiting _ (omega (arith, c.loop-place-test.false, sent)) (c.loop-place.invariant config es stands)
