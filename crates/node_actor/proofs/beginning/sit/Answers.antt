use Rattle.node_actor.proofs.Renewing.{left_renewed}
use Rattle.node_actor.proofs.beginning.sit.Goals as goal

pub of-requires : goal.of-requires
of-requires g c =
    rw c.in-Err.ensures.rows (left_renewed g.B.Body.same c.args.post c.args.ready.rows c.args.ready.meant c.take_seat-seat.result
    c.me-me.result c.members-members.result
    c.take_seat-seat.ensures.left c.me-me.ensures.number c.members-members.ensures c.take_seat-seat.ensures.seat)
