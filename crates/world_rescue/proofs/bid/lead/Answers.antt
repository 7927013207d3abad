use Rattle.std.proofs.Common.{map}
use Rattle.world_rescue.specs.Course.{seat_of, votes_then}
use Rattle.world_rescue.proofs.Fitting.{not_spent}
use Rattle.world_rescue.proofs.Lacking.{handed, is_no, led_then}
use Rattle.world_rescue.proofs.bid.lead.Goals as goal

pub returns-in_default-clause-room : goal.returns-in_default-clause-room
returns-in_default-clause-room g c = λ round h.
    absurd (is_no (c.in_default.ensures.otherwise (not_spent c.args.proposer.now.state.proposer round)))

pub returns-in_err-hear_all-clause-room : goal.returns-in_err-hear_all-clause-room
returns-in_err-hear_all-clause-room g c = λ round h.
    let bid = c.args.bid.now in
    handed c.from_residual-in_err-hear_all.result c.in_err-hear_all.field-0.0 c.from_residual-in_err-hear_all.ensures.1
    (c.in_err-hear_all.ensures.room (led_then g.B.Body.same bid.applied bid.pending.now c.in-Ok-start.ballot bid.first bid.cast.now c.args.own.now.me
    bid.floor c.in_ok-votes.votes (votes_then bid.first bid.cast.now (seat_of c.args.own.now)) (map (λ h. seat_of h.now) c.args.helpers.now)
    c.args.proposer.now.state c.start.new.self.state c.requires.me c.in-Ok-start.ensures.ballot c.in_ok-votes.ensures c.in-Ok-start.ensures.ok h))
