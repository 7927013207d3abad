use Rattle.paxos_proposer.specs.State.{role_in}
use Rattle.world_rescue.specs.Course.{seat_of, votes_then}
use Rattle.world_rescue.proofs.Lacking.{handed, hears_at}
use Rattle.world_rescue.proofs.bid.hear_all.Goals as goal

pub returns-in_err-hear-clause-room : goal.returns-in_err-hear-clause-room
returns-in_err-hear-clause-room g c = λ h.
    let bid = c.args.bid.now in
    handed c.from_residual.result c.in_err-hear.field-0.0 c.from_residual.ensures.1
    (c.in_err-hear.ensures.room (hears_at g.B.Body.same c.args.helpers.now (λ h. seat_of h.now) c.loop-helper.helper-index c.helper-item.result bid.applied
    bid.pending.now c.args.ballot (λ s. votes_then bid.first bid.cast.now s) bid.floor c.args.proposer.now.state.members c.loop-helper.proposer.state.members
    (role_in c.args.proposer.now) (role_in c.loop-helper.proposer) c.args.proposer.now.state c.loop-helper.proposer.state c.loop-helper-test.true
    c.helper-item.is c.loop-helper.invariant.1 h))
