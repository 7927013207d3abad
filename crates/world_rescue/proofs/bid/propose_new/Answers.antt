use Rattle.std.proofs.Common.{◌+◌, drop}
use Rattle.paxos_proposer.specs.State.{role_in}
use Rattle.world_rescue.proofs.Fitting.{new_now}
use Rattle.world_rescue.proofs.Lacking.{handed}
use Rattle.world_rescue.proofs.Listing.{rest}
use Rattle.world_rescue.proofs.bid.propose_new.Goals as goal

pub returns-in_err-propose_unless-clause-room : goal.returns-in_err-propose_unless-clause-room
returns-in_err-propose_unless-clause-room g c = λ h.
    let i = c.loop-entry.entry-index in
    let es = c.args.entries.now in
    let e = c.entry-item.result in
    handed c.from_residual.result c.in_err-propose_unless.field-0.0 c.from_residual.ensures.1
    (c.in_err-propose_unless.ensures.room (new_now g.B.Body.same c.args.applied es (drop i es) (drop (i + 1) es) e (role_in c.args.proposer.now)
    (role_in c.loop-entry.proposer) c.args.proposer.now.state c.loop-entry.proposer.state c.loop-entry.invariant
    (rest es i e c.loop-entry-test.true c.entry-item.is) h))
