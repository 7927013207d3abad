use Rattle.std.proofs.Common.{◌≡◌, Some, rules}
use Rattle.paxos_proposer.specs.State.{role_in}
use Rattle.world_rescue.proofs.Lacking.{handed, proposes_first, proposes_then}
use Rattle.world_rescue.proofs.Listing.{from_ok}
use Rattle.world_rescue.proofs.bid.proposes.Goals as goal

pub returns-in_err-propose_all-clause-room : goal.returns-in_err-propose_all-clause-room
returns-in_err-propose_all-clause-room g c = λ h.
    let is : c.args.called ≡ Some c.in-Some.entries = search rules in
    handed c.from_residual.result c.in_err-propose_all.field-0.0 c.from_residual.ensures.1
    (c.in_err-propose_all.ensures.room (proposes_first g.B.Body.same c.args.applied c.args.pending.now c.args.called c.in-Some.entries
    (role_in c.args.proposer.now) is h))

pub returns-clause-room : goal.returns-clause-room
returns-clause-room g c = λ h.
    let is : c.args.called ≡ Some c.in-Some.entries = search rules in
    c.propose_new.ensures.room (proposes_then g.B.Body.same c.args.applied c.args.pending.now c.args.called c.in-Some.entries (role_in c.args.proposer.now)
    c.args.proposer.now.state c.propose_all.new.proposer.state is
    (from_ok c.propose_all.result c.in_ok-propose_all.field-0 c.in_ok-propose_all.was c.propose_all.ensures.state) h)
