use Rattle.std.proofs.Common.{sym}
use Rattle.paxos_proposer.specs.State.{role_in}
use Rattle.world_rescue.proofs.Lacking.{unless_new}
use Rattle.world_rescue.proofs.bid.propose_unless.Goals as goal

pub returns-clause-room : goal.returns-clause-room
returns-clause-room g c = λ h.
    c.submit.ensures.room (unless_new g.B.Body.same c.args.applied c.args.entry.now c.in-Ok.copy (role_in c.args.proposer.now) (sym c.if-stands.ensures)
    c.in-Ok.ensures h)
