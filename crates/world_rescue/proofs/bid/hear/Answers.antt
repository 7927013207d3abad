use Rattle.world_rescue.specs.Course.{seat_of, floor_of, votes_then}
use Rattle.world_rescue.proofs.Lacking.{hears_then}
use Rattle.world_rescue.proofs.bid.hear.Goals as goal

pub returns-clause-room : goal.returns-clause-room
returns-clause-room g c = λ h.
    c.proposes.ensures.room (hears_then g.B.Body.same c.args.bid.now.applied c.args.bid.now.pending.now c.args.ballot c.me.result c.args.helper.now.me
    c.floor.result (floor_of (seat_of c.args.helper.now)) c.in_ok-votes.votes (votes_then c.args.bid.now.first c.args.bid.now.cast.now (seat_of c.args.helper.now)) c.args.bid.now.floor c.in-Ok.called c.args.proposer.now.state
    c.on_promise.new.self.state c.me.ensures c.floor.ensures c.in_ok-votes.ensures.votes c.in-Ok.ensures.called c.in-Ok.ensures.ok h)
