use Rattle.std.proofs.Common.{rules}
use Rattle.world_rescue.proofs.Casting.{ended}
use Rattle.world_rescue.proofs.visits.votes_then.Goals as goal

pub returns : goal.returns
returns g c =
    ended c.args.first c.args.cast.now c.loop-vote.vote-index c.loop-vote.votes _ c.args.node.now.state.rows.votes
    (search rules) c.loop-vote.invariant (search rules)
