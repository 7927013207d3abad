use Rattle.std.proofs.Common.{sym}
use Rattle.node_actor.proofs.Looking.{look_is}
use Rattle.node_actor.proofs.fetching.fetch_all.Goals as goal

pub returns-clause-fetched : goal.returns-clause-fetched
returns-clause-fetched g c =
    look_is c.args.seat.now.members c.args.from _ c.args.seat.now c.fetch_all.new.seat c.fetch_all.result (sym c.requires.owned.2)
    c.fetch_all.ensures.fetched
