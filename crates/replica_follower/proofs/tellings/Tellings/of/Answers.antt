-- They go by the map's own order.
use Rattle.std.proofs.Common.{subst, sym}
use Rattle.replica_follower.specs.Handed.{tellings, TellAll}
use Rattle.replica_follower.proofs.Ordering.{tell_all}
use Rattle.replica_follower.proofs.tellings.Tellings.of.Goals as goal

pub returns-clause-all : goal.returns-clause-all
returns-clause-all g c =
    subst (λ es. TellAll c.args.told.now.entries (tellings es)) (sym c.iter.ensures.rest) (tell_all c.args.told.now.entries c.iter.ensures.ordered)
