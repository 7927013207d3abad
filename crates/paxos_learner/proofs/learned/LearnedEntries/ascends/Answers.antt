use Rattle.std.proofs.Common.{subst}
use Rattle.paxos_learner.specs.Learned.{Shelf, Rises}
use Rattle.paxos_learner.proofs.Rising.{shelf_rises}
use Rattle.paxos_learner.proofs.learned.LearnedEntries.ascends.Goals as goal

pub returns : goal.returns
returns g c =
    subst (λ (s : Shelf g.row.B.Denot). Rises s.floor s.learned) c.self.view_is
    (shelf_rises c.self.inside.floor c.self.inside.run.items c.self.inside.ahead.entries c.self.invariant)
