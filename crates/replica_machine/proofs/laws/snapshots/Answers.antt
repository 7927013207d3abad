use Rattle.replica_machine.proofs.Applying.{cut_stands}
use Rattle.replica_machine.proofs.Snapshots.{loaded_stands}
use Rattle.replica_machine.proofs.laws.snapshots.Goals as goal

pub returns-clause-loaded : goal.returns-clause-loaded
returns-clause-loaded g c = λ steps content first under old new stands given loaded.
    loaded_stands steps content first under old new stands given loaded

pub returns-clause-cut : goal.returns-clause-cut
returns-clause-cut g c = λ steps content first under old within stands. cut_stands steps content first under old within stands
