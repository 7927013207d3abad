use Rattle.replica_machine.proofs.Numbering.{are_numbered}
use Rattle.replica_machine.proofs.laws.numbering.Goals as goal

pub returns : goal.returns
returns g c = are_numbered
