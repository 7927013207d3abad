use Rattle.std.proofs.Common.{rules}
use Rattle.replica_machine.proofs.roll.Standing.gone.Goals as goal

pub returns-in-Live : goal.returns-in-Live
returns-in-Live c = search rules
