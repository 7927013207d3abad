use Rattle.std.proofs.Common.{rules}
use Rattle.replica_machine.proofs.roll.Standing.after.Goals as goal

pub returns-then-is_next : goal.returns-then-is_next
returns-then-is_next g c = search rules
