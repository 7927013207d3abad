use Rattle.std.proofs.Common.{rules}
use Rattle.replica_machine.proofs.roll.Standing.is_next.Goals as goal

pub returns-then-taken-seq : goal.returns-then-taken-seq
returns-then-taken-seq c = search rules
