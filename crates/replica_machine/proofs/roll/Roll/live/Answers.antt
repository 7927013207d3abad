use Rattle.std.proofs.Common.{rules}
use Rattle.replica_machine.proofs.roll.Roll.live.Goals as goal

pub returns-in-Gone : goal.returns-in-Gone
returns-in-Gone c = search rules
