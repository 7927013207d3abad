use Rattle.std.proofs.Common.{rules}
use Rattle.realm_machine.proofs.sayings.endings.add_end_for_callee.Goals as goal

pub returns-in-Some : goal.returns-in-Some
returns-in-Some c = search rules
