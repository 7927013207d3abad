use Rattle.std.proofs.Common.{rules}
use Rattle.realm_machine.proofs.sayings.invocations.add_interrupt.Goals as goal

pub returns-in-Some-by_id : goal.returns-in-Some-by_id
returns-in-Some-by_id c = search rules

pub returns-in-None : goal.returns-in-None
returns-in-None c = search rules
