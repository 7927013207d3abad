use Rattle.std.proofs.Common.{rules}
use Rattle.realm_machine.proofs.sayings.invocations.invocation.Goals as goal

pub returns : goal.returns
returns c = search rules
