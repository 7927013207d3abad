use Rattle.std.proofs.Common.{rules}
use Rattle.realm_calls.proofs.calls.Calls.cancel.Goals as goal

pub returns-clause-calls : goal.returns-clause-calls
returns-clause-calls c = search rules
