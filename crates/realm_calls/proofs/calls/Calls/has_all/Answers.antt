use Rattle.std.proofs.Common.{rules}
use Rattle.realm_calls.proofs.calls.Calls.has_all.Goals as goal

pub returns-clause-full : goal.returns-clause-full
returns-clause-full c = search rules
