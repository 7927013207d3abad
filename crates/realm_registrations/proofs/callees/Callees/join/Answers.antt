use Rattle.std.proofs.Common.{rules}
use Rattle.realm_registrations.proofs.callees.Callees.join.Goals as goal

pub returns-clause-ok : goal.returns-clause-ok
returns-clause-ok c = search rules
