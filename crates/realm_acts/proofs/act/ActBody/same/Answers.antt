use Rattle.std.proofs.Common.{rules}
use Rattle.realm_acts.proofs.act.ActBody.same.Goals as goal

pub returns-then-eq : goal.returns-then-eq
returns-then-eq c = search rules
