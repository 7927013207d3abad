use Rattle.std.proofs.Common.{rules}
use Rattle.wamp_ids.proofs.pattern.Pattern.same.Goals as goal

pub returns-then-eq : goal.returns-then-eq
returns-then-eq c = search rules
