use Rattle.std.proofs.Common.{rules}
use Rattle.wamp_ids.proofs.id.Id.new.Goals as goal

pub invariant_of-result : goal.invariant_of-result
invariant_of-result c = search rules

pub returns-then-number-le-LAST_ID : goal.returns-then-number-le-LAST_ID
returns-then-number-le-LAST_ID c = search rules
