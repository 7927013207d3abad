use Rattle.std.proofs.Common.{rules}
use Rattle.wamp_ids.proofs.uri.check.Goals as goal

pub returns-then-text-gt-LONGEST : goal.returns-then-text-gt-LONGEST
returns-then-text-gt-LONGEST c = search rules

pub returns-then-has_empty_part : goal.returns-then-has_empty_part
returns-then-has_empty_part c = search rules
