use Rattle.std.proofs.Common.{rules}
use Rattle.wamp_patterns.proofs.kinds.is_within.Goals as goal

pub returns-then-starts : goal.returns-then-starts
returns-then-starts c = search rules
