use Rattle.std.proofs.Common.{rules}
use Rattle.wamp_patterns.proofs.kinds.by_length.Goals as goal

pub returns : goal.returns
returns c = search rules
