use Rattle.std.proofs.Common.{rules}
use Rattle.wamp_patterns.proofs.kinds.front.Goals as goal

pub returns-then-length-uri : goal.returns-then-length-uri
returns-then-length-uri c = search rules

pub returns : goal.returns
returns c = search rules
