use Rattle.std.proofs.Common.{rules}
use Rattle.wamp_patterns.proofs.index.Index.with_all.Goals as goal

pub with_first-requires-clause-few : goal.with_first-requires-clause-few
with_first-requires-clause-few g c = search rules
