use Rattle.wamp_patterns.proofs.Order.{kept_as_one}
use Rattle.wamp_patterns.proofs.laws.equal_patterns_are_kept_as_one.Goals as goal

pub returns : goal.returns
returns c = kept_as_one
