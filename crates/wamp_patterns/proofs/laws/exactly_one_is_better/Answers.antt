use Rattle.wamp_patterns.proofs.Ranks.{exactly_one}
use Rattle.wamp_patterns.proofs.laws.exactly_one_is_better.Goals as goal

pub returns : goal.returns
returns c = exactly_one
