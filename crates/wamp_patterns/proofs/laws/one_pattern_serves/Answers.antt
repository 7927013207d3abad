use Rattle.wamp_patterns.proofs.Serving.{some_serves, one_unbeaten}
use Rattle.wamp_patterns.proofs.laws.one_pattern_serves.Goals as goal

pub returns : goal.returns
returns g c = record { some = some_serves; one = one_unbeaten }
