use Rattle.wamp_patterns.proofs.Serving.{found_in_one_pass}
use Rattle.wamp_patterns.proofs.laws.one_pass_finds_who_serves.Goals as goal

pub returns : goal.returns
returns g c = found_in_one_pass
