use Rattle.wamp_patterns.proofs.Ranks.{itself, through}
use Rattle.wamp_patterns.proofs.laws.patterns_are_ranked.Goals as goal

pub returns : goal.returns
returns c = record { itself = itself; through = through }
