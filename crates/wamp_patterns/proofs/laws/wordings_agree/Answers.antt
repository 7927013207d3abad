use Rattle.wamp_patterns.proofs.Wordings.{wordings}
use Rattle.wamp_patterns.proofs.laws.wordings_agree.Goals as goal

pub returns : goal.returns
returns c = wordings
