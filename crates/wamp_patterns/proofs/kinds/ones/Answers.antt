use Rattle.std.proofs.lemmas.List.{take-replicate}
use Rattle.wamp_patterns.proofs.kinds.ones.Goals as goal

pub returns : goal.returns
returns c = take-replicate c.args.number 1026 1 c.requires
