use Rattle.wamp_patterns.proofs.kinds.kind_of.Goals as goal

pub returns-in-Wildcard : goal.returns-in-Wildcard
returns-in-Wildcard c = rw c.in-Wildcard.is c.shape.ensures
