use Rattle.std.proofs.Common.{rules}
use Rattle.node_actor.proofs.compare.same_but_boot.Goals as goal

pub returns-then-same_base : goal.returns-then-same_base
returns-then-same_base g c = search rules
