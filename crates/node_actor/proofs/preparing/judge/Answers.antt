use Rattle.std.proofs.Common.{rules}
use Rattle.node_actor.proofs.preparing.judge.Goals as goal

pub returns-in-Others : goal.returns-in-Others
returns-in-Others g c = search rules
