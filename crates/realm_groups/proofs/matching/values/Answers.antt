use Rattle.std.proofs.Common.{arith}
use Rattle.std.proofs.lemmas.Grind.{common_steps}
use Rattle.realm_groups.proofs.matching.values.Goals as goal

pub loop-group-preserved : goal.loop-group-preserved
loop-group-preserved g c = grind (arith, common_steps)
