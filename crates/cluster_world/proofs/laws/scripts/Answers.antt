use Rattle.cluster_world.proofs.Scripting.{scripts_are_played}
use Rattle.cluster_world.proofs.laws.scripts.Goals as goal

pub returns : goal.returns
returns g c = scripts_are_played g.B.Body.same
