-- Nothing that was learned waits.
use Rattle.cluster_world.proofs.Learning.{nothing_waits}
use Rattle.cluster_world.proofs.laws.nothing_waits.Goals as goal

pub returns : goal.returns
returns g c = nothing_waits g.B.Body.same
