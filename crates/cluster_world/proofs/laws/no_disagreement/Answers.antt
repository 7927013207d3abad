-- From the invariant.
use Rattle.cluster_world.proofs.Agreeing.{never_disagrees}
use Rattle.cluster_world.proofs.laws.no_disagreement.Goals as goal

pub returns : goal.returns
returns g c = never_disagrees g.B.Body.same (record { reflexive = g.met.B.Body.reflexive; sound = g.met.B.Body.sound })
