use Rattle.cluster_world.proofs.Giving.{logs_are_given}
use Rattle.cluster_world.proofs.laws.logs_are_given.Goals as goal

pub returns : goal.returns
returns g c = logs_are_given g.B.Body.same (record { reflexive = g.met.B.Body.reflexive; sound = g.met.B.Body.sound })
