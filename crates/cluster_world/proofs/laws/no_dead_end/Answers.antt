-- No dead end.
use Rattle.cluster_world.proofs.Rescuing.{rescues}
use Rattle.cluster_world.proofs.laws.no_dead_end.Goals as goal

pub returns : goal.returns
returns g c = rescues g.B.Body.same (record { reflexive = g.met.B.Body.reflexive; sound = g.met.B.Body.sound })
