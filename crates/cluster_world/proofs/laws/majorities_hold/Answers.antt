-- Majorities hold what is chosen.
use Rattle.cluster_world.proofs.Holding.{majorities_hold}
use Rattle.cluster_world.proofs.laws.majorities_hold.Goals as goal

pub returns : goal.returns
returns g c = majorities_hold g.B.Body.same (record { reflexive = g.met.B.Body.reflexive; sound = g.met.B.Body.sound })
