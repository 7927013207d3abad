-- Rounds that nodes hold.
use Rattle.cluster_world.proofs.Proposing.{rounds_were_sent}
use Rattle.cluster_world.proofs.laws.rounds_were_sent.Goals as goal

pub returns : goal.returns
returns g c = rounds_were_sent g.B.Body.same (record { reflexive = g.met.B.Body.reflexive; sound = g.met.B.Body.sound })
