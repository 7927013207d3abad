use Rattle.cluster_world.proofs.Rooming.{rescues_have_room}
use Rattle.cluster_world.proofs.laws.rescues_have_room.Goals as goal

pub returns : goal.returns
returns g c = rescues_have_room g.B.Body.same (record { reflexive = g.met.B.Body.reflexive; sound = g.met.B.Body.sound })
