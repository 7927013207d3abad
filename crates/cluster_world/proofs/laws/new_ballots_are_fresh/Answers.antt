-- Ballots before their own nodes promise them.
use Rattle.cluster_world.proofs.Holding.{new_ballots_are_fresh}
use Rattle.cluster_world.proofs.laws.new_ballots_are_fresh.Goals as goal

pub returns : goal.returns
returns g c = new_ballots_are_fresh g.B.Body.same (record { reflexive = g.met.B.Body.reflexive; sound = g.met.B.Body.sound })
