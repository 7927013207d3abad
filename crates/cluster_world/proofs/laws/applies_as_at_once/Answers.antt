-- From the invariant, and that nothing waits to be applied between two events.
use Rattle.cluster_world.proofs.EventsAtOnce.{applies_as_at_once}
use Rattle.cluster_world.proofs.laws.applies_as_at_once.Goals as goal

pub returns : goal.returns
returns g c = applies_as_at_once g.B.Body.same (record { reflexive = g.met.B.Body.reflexive; sound = g.met.B.Body.sound })
