-- From what each node was handed.
use Rattle.cluster_world.proofs.Handing.{handed_is_said, handed_stays}
use Rattle.cluster_world.proofs.laws.answers.Goals as goal

pub returns-clause-said : goal.returns-clause-said
returns-clause-said g c = handed_is_said g.B.Body.same (record { reflexive = g.met.B.Body.reflexive; sound = g.met.B.Body.sound })

pub returns-clause-stays : goal.returns-clause-stays
returns-clause-stays g c = handed_stays g.B.Body.same (record { reflexive = g.met.B.Body.reflexive; sound = g.met.B.Body.sound })
