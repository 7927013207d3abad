-- From where entries come.
use Rattle.replica_machine.proofs.Numbering.{are_numbered}
use Rattle.cluster_world.proofs.Taking.{items_were_taken}
use Rattle.cluster_world.proofs.Booting.{boots_were_had}
use Rattle.cluster_world.proofs.Waiting.{losts_were_suspected}
use Rattle.cluster_world.proofs.laws.at_most_once.Goals as goal

pub returns-clause-numbered : goal.returns-clause-numbered
returns-clause-numbered g c = are_numbered

pub returns-clause-taken : goal.returns-clause-taken
returns-clause-taken g c = items_were_taken g.B.Body.same (record { reflexive = g.met.B.Body.reflexive; sound = g.met.B.Body.sound })

pub returns-clause-boots : goal.returns-clause-boots
returns-clause-boots g c = boots_were_had g.B.Body.same (record { reflexive = g.met.B.Body.reflexive; sound = g.met.B.Body.sound })

pub returns-clause-losses : goal.returns-clause-losses
returns-clause-losses g c = losts_were_suspected g.B.Body.same (record { reflexive = g.met.B.Body.reflexive; sound = g.met.B.Body.sound })
