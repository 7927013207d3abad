-- From the invariant.
use Rattle.cluster_world.proofs.Agreeing.{log_is_chosen, logs_are_prefixes}
use Rattle.cluster_world.proofs.laws.log_agreement.Goals as goal

pub returns-clause-chosen : goal.returns-clause-chosen
returns-clause-chosen g c = log_is_chosen g.B.Body.same (record { reflexive = g.met.B.Body.reflexive; sound = g.met.B.Body.sound })

pub returns-clause-prefixes : goal.returns-clause-prefixes
returns-clause-prefixes g c = logs_are_prefixes g.B.Body.same (record { reflexive = g.met.B.Body.reflexive; sound = g.met.B.Body.sound })
