-- From what every world holds.
use Rattle.cluster_world.proofs.Applied.{applied_is_chosen, applied_are_prefixes, log_after_is_applied, log_is_applied}
use Rattle.cluster_world.proofs.laws.applied_is_chosen.Goals as goal

pub returns-clause-chosen : goal.returns-clause-chosen
returns-clause-chosen g c = applied_is_chosen g.B.Body.same (record { reflexive = g.met.B.Body.reflexive; sound = g.met.B.Body.sound })

pub returns-clause-prefixes : goal.returns-clause-prefixes
returns-clause-prefixes g c = applied_are_prefixes g.B.Body.same (record { reflexive = g.met.B.Body.reflexive; sound = g.met.B.Body.sound })

pub returns-clause-after : goal.returns-clause-after
returns-clause-after g c = log_after_is_applied g.B.Body.same

pub returns-clause-logs : goal.returns-clause-logs
returns-clause-logs g c = log_is_applied g.B.Body.same (record { reflexive = g.met.B.Body.reflexive; sound = g.met.B.Body.sound })
