-- From the invariant.
use Rattle.cluster_world.proofs.Agreeing.{learned_is_chosen, chosen_is_one, told_is_chosen, learned_is_one}
use Rattle.cluster_world.proofs.laws.agreement.Goals as goal

pub returns-clause-learned : goal.returns-clause-learned
returns-clause-learned g c = learned_is_chosen g.B.Body.same (record { reflexive = g.met.B.Body.reflexive; sound = g.met.B.Body.sound })

pub returns-clause-one : goal.returns-clause-one
returns-clause-one g c = chosen_is_one g.B.Body.same (record { reflexive = g.met.B.Body.reflexive; sound = g.met.B.Body.sound })

pub returns-clause-told : goal.returns-clause-told
returns-clause-told g c = told_is_chosen g.B.Body.same (record { reflexive = g.met.B.Body.reflexive; sound = g.met.B.Body.sound })

pub returns-clause-at_any_moments : goal.returns-clause-at_any_moments
returns-clause-at_any_moments g c = learned_is_one g.B.Body.same (record { reflexive = g.met.B.Body.reflexive; sound = g.met.B.Body.sound })
