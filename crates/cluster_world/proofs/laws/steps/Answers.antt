-- From the definition of the next world.
use Rattle.cluster_world.proofs.Stepping.{sent_is_among, nodes_are_members, one_event_more, event_goes_on, event_stays}
use Rattle.cluster_world.proofs.laws.steps.Goals as goal

pub returns-clause-sent : goal.returns-clause-sent
returns-clause-sent g c = sent_is_among g.B.Body.same (record { reflexive = g.met.B.Body.reflexive; sound = g.met.B.Body.sound })

pub returns-clause-nodes : goal.returns-clause-nodes
returns-clause-nodes g c = nodes_are_members g.B.Body.same

pub returns-clause-one_more : goal.returns-clause-one_more
returns-clause-one_more g c = one_event_more g.B.Body.same

pub returns-clause-goes : goal.returns-clause-goes
returns-clause-goes g c = event_goes_on g.B.Body.same

pub returns-clause-stays : goal.returns-clause-stays
returns-clause-stays g c = event_stays g.B.Body.same
