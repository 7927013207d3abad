-- From what every world holds of its cuts.
use Rattle.cluster_world.proofs.CutLogs.{cuts_are_logs, nodes_rest_on_logs, packets_bring_logs, nodes_stand_by_logs}
use Rattle.cluster_world.proofs.laws.cuts_are_logs.Goals as goal

pub returns-clause-cuts : goal.returns-clause-cuts
returns-clause-cuts g c = cuts_are_logs g.B.Body.same (record { reflexive = g.met.B.Body.reflexive; sound = g.met.B.Body.sound })

pub returns-clause-nodes : goal.returns-clause-nodes
returns-clause-nodes g c = nodes_rest_on_logs g.B.Body.same (record { reflexive = g.met.B.Body.reflexive; sound = g.met.B.Body.sound })

pub returns-clause-packets : goal.returns-clause-packets
returns-clause-packets g c = packets_bring_logs g.B.Body.same (record { reflexive = g.met.B.Body.reflexive; sound = g.met.B.Body.sound })

pub returns-clause-stands : goal.returns-clause-stands
returns-clause-stands g c = nodes_stand_by_logs g.B.Body.same (record { reflexive = g.met.B.Body.reflexive; sound = g.met.B.Body.sound })
