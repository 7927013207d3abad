-- What is pending.
use Rattle.cluster_world.proofs.Pending.{taken_are_counted, pending_losts_are_live, pending_is_few, down_is_rows}
use Rattle.cluster_world.proofs.PendingOwed.{pendings_are_owed}
use Rattle.cluster_world.proofs.laws.pending.Goals as goal

pub returns-clause-owed : goal.returns-clause-owed
returns-clause-owed g c = pendings_are_owed g.B.Body.same (record { reflexive = g.met.B.Body.reflexive; sound = g.met.B.Body.sound })

pub returns-clause-counted : goal.returns-clause-counted
returns-clause-counted g c = taken_are_counted g.B.Body.same

pub returns-clause-losts : goal.returns-clause-losts
returns-clause-losts g c = pending_losts_are_live g.B.Body.same (record { reflexive = g.met.B.Body.reflexive; sound = g.met.B.Body.sound })

pub returns-clause-few : goal.returns-clause-few
returns-clause-few g c = pending_is_few g.B.Body.same

pub returns-clause-down : goal.returns-clause-down
returns-clause-down g c = down_is_rows g.B.Body.same
