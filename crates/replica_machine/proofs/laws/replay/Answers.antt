use Rattle.replica_machine.proofs.Replaying.{state_append, sayings_append, sayings_by_slots}
use Rattle.replica_machine.proofs.laws.replay.Goals as goal

pub returns-clause-state : goal.returns-clause-state
returns-clause-state g c = state_append

pub returns-clause-sayings : goal.returns-clause-sayings
returns-clause-sayings g c = sayings_append

pub returns-clause-by_slot : goal.returns-clause-by_slot
returns-clause-by_slot g c = sayings_by_slots
