-- Computed.
use Rattle.std.proofs.Common.{refl}
use Rattle.cluster_world.specs.Rescue.{last_rescue_round, last_rescue_slot}
use Rattle.core_tests.proofs.rescue_floors.refused_at_floors.Goals as goal

pub returns-clause-last : goal.returns-clause-last
unfolding last_rescue_round last_rescue_slot
returns-clause-last c = refl

pub returns-clause-later : goal.returns-clause-later
unfolding last_rescue_round last_rescue_slot
returns-clause-later c = refl
