use Rattle.std.proofs.Common.{refl}
use Rattle.command_codec.specs.Number.{number_reading}
use Rattle.replica_machine.proofs.laws.snapshot_examples.Goals as goal

pub returns-clause-loaded : goal.returns-clause-loaded
unfolding number_reading
returns-clause-loaded c = refl

pub returns-clause-missing : goal.returns-clause-missing
unfolding number_reading
returns-clause-missing c = refl

pub returns-clause-left : goal.returns-clause-left
unfolding number_reading
returns-clause-left c = refl

pub returns-clause-live_at_none : goal.returns-clause-live_at_none
unfolding number_reading
returns-clause-live_at_none c = refl

pub returns-clause-counts_lost : goal.returns-clause-counts_lost
unfolding number_reading
returns-clause-counts_lost c = refl

pub returns-clause-no_flag : goal.returns-clause-no_flag
unfolding number_reading
returns-clause-no_flag c = refl

pub returns-clause-no_slot : goal.returns-clause-no_slot
unfolding number_reading
returns-clause-no_slot c = refl
