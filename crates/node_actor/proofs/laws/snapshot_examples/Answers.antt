use Rattle.std.proofs.Common.{refl}
use Rattle.command_codec.specs.Number.{number_reading}
use Rattle.node_actor.proofs.laws.snapshot_examples.Goals as goal

pub returns-clause-cut : goal.returns-clause-cut
unfolding number_reading
returns-clause-cut c = refl

pub returns-clause-taken : goal.returns-clause-taken
unfolding number_reading
returns-clause-taken c = refl

pub returns-clause-read : goal.returns-clause-read
unfolding number_reading
returns-clause-read c = refl

pub returns-clause-taken_before : goal.returns-clause-taken_before
unfolding number_reading
returns-clause-taken_before c = refl

pub returns-clause-taken_under : goal.returns-clause-taken_under
unfolding number_reading
returns-clause-taken_under c = refl

pub returns-clause-taken_says : goal.returns-clause-taken_says
unfolding number_reading
returns-clause-taken_says c = refl

pub returns-clause-unread : goal.returns-clause-unread
unfolding number_reading
returns-clause-unread c = refl

pub returns-clause-passed : goal.returns-clause-passed
unfolding number_reading
returns-clause-passed c = refl

pub returns-clause-passed_read : goal.returns-clause-passed_read
unfolding number_reading
returns-clause-passed_read c = refl
