use Rattle.replica_machine.proofs.Places.{effective_last, effective_is, live_boot_is, items_taken_is, effective_append}
use Rattle.replica_machine.proofs.laws.effects.Goals as goal

pub returns-clause-by_places : goal.returns-clause-by_places
returns-clause-by_places g c = effective_last

pub returns-clause-effects : goal.returns-clause-effects
returns-clause-effects g c = effective_is

pub returns-clause-live : goal.returns-clause-live
returns-clause-live g c = live_boot_is

pub returns-clause-taken : goal.returns-clause-taken
returns-clause-taken g c = items_taken_is

pub returns-clause-goes_on : goal.returns-clause-goes_on
returns-clause-goes_on g c = effective_append
