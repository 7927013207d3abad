use Rattle.replica_machine.proofs.Wanted.{effect_ends_want, items_stay_wanted, boots_stay_wanted, losts_stay_wanted}
use Rattle.replica_machine.proofs.laws.pending.Goals as goal

pub returns-clause-effect_ends_it : goal.returns-clause-effect_ends_it
returns-clause-effect_ends_it g c = effect_ends_want

pub returns-clause-items : goal.returns-clause-items
returns-clause-items g c = items_stay_wanted

pub returns-clause-boots : goal.returns-clause-boots
returns-clause-boots g c = boots_stay_wanted

pub returns-clause-losts : goal.returns-clause-losts
returns-clause-losts g c = losts_stay_wanted
