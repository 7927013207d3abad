use Rattle.realm_machine.proofs.Unheard.{hung_unheard}
use Rattle.realm_machine.proofs.laws.the_hung_up_are_told_nothing.Goals as goal

pub returns : goal.returns
returns c = hung_unheard
