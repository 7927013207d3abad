use Rattle.realm_laws.proofs.Unbegun.{unbegun_told_nothing}
use Rattle.realm_laws.proofs.laws.the_unbegun_are_told_nothing.Goals as goal

pub returns : goal.returns
returns c = unbegun_told_nothing
