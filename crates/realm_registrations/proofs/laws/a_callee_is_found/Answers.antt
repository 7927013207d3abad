use Rattle.realm_registrations.proofs.Calling.{called_where_matched}
use Rattle.realm_registrations.proofs.laws.a_callee_is_found.Goals as goal

pub returns : goal.returns
returns c = called_where_matched
