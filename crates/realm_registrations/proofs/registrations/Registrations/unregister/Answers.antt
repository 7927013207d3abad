use Rattle.std.proofs.Common.{rules}
use Rattle.realm_registrations.proofs.registrations.Registrations.unregister.Goals as goal

pub remove_callee-requires : goal.remove_callee-requires
remove_callee-requires c = search rules

pub returns-clause-answer : goal.returns-clause-answer
returns-clause-answer c = search rules

pub returns-clause-registrations : goal.returns-clause-registrations
returns-clause-registrations c = search rules
