use Rattle.std.proofs.Common.{rules}
use Rattle.realm_registrations.proofs.registration.called.Goals as goal

pub returns-in-Last : goal.returns-in-Last
returns-in-Last c = search rules
