use Rattle.std.proofs.Common.{rules}
use Rattle.realm_registrations.proofs.registration.RegistrationGroup.has_some.Goals as goal

pub returns : goal.returns
returns c = search rules
