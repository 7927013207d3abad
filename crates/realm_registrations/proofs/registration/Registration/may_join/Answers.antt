use Rattle.std.proofs.Common.{rules}
use Rattle.realm_registrations.proofs.registration.Registration.may_join.Goals as goal

pub returns-then-is_same : goal.returns-then-is_same
returns-then-is_same c = search rules
