use Rattle.std.proofs.Common.{rules}
use Rattle.realm_registrations.proofs.registration.RegistrationTurning.turn.Goals as goal

pub returns-then-takes_turns : goal.returns-then-takes_turns
returns-then-takes_turns c = search rules

pub returns-else-takes_turns : goal.returns-else-takes_turns
returns-else-takes_turns c = search rules
