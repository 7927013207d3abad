use Rattle.std.proofs.Common.{rules}
use Rattle.realm_calls.proofs.calls.cancel_one.Goals as goal

pub returns-in_default : goal.returns-in_default
returns-in_default c = search rules
