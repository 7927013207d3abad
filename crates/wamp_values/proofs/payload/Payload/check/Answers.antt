use Rattle.std.proofs.Common.{rules}
use Rattle.wamp_values.proofs.payload.Payload.check.Goals as goal

pub invariant_of-result : goal.invariant_of-result
invariant_of-result c = search rules

pub returns-in-Fit : goal.returns-in-Fit
returns-in-Fit c = search rules
