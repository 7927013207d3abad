use Rattle.std.proofs.Common.{rules}
use Rattle.wamp_values.proofs.args.Arguments.of.Goals as goal

pub invariant_of-result : goal.invariant_of-result
invariant_of-result c = search rules
