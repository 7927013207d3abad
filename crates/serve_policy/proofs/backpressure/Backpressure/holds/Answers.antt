use Rattle.std.proofs.Common.{rules}
use Rattle.serve_policy.proofs.backpressure.Backpressure.holds.Goals as goal

pub returns : goal.returns
returns c = search rules
