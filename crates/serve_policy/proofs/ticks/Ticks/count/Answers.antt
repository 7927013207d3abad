use Rattle.std.proofs.Common.{rules}
use Rattle.serve_policy.proofs.ticks.Ticks.count.Goals as goal

pub returns-in-Some : goal.returns-in-Some
returns-in-Some c = search rules
