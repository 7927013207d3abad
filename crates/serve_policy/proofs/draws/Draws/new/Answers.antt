use Rattle.std.proofs.Common.{rules}
use Rattle.serve_policy.proofs.draws.Draws.new.Goals as goal

pub returns-clause-value : goal.returns-clause-value
returns-clause-value c = search rules

pub returns-clause-stream : goal.returns-clause-stream
returns-clause-stream c = search rules
