use Rattle.std.proofs.Common.{rules}
use Rattle.wamp_patterns.proofs.ranking.better.Goals as goal

pub returns-in-Wildcard-Wildcard : goal.returns-in-Wildcard-Wildcard
returns-in-Wildcard-Wildcard c = search rules

pub returns-in-Prefix-Prefix : goal.returns-in-Prefix-Prefix
returns-in-Prefix-Prefix c = search rules
