use Rattle.std.proofs.Common.{rules}
use Rattle.realm_groups.proofs.id_sets.IdSets.count.Goals as goal

pub returns-in-Some-clause-count : goal.returns-in-Some-clause-count
returns-in-Some-clause-count c = search rules

pub returns-in-Some-clause-ordered : goal.returns-in-Some-clause-ordered
returns-in-Some-clause-ordered c = search rules
