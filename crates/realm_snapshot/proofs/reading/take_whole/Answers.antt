use Rattle.std.proofs.Common.{rules}
use Rattle.realm_snapshot.proofs.reading.take_whole.Goals as goal

pub returns-clause-taken : goal.returns-clause-taken
returns-clause-taken c = search rules
