use Rattle.std.proofs.Common.{rules}
use Rattle.realm_snapshot.proofs.machine.KeptRealmMachine.apply.Goals as goal

pub returns-in-Lost-clause-content : goal.returns-in-Lost-clause-content
returns-in-Lost-clause-content c = search rules

pub returns-in-Lost-clause-says : goal.returns-in-Lost-clause-says
returns-in-Lost-clause-says c = search rules
