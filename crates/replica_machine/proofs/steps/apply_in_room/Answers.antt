use Rattle.std.proofs.Common.{rules}
use Rattle.replica_machine.proofs.steps.apply_in_room.Goals as goal

pub returns-clause-content : goal.returns-clause-content
returns-clause-content g c = search rules

pub returns-clause-says : goal.returns-clause-says
returns-clause-says g c = search rules
