use Rattle.std.proofs.Common.{rules}
use Rattle.client_listener.proofs.draining.take_all.Goals as goal

pub returns-clause-order : goal.returns-clause-order
returns-clause-order g c = search rules

pub returns-clause-taken : goal.returns-clause-taken
returns-clause-taken g c = search rules
