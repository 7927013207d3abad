use Rattle.std.proofs.Common.{arith}
use Rattle.std.proofs.lemmas.Grind.{common_steps}
use Rattle.client_listener.proofs.outbox.Outbox.write_some.Goals as goal

pub returns-else-count-len-clause-wrote : goal.returns-else-count-len-clause-wrote
returns-else-count-len-clause-wrote g c = grind (arith, common_steps)
