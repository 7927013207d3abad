use Rattle.std.proofs.Common.{arith}
use Rattle.std.proofs.lemmas.Grind.{common_steps}
use Rattle.paxos_proposer.proofs.proposing.Proposing.stands.Goals as goal

pub returns-then-stands : goal.returns-then-stands
returns-then-stands g c = grind (arith, common_steps)

pub returns-else-stands : goal.returns-else-stands
returns-else-stands g c = grind (arith, common_steps)
