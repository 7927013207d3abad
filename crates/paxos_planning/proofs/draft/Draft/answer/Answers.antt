use Rattle.std.proofs.Common.{rules}
use Rattle.paxos_planning.proofs.draft.Draft.answer.Goals as goal

pub returns-in-Prepare-clause-plan : goal.returns-in-Prepare-clause-plan
returns-in-Prepare-clause-plan g c = search rules
