use Rattle.std.proofs.Common.{rules}
use Rattle.paxos_planning.proofs.draft.Draft.into_effects.Goals as goal

pub returns-clause-plan : goal.returns-clause-plan
returns-clause-plan g c = search rules
