use Rattle.std.proofs.Common.{rules}
use Rattle.paxos_planning.proofs.draft.Draft.stands.Goals as goal

pub returns : goal.returns
returns g c = search rules
