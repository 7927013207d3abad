-- The slots of a leader's proposals.
use Rattle.cluster_world.proofs.Proposing.{proposals_follow}
use Rattle.cluster_world.proofs.laws.proposals_follow.Goals as goal

pub returns : goal.returns
returns g c = proposals_follow g.B.Body.same
