use Rattle.std.proofs.Common.{rules}
use Rattle.node_actor.proofs.posting.post.Goals as goal

pub returns-clause-posted : goal.returns-clause-posted
returns-clause-posted g c = search rules
