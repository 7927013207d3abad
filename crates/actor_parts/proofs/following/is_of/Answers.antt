use Rattle.std.proofs.Common.{rules}
use Rattle.actor_parts.proofs.following.is_of.Goals as goal

pub returns-then-transport-node : goal.returns-then-transport-node
returns-then-transport-node c = search rules
