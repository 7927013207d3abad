use Rattle.std.proofs.Common.{rules}
use Rattle.node_actor.proofs.fetching.fetch_other.Goals as goal

pub returns-then-from-node-clause-fetched : goal.returns-then-from-node-clause-fetched
returns-then-from-node-clause-fetched g c = search rules
