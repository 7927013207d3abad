use Rattle.std.proofs.Common.{rules}
use Rattle.replica_follower.proofs.picking.pick.Goals as goal

pub returns-then-to-node : goal.returns-then-to-node
returns-then-to-node g c = search rules

pub returns : goal.returns
returns g c = search rules
