use Rattle.std.proofs.Common.{◌≡◌, ◌++◌}
use Rattle.std.specs.List.{flat_map}
use Rattle.std.specs.Vec.Iter.{into_iter_items}
use Rattle.replica_follower.specs.Following.{said_in_boot}
use Rattle.replica_follower.proofs.picking.picked.Given as goal

-- with the rest there is picked what is picked of the whole
abbrev pub invariant-loop-says : goal.invariant-loop-says
invariant-loop-says g l =
    l.picked.items ++ said_in_boot g.M.Machine.steps.to l.node l.boot (flat_map (λ says. says.items) (into_iter_items l.says-iterator))
    ≡ said_in_boot g.M.Machine.steps.to l.node l.boot (flat_map (λ says. says.items) l.fn.said.items)
