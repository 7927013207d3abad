use Rattle.std.proofs.Common.{◌≡◌, ◌++◌}
use Rattle.std.specs.Vec.Iter.{into_iter_items}
use Rattle.replica_follower.specs.Following.{said_in_boot}
use Rattle.replica_follower.proofs.picking.pick_all.Given as goal

-- with the rest there is picked what is picked with the whole
abbrev pub invariant-loop-say : goal.invariant-loop-say
invariant-loop-say g l =
    l.picked.items ++ said_in_boot g.M.Machine.steps.to l.node l.boot (into_iter_items l.say-iterator)
    ≡ l.initial.picked.items ++ said_in_boot g.M.Machine.steps.to l.node l.boot l.fn.says.items
