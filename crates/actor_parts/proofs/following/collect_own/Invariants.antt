use Rattle.std.proofs.Common.{◌≡◌, ◌++◌}
use Rattle.std.specs.Vec.Iter.{into_iter_items}
use Rattle.actor_parts.proofs.Sayings.{own_in}
use Rattle.actor_parts.proofs.following.collect_own.Given as goal

abbrev pub invariant-loop-more : goal.invariant-loop-more
invariant-loop-more g l =
    l.says.items ++ own_in g.M.Machine.steps.to l.node l.boot (into_iter_items l.more-iterator)
    ≡ own_in g.M.Machine.steps.to l.node l.boot l.fn.said.items
