use Rattle.std.proofs.Common.{◌≡◌, ◌++◌}
use Rattle.std.specs.Prelude.{filter}
use Rattle.std.specs.Vec.Iter.{into_iter_items}
use Rattle.actor_parts.specs.Handing.{is_of}
use Rattle.actor_parts.proofs.following.retain_own.Given as goal

abbrev pub invariant-loop-say : goal.invariant-loop-say
invariant-loop-say g l =
    l.says.items ++ filter (λ y. is_of l.node l.boot (g.M.Machine.steps.to y)) (into_iter_items l.say-iterator)
    ≡ l.initial.says.items ++ filter (λ y. is_of l.node l.boot (g.M.Machine.steps.to y)) l.fn.more.items
