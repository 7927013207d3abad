use Rattle.std.proofs.Common.{◌≡◌, ◌++◌}
use Rattle.std.specs.Vec.Iter.{into_iter_items}
use Rattle.actor_parts.specs.Tried.{IsReady, TakesAll}
use Rattle.actor_parts.proofs.TakingOver.{StaysElse}
use Rattle.actor_parts.proofs.parts.Parts.take_over_all.Given as goal

abbrev pub invariant-loop-one : goal.invariant-loop-one
invariant-loop-one g l =
    TakesAll g.M.Machine.steps g.M.Machine.content l.boot l.yielded l.initial.self l.self l.initial.says.items l.says.items l.done
    × IsReady g.M.Machine.steps g.M.Machine.content l.self l.done × StaysElse l.initial.self l.self
    × (l.yielded ++ into_iter_items l.one-iterator ≡ l.fn.staged.tried)
