use Rattle.std.proofs.Common.{◌≡◌, ◌+◌, ◌++◌, length}
use Rattle.cluster_world.specs.Told.{tell_members}
use Rattle.cluster_world.proofs.handings.next_in.Given as goal

-- none so far was handed anything
abbrev pub invariant-loop-turn : goal.invariant-loop-turn
invariant-loop-turn g l =
    (l.here ++ tell_members l.left.now ≡ l.initial.here ++ tell_members l.initial.left.now)
    × (l._turn + length l.left.now ≡ length l.initial.left.now)
