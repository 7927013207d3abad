use Rattle.std.proofs.Common.{◌≡◌, ◌+◌, length}
use Rattle.replica_follower.specs.Handed.{tellings}
use Rattle.replica_follower.proofs.tellings.next_in.Given as goal

-- none so far was handed anything
abbrev pub invariant-loop-turn : goal.invariant-loop-turn
invariant-loop-turn g l =
    (tellings l.left ≡ tellings l.initial.left) × (l._turn + length l.left ≡ length l.initial.left)
