use Rattle.std.proofs.Common.{◌≡◌, ◌++◌, drop}
use Rattle.replica_follower.proofs.telling.copies.Given as goal

-- with the rest there are copies of all
abbrev pub invariant-loop-entry : goal.invariant-loop-entry
invariant-loop-entry g l = l.copies.items ++ drop l.entry-index l.entries ≡ l.entries
