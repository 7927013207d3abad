use Rattle.std.proofs.Common.{◌≡◌, ◌++◌, drop}
use Rattle.world_rescue.proofs.falling.copied.Given as goal

-- what is copied and the rest is all
abbrev pub invariant-loop-entry : goal.invariant-loop-entry
invariant-loop-entry g l = l.copies.items ++ drop l.entry-index l.entries ≡ l.entries
