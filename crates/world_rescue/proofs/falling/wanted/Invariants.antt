use Rattle.std.proofs.Common.{◌≡◌, ℕ, ◌++◌, drop}
use Rattle.std.specs.Prelude.{filter}
use Rattle.replica_machine.specs.declared.roll.Standing.{Standing}
use Rattle.replica_machine.specs.Roll.{HasStandings, is_wanted_by}
use Rattle.world_rescue.proofs.falling.wanted.Given as goal

-- what is listed and what is wanted of the rest is all
abbrev pub invariant-loop-entry : goal.invariant-loop-entry
invariant-loop-entry g l =
    (stands : ℕ → Standing) → HasStandings stands l.roll
    → l.entries ++ filter (is_wanted_by stands) (drop l.entry-index l.pending) ≡ filter (is_wanted_by stands) l.pending
