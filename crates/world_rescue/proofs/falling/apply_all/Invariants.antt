use Rattle.std.proofs.Common.{◌≡◌, ℕ, drop}
use Rattle.replica_machine.specs.declared.roll.Standing.{Standing}
use Rattle.replica_machine.specs.Roll.{HasStandings, standings_from}
use Rattle.paxos_node.specs.Adopting.{pending_behind}
use Rattle.world_rescue.proofs.falling.apply_all.Given as goal

-- where the nodes stand so far, the rest gives what the whole gives
abbrev pub invariant-loop-entry : goal.invariant-loop-entry
invariant-loop-entry g l =
    (stands : ℕ → Standing) → HasStandings stands l.initial.roll
    → (now : ℕ → Standing) × HasStandings now l.roll
    × (standings_from now (drop l.entry-index l.entries) ≡ standings_from stands l.entries)
    × (pending_behind now (drop l.entry-index l.entries) l.pending.items ≡ pending_behind stands l.entries l.initial.pending.items)
