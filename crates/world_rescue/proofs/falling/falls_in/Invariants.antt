use Rattle.std.proofs.Common.{◌≡◌, ℕ, drop}
use Rattle.paxos_node.specs.Applying.{has_end}
use Rattle.replica_machine.specs.declared.roll.Standing.{Standing}
use Rattle.replica_machine.specs.Roll.{HasStandings}
use Rattle.world_rescue.proofs.falling.falls_in.Given as goal

-- where the nodes stand so far, the rest has the loss if the whole has it
abbrev pub invariant-loop-entry : goal.invariant-loop-entry
invariant-loop-entry g l =
    (stands : ℕ → Standing) → HasStandings stands l.initial.roll
    → (now : ℕ → Standing) × HasStandings now l.roll
    × (has_end l.node l.boot (now l.node) (drop l.entry-index l.entries) ≡ has_end l.node l.boot (stands l.node) l.entries)
