use Rattle.std.proofs.Common.{◌≡◌, false, ◌+◌, ◌≤◌, ◌++◌, map, length, vec_len, vec_capacity, List}
use Rattle.std.specs.Vec.Iter.{into_iter_items}
use Rattle.paxos_packets.specs.declared.entry.Entry.{Entry}
use Rattle.replica_machine.specs.Log.{Begins, IsAt, machine_from}
use Rattle.replica_machine.specs.Replay.{sayings_by_slot}
use Rattle.replica_machine.specs.Roll.{IsRollOf}
use Rattle.replica_machine.proofs.steps.apply_all.Given as goal

-- the rest leads where the whole leads, and what is said of it is what is left to say
abbrev pub invariant-loop-entry : goal.invariant-loop-entry
invariant-loop-entry g l =
    let steps = g.M.Machine.steps in
    let content = g.M.Machine.content in
    (vec_len l.applied + length (into_iter_items l.entry-iterator) ≤ vec_capacity l.applied)
    × (vec_len l.said + length (into_iter_items l.entry-iterator) ≤ vec_capacity l.said)
    × (vec_len l.said + length (into_iter_items l.entry-iterator) ≡ vec_len l.initial.said + length l.fn.entries.items)
    × (l.applied.items ++ into_iter_items l.entry-iterator ≡ l.initial.applied.items ++ l.fn.entries.items)
    × Begins l.initial.applied.items l.applied.items
    × ((under : List (Entry g.row.M-Body.Denot)) → IsRollOf (under ++ l.initial.applied.items) l.initial.roll
    → IsRollOf (under ++ l.applied.items) l.roll)
    × ((first : g.M.Machine.Content) (under : List (Entry g.row.M-Body.Denot))
    → IsAt steps content first (under ++ l.initial.applied.items) l.initial.roll l.initial.machine
    → (IsAt steps content first (under ++ l.applied.items) l.roll l.machine)
    × (map (λ says. says.items) l.said.items ++ sayings_by_slot (machine_from steps first) (under
    ++ l.applied.items) (into_iter_items l.entry-iterator)
    ≡ map (λ says. says.items) l.initial.said.items
    ++ sayings_by_slot (machine_from steps first) (under ++ l.initial.applied.items) l.fn.entries.items))
    × (g.M.Machine.has_failed l.initial.machine ≡ false → g.M.Machine.has_failed l.machine ≡ false)
