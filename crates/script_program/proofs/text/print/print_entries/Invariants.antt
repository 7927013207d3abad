use Rattle.std.proofs.Common.{◌≡◌, ◌+◌, ◌++◌, List, take}
use Rattle.paxos_packets.specs.declared.entry.Entry.{Entry}
use Rattle.replica_machine.specs.Effects.{effects_from}
use Rattle.replica_machine.specs.Roll.{IsRollOf}
use Rattle.script_program.specs.Text.{log_from}
use Rattle.script_program.specs.Printing.{Underway}
use Rattle.script_program.proofs.Appending.{lines_left}
use Rattle.script_program.proofs.text.print.print_entries.Given as goal

abbrev pub invariant-loop-entry : goal.invariant-loop-entry
invariant-loop-entry g l =
    (l.slot ≡ l.floor + l.entry-index)
    × ((under : List (Entry _)) → IsRollOf under l.fn.at_floor →
    IsRollOf (under ++ take l.entry-index l.log) l.roll
    × Underway (g.W.Write.contents l.fn.writer) (g.W.Write.contents l.writer) l.fn.out.items l.out.items
    (log_from (l.floor + 1) l.log (effects_from under l.log)) (lines_left (l.slot + 1) under l.log l.entry-index))
