use Rattle.std.proofs.Common.{◌≡◌, ◌+◌, ◌≤◌, suc, length}
use Rattle.std.specs.Option.{option_map_or, option_map}
use Rattle.script_program.specs.Lines.{lines_from, script_of}
use Rattle.script_program.specs.Putting.{pieces_behind, behind}
use Rattle.script_program.proofs.lines.put_lines.Given as goal

abbrev pub invariant-pieces : goal.invariant-pieces
invariant-pieces l =
    (behind l.lines.items (lines_from l.members l.draw l.number (pieces_behind (option_map (λ text. text.now) l.rest)))
    ≡ behind l.fn.lines.items (script_of l.members l.fn.text))
    × (l.number + option_map_or (λ text. suc (length text.now)) l.rest 0 ≤ length l.fn.text + 2)

abbrev pub decreases-pieces : goal.decreases-pieces
decreases-pieces l = option_map_or (λ text. suc (length text.now)) l.rest 0
