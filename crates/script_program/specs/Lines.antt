-- Which lines a script spells, or its first bad line (docs/SCRIPTS.md, "Lines").
use Rattle.std.specs.Prelude.{◌≡◌, ℕ, ◌+◌, ◌==◌, List, [], ◌∷◌, length, Option, Some, None, Result, Ok, Err, if◌then◌else◌}
use Rattle.std.specs.List.{slice_split}
use Rattle.wamp_ids.specs.Id.{id_after}
use Rattle.realm_acts.specs.declared.act.Act.{Act}
use Rattle.realm_acts.specs.declared.act.Act.TheVariants.{Connect, Said, Hung}
use Rattle.script_program.specs.declared.lines.line.Line.{Line}
use Rattle.script_program.specs.declared.lines.line.Line.TheVariants as line
use Rattle.script_program.specs.declared.lines.LinesFault.{LinesFault}
use Rattle.script_program.specs.declared.lines.LinesFault.TheVariants as fault
use Rattle.script_program.specs.Line.{line_of}

-- the octets of the lines: what is before, between and after the line feeds; the last piece is empty if a line feed ends the text
abbrev pub pieces : List ℕ → List (List ℕ)
pieces octets = slice_split (λ octet. octet == 10) octets

-- the draw of the next line that says something: each such line has a draw to itself, whatever the others do
abbrev pub draw_behind_act : ℕ → Act → ℕ
draw_behind_act draw Connect = draw
draw_behind_act draw (Said d read) = id_after draw
draw_behind_act draw Hung = draw

abbrev pub draw_behind : ℕ → Line → ℕ
draw_behind draw (line.Take n t act) = draw_behind_act draw act
draw_behind draw (line.Tick n) = draw
draw_behind draw (line.Start n) = draw
draw_behind draw (line.Suspect n k) = draw
draw_behind draw (line.Deliver p) = draw
draw_behind draw (line.Cut n) = draw
draw_behind draw (line.Crash n) = draw
draw_behind draw (line.Restart n) = draw
draw_behind draw (line.Flush among) = draw

abbrev pub put_line : Line → Result (List Line) ℕ → Result (List Line) ℕ
put_line l (Ok ls) = Ok (l ∷ ls)
put_line l (Err number) = Err number

-- what a piece spells, and then what `go` says of the others, from this draw on
abbrev pub line_then : ℕ → ℕ → Option Line → (ℕ → Result (List Line) ℕ) → Result (List Line) ℕ
line_then draw number None go = Err number
line_then draw number (Some l) go = put_line l (go (draw_behind draw l))

-- from the piece with this number on; empty pieces are skipped, but counted
abbrev pub lines_from : ℕ → ℕ → ℕ → List (List ℕ) → Result (List Line) ℕ
lines_from members draw number [] = Ok []
lines_from members draw number (piece ∷ others) =
    if length piece == 0 then lines_from members draw (number + 1) others
    else line_then draw number (line_of members draw piece) (λ next. lines_from members next (number + 1) others)

-- all lines of the text, or the number of the first, from 1, that is neither empty nor an event
abbrev pub script_of : ℕ → List ℕ → Result (List Line) ℕ
script_of members octets = lines_from members 1 1 (pieces octets)

-- why there are no lines: this one is the first bad one, or memory ran out
abbrev pub FailsBy : LinesFault → Result (List Line) ℕ → Type 0
FailsBy (fault.NotAnEvent number) told = told ≡ Err number
FailsBy fault.Memory told = Unit {0}
