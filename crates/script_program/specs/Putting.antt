-- Lines that are appended to others. This is for private clauses.
use Rattle.std.specs.Prelude.{◌≡◌, ℕ, Bool, true, false, List, [], ◌∷◌, ◌++◌, Option, Some, None, Result, Ok, Err}
use Rattle.script_program.specs.declared.lines.line.Line.{Line}
use Rattle.script_program.specs.declared.lines.LinesFault.{LinesFault}
use Rattle.script_program.specs.declared.lines.LinesFault.TheVariants as fault
use Rattle.script_program.specs.Lines.{pieces, draw_behind}

-- the pieces after the first, if there is something after it
abbrev pub pieces_behind : Option (List ℕ) → List (List ℕ)
pieces_behind None = []
pieces_behind (Some rest) = pieces rest

-- what a text spells, if these lines were spelled before
abbrev pub behind : List Line → Result (List Line) ℕ → Result (List Line) ℕ
behind before (Ok more) = Ok (before ++ more)
behind before (Err number) = Err number

-- the lines are all that the text spells, or this is its first bad line
abbrev pub Puts : Result (Unit {0}) LinesFault → Result (List Line) ℕ → List Line → Type 0
Puts (Ok x) told lines = told ≡ Ok lines
Puts (Err (fault.NotAnEvent number)) told lines = told ≡ Err number
Puts (Err fault.Memory) told lines = Unit {0}

-- the line that was spelled, if one was, is appended to the others, and the next draw is known
abbrev pub PutsLine : Bool → Option Line → ℕ → ℕ → List Line → List Line → Type 0
PutsLine true spelled draw next old new = (l : Line) × (spelled ≡ Some l) × (next ≡ draw_behind draw l) × (new ≡ old ++ l ∷ [])
PutsLine false spelled draw next old new = spelled ≡ None
