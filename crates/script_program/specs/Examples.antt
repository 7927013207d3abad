-- Lines and scripts by hand, in a cluster of three nodes.
use Rattle.std.specs.Prelude.{ℕ, Bool, List, [], ◌∷◌, ◌++◌, Option, Result, codes, is_some, map}
use Rattle.script_program.specs.declared.lines.line.Line.{Line}
use Rattle.script_program.specs.Line.{line_of}
use Rattle.script_program.specs.Lines.{script_of}

-- what these octets spell with draw 1
abbrev pub spelled : List ℕ → Option Line
spelled octets = line_of 3 1 octets

abbrev pub are_events : List (List ℕ) → List Bool
are_events lines = map (λ octets. is_some (spelled octets)) lines

abbrev pub lines : List ℕ → Result (List Line) ℕ
lines octets = script_of 3 octets

-- what is not an event: numbers that are malformed or out of range, too few or too many words, spaces, and a carriage return
abbrev pub no_events : List (List ℕ)
no_events =
    codes "take 1 0 connect" ∷ codes "take 1 4294967296 connect" ∷ codes "take 4 1 connect" ∷ codes "take 1 1 say" ∷ codes "take 1 1 connect "
    ∷ codes "take 01 1 connect" ∷ codes "tick  1" ∷ (codes "tick 1" ++ 13 ∷ []) ∷ codes "deliver 0" ∷ codes "deliver 18446744073709551616"
    ∷ codes "cut" ∷ codes "cut 1 2" ∷ codes "flush " ∷ codes "flush 4" ∷ codes " " ∷ codes "jump 1" ∷ (codes "tick 1" ++ 255 ∷ []) ∷ []

-- an event, an empty line, and a line that is not an event
abbrev pub bad_third : List ℕ
bad_third = codes "start 1" ++ 10 ∷ 10 ∷ codes "jump 1"

-- two clients connect and say something, and one of them hangs up between
abbrev pub said_twice : List ℕ
said_twice =
    codes "take 1 1 connect" ++ 10 ∷ (codes "take 1 1 say {" ++ 10 ∷ (codes "take 1 1 hung" ++ 10 ∷ (codes "take 2 1 say [" ++ 10 ∷ [])))
