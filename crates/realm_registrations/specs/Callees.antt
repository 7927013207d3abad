-- Callees: one alone, or those that take turns, kept as a list and a cursor.
use Rattle.std.specs.Prelude.{ℕ, List, [], ◌∷◌, ◌++◌, take, drop, Option, None, Some}

-- from the cursor on, and then those before it
abbrev pub seen : ℕ → List ℕ → List ℕ
seen cursor list = drop cursor list ++ take cursor list

-- the one, if there is one
abbrev pub one : Option ℕ → List ℕ
one None = []
one (Some session) = session ∷ []
