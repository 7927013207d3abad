-- for private clauses: what a walk finds of a value, from whether some number is a float and how deep it nests
use Rattle.std.specs.Prelude.{ℕ, Bool, nat_le, if◌then◌else◌, ⊤}
use Rattle.wamp_values.specs.declared.fitness.Fitness.{Fitness}
use Rattle.wamp_values.specs.declared.fitness.Fitness.TheVariants.{Inexact, TooDeep, Fit}

abbrev pub fitness : Bool → ℕ → ℕ → Fitness
fitness floats nested room = if floats then Inexact else (if nat_le nested room then Fit else TooDeep)

-- the fact holds of a value whose numbers are all exact
abbrev pub IfExact : Fitness → Type 0 → Type 0
IfExact Inexact P = ⊤
IfExact TooDeep P = P
IfExact Fit P = P
