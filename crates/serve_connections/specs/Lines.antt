-- Which lines a porter writes on its clients (docs/OPERATING.md, "Floods, full nodes, and no memory").
use Rattle.std.specs.Prelude.{ℕ, nat_lt, Bool}

-- whether one more client is told of in a line of its own, if so many were within a second for the same cause; if not it is counted
abbrev pub is_told : ℕ → Bool
is_told told = nat_lt told 10
