-- Texts that one glance shows to break no rule of URIs.
use Rattle.std.specs.Prelude.{ℕ, Bool, true, false, not, ◌&&◌, ◌==◌, nat_lt, List, [], ◌∷◌, if◌then◌else◌}

-- a visible character of ASCII but '#'
abbrev pub is_visible : ℕ → Bool
is_visible c = nat_lt 32 c && nat_lt c 127 && not (c == 35)

-- visible characters in components that dots part and that are not empty; at the start of a component or within one
abbrev pub is_plain : Bool → List ℕ → Bool
is_plain begins [] = not begins
is_plain begins (c ∷ cs) = if c == 46 then not begins && is_plain true cs else is_visible c && is_plain false cs
