-- Places by keys.
use Rattle.std.specs.Prelude.{ℕ, ◌==◌, Bool, ◌&&◌, List, filter, Option}
use Rattle.std.specs.declared.cmp.Ordering.{Ordering}
use Rattle.std.specs.Ordering.{nat_cmp, ordering_then}
use Rattle.std.specs.BTreeMap.{is_at}
use Rattle.std.specs.Map.{lookup, values_of}

abbrev pub pair_cmp : ℕ × ℕ → ℕ × ℕ → Ordering
pair_cmp a b = ordering_then (nat_cmp a.0 b.0) (nat_cmp a.1 b.1)

abbrev pub is_key : ℕ × ℕ → ℕ × ℕ → Bool
is_key a b = (a.0 == b.0) && (a.1 == b.1)

-- the place of a key
abbrev pub place_at : {K : Type 0} → (K → K → Ordering) → List (K × ℕ) → K → Option ℕ
place_at cmp entries key = lookup (is_at (cmp key)) entries

-- the place of a key of two numbers
abbrev pub place_of : List ((ℕ × ℕ) × ℕ) → ℕ × ℕ → Option ℕ
place_of entries key = place_at pair_cmp entries key

-- the places of the keys that begin with this number
abbrev pub places_under : List ((ℕ × ℕ) × ℕ) → ℕ → List ℕ
places_under entries first = values_of (filter (λ entry. entry.0.0 == first) entries)
