-- Sets of ids by sessions.
use Rattle.std.specs.Prelude.{ℕ, Bool, List, []}
use Rattle.std.specs.List.{list_any}
use Rattle.std.specs.Option.{unwrap_or}
use Rattle.std.specs.Ordering.{nat_cmp}
use Rattle.std.specs.BTreeMap.{is_at}
use Rattle.std.specs.Map.{lookup}

-- the ids of a session, which rise
abbrev pub ids_of : List (ℕ × List ℕ) → ℕ → List ℕ
ids_of sets session = unwrap_or (lookup (is_at (nat_cmp session)) sets) []

-- two ids are one
abbrev pub is_id : ℕ → ℕ → Bool
is_id id other = is_at (nat_cmp id) other

abbrev pub has_id_in : List ℕ → ℕ → Bool
has_id_in ids id = list_any (is_id id) ids
