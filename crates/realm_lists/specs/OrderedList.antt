-- Members at places: numbers that rise from each member to the next.
use Rattle.std.specs.Prelude.{ℕ, ◌+◌, ◌-◌, ◌<◌, nat_eq, Bool, List, length, filter, Option, None, Some, slice_get}
use Rattle.std.specs.List.{All, list_any}
use Rattle.std.specs.Ordering.{nat_cmp}
use Rattle.std.specs.BTreeMap.{is_at}
use Rattle.std.specs.Map.{lookup, remove_entry, set_value, values_of}

-- each member is before this place
abbrev pub IsAbove : {T : Type 0} → ℕ → List (ℕ × T) → Type 0
IsAbove place rows = All (λ row. row.0 < place) rows

abbrev pub place_behind : {T : Type 0} → Option (ℕ × T) → ℕ
place_behind None = 0
place_behind (Some row) = row.0 + 1

-- the place after the last member
abbrev pub next_place : {T : Type 0} → List (ℕ × T) → ℕ
next_place rows = place_behind (slice_get rows (length rows - 1))

-- the members in order
abbrev pub members : {T : Type 0} → List (ℕ × T) → List T
members rows = values_of rows

-- the member at a place
abbrev pub member_at : {T : Type 0} → ℕ → List (ℕ × T) → Option T
member_at place rows = lookup (is_at (nat_cmp place)) rows

-- without the member at a place
abbrev pub without : {T : Type 0} → ℕ → List (ℕ × T) → List (ℕ × T)
without place rows = remove_entry (is_at (nat_cmp place)) rows

-- with another member at a place that has one
abbrev pub with_member : {T : Type 0} → ℕ → T → List (ℕ × T) → List (ℕ × T)
with_member place member rows = set_value (is_at (nat_cmp place)) rows member

abbrev pub has_place : List ℕ → ℕ → Bool
has_place places place = list_any (nat_eq place) places

-- the members at these places, in order
abbrev pub members_at : {T : Type 0} → List ℕ → List (ℕ × T) → List (ℕ × T)
members_at places rows = filter (λ row. has_place places row.0) rows
