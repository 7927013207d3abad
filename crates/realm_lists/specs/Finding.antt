-- Members found by keys: a look-up gives the place of the member that passes the test of a key.
use Rattle.std.specs.Prelude.{◌≡◌, ℕ, Bool, true, false, List, Option, None, Some, if◌then◌else◌}
use Rattle.std.specs.List.{All}
use Rattle.std.specs.Ordering.{nat_cmp}
use Rattle.std.specs.List.Sorted.{IsStrictlySortedBy}
use Rattle.std.specs.Map.{keys_of}
use Rattle.realm_lists.specs.OrderedList.{member_at}

-- the places rise from each member to the next
abbrev pub AreRising : {T : Type 0} → List (ℕ × T) → Type 0
AreRising rows = IsStrictlySortedBy nat_cmp (keys_of rows)

-- each member that passes the test is at this place
abbrev pub Leads : {T : Type 0} → (T → Bool) → Option ℕ → List (ℕ × T) → Type 0
Leads {T} test place rows = All (λ (row : ℕ × T). test row.1 ≡ true → place ≡ Some row.0) rows

-- each member that passes the test of a key is at the key's place
abbrev pub Finds : {K T : Type 0} → (K → T → Bool) → (K → Option ℕ) → List (ℕ × T) → Type 0
Finds {K} test place_of rows = (key : K) → Leads (test key) (place_of key) rows

-- the member, if it passes the test
abbrev pub passing : {T : Type 0} → (T → Bool) → Option T → Option T
passing test None = None
passing test (Some member) = if test member then Some member else None

-- the member at this place, if there is one that passes the test
abbrev pub found_at : {T : Type 0} → (T → Bool) → Option ℕ → List (ℕ × T) → Option T
found_at test None rows = None
found_at test (Some place) rows = passing test (member_at place rows)

abbrev pub is_passing : {T : Type 0} → (T → Bool) → Option T → Bool
is_passing test None = false
is_passing test (Some member) = test member

-- at the place that a key's look-up gives is a member that passes the key's test
abbrev pub Tells : {K T : Type 0} → (K → T → Bool) → (K → Option ℕ) → List (ℕ × T) → Type 0
Tells {K} test place_of rows =
    (key : K) (place : ℕ) → place_of key ≡ Some place → is_passing (test key) (member_at place rows) ≡ true

-- the look-up gives all members by their keys, and nothing else
pub record IsIndex {K T : Type 0} (test : K → T → Bool) (place_of : K → Option ℕ) (rows : List (ℕ × T)) : Type 0 where
  pub found : Finds test place_of rows
  pub told : Tells test place_of rows
