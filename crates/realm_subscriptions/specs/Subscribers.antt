-- Members in the order of joining, kept at places that are found by the session.
use Rattle.std.specs.Prelude.{ℕ, ◌==◌, Bool, List, [], ◌∷◌, Option, None, Some}
use Rattle.std.specs.Ordering.{nat_cmp}
use Rattle.realm_lists.specs.PlaceIndex.{place_at}

abbrev pub is_session : ℕ → ℕ → Bool
is_session session member = member == session

-- the place of a session
abbrev pub place_of : List (ℕ × ℕ) → ℕ → Option ℕ
place_of places session = place_at nat_cmp places session

-- the one, if there is one
abbrev pub one : Option ℕ → List ℕ
one None = []
one (Some session) = session ∷ []
