-- Sessions by their ids, in the order in which they joined: the callees of a registration, the members of a subscription.
use Rattle.std.specs.Prelude.{ℕ, ◌==◌, nat_lt, Bool, not, List, [], ◌∷◌, ◌++◌, length, filter}
use Rattle.std.specs.List.{list_any}

abbrev pub has_member : ℕ → List ℕ → Bool
has_member session members = list_any (λ member. member == session) members

abbrev pub has_members : List ℕ → Bool
has_members members = nat_lt 0 (length members)

-- the session comes as the last one
abbrev pub joined : ℕ → List ℕ → List ℕ
joined session members = members ++ session ∷ []

-- the members but this session
abbrev pub others : ℕ → List ℕ → List ℕ
others session members = filter (λ member. not (member == session)) members

-- the first comes after the last
abbrev pub rotated : List ℕ → List ℕ
rotated [] = []
rotated (first ∷ rest) = rest ++ first ∷ []
