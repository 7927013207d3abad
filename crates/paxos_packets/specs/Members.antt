-- Members, sets of nodes and majorities (Lamport 2001, section 2.1).
use Rattle.std.specs.Prelude.{ℕ, zero, suc, ◌+◌, ◌*◌, ◌<◌, ◌≤◌, Bool, true, false, ◌&&◌, nat_lt, nat_le, ◌==◌}
use Rattle.std.specs.Prelude.{List, [], ◌∷◌, ◌++◌, slice_index_or, slice_set, replicate, if◌then◌else◌}

-- how many of the nodes 1 to n the test names
abbrev pub count_nodes : (ℕ → Bool) → ℕ → ℕ
count_nodes test zero = 0
count_nodes test (suc n) = (if test (suc n) then 1 else 0) + count_nodes test n

-- more than half of the members
abbrev pub IsMajority : ℕ → (ℕ → Bool) → Type 0
IsMajority members test = members < 2 * count_nodes test members

abbrev pub is_majority : ℕ → (ℕ → Bool) → Bool
is_majority members test = nat_lt members (2 * count_nodes test members)

abbrev pub IsMember : ℕ → ℕ → Type 0
IsMember members k = (1 ≤ k) × (k ≤ members)

abbrev pub is_member : ℕ → ℕ → Bool
is_member members k = nat_le 1 k && nat_le k members

-- the other members, by ascending number
abbrev pub others : ℕ → ℕ → List ℕ
others me zero = []
others me (suc n) = others me n ++ (if suc n == me then [] else suc n ∷ [])

-- a set of nodes, as the list that says of each number from 0 to 7 whether it is in the set: no node, and whether one is in it
abbrev pub no_nodes : List Bool
no_nodes = replicate 8 false

abbrev pub is_in : List Bool → ℕ → Bool
is_in set node = slice_index_or set node false

-- with the node; a number above 7 is that of no node
abbrev pub set_with : List Bool → ℕ → List Bool
set_with set node = slice_set set node true
