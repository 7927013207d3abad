-- What the module `laws` states of the definitions beside it.
use Rattle.std.specs.Prelude.{◌≡◌, ℕ, Option, Some, List, ◌++◌}

-- values whose spellings, each with anything after it, are the same octets are one
abbrev pub AreApart : {A : Type 0} → (A → Option (List ℕ)) → Type 0
AreApart {A} spelling = (x y : A) (u v p q : List ℕ) → spelling x ≡ Some u → spelling y ≡ Some v → u ++ p ≡ v ++ q → x ≡ y
