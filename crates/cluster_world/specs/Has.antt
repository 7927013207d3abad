-- Being in a list.
use Rattle.std.specs.Prelude.{List, ◌∷◌}

-- x is in the list
pub data Has {A : Type 0} : List A → A → Type 0 where
  here : {x : A} {xs : List A} → Has (x ∷ xs) x
  there : {x y : A} {xs : List A} → Has xs x → Has (y ∷ xs) x
