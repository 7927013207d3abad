-- One element of a list in the place of another.
use Rattle.std.proofs.Common.{◌≡◌, ⊎_elim, ℕ, zero, suc, refl, sym, ap, ◌∙◌, subst, List, [], ◌∷◌, map, Some}
use Rattle.std.specs.Prelude.{slice_get, slice_set}
use Rattle.std.proofs.lemmas.Bool.{cases_eq}

pub get_set_same : {A : Type 0} (xs : List A) (i : ℕ) (x y : A) → slice_get xs i ≡ Some x → slice_get (slice_set xs i y) i ≡ Some y
get_set_same [] i x y h = absurd (cc)
get_set_same (a ∷ xs) zero x y h = refl
get_set_same (a ∷ xs) (suc i) x y h = get_set_same xs i x y h

pub get_set_other : {A : Type 0} (xs : List A) (i j : ℕ) (y : A) → (j ≡ i → ⊥) → slice_get (slice_set xs i y) j ≡ slice_get xs j
get_set_other [] i j y d = refl
get_set_other (a ∷ xs) zero zero y d = absurd (d refl)
get_set_other (a ∷ xs) zero (suc j) y d = refl
get_set_other (a ∷ xs) (suc i) zero y d = refl
get_set_other (a ∷ xs) (suc i) (suc j) y d = get_set_other xs i j y (λ e. d (ap suc e))

pub set_here : {A : Type 0} (xs : List A) (i : ℕ) (x : A) → slice_get xs i ≡ Some x → slice_set xs i x ≡ xs
set_here [] i x h = refl
set_here (a ∷ xs) zero x h = ap (λ z. z ∷ xs) (sym (some_eq h))
  where
    some_eq : {A : Type 0} {y z : A} → Some y ≡ Some z → y ≡ z
    some_eq e = cc
set_here (a ∷ xs) (suc i) x h = ap (λ zs. a ∷ zs) (set_here xs i x h)

pub some_same : {A : Type 0} {x y : A} → Some x ≡ Some y → x ≡ y
some_same e = cc

pub get_map : {A C : Type 0} (f : A → C) (xs : List A) (i : ℕ) (x : A) → slice_get xs i ≡ Some x → slice_get (map f xs) i ≡ Some (f x)
get_map f [] i x h = absurd (cc)
get_map f (a ∷ xs) zero x h = ap (λ z. Some (f z)) (some_same h)
get_map f (a ∷ xs) (suc i) x h = get_map f xs i x h

pub get_unmap : {A C : Type 0} (f : A → C) (xs : List A) (i : ℕ) (y : C) → slice_get (map f xs) i ≡ Some y
    → (x : A) × (slice_get xs i ≡ Some x) × (f x ≡ y)
get_unmap f [] i y h = absurd (cc)
get_unmap f (a ∷ xs) zero y h = (a, refl, some_same h)
get_unmap f (a ∷ xs) (suc i) y h = get_unmap f xs i y h

-- what holds of each element at its place holds still, if it holds of the new one at its
pub replaced : {A : Type 0} (P : ℕ → A → Type 0) (xs : List A) (i : ℕ) (x y : A) → slice_get xs i ≡ Some x
    → ((j : ℕ) (z : A) → slice_get xs j ≡ Some z → P j z) → P i y → (j : ℕ) (z : A) → slice_get (slice_set xs i y) j ≡ Some z → P j z
replaced {A} P xs i x y at all p j z g =
    ⊎_elim
    (λ (q : j ≡ i). subst (λ (k : ℕ × A). P k.0 k.1)
    (λ k. (sym q k, some_same (sym (get_set_same xs i x y at) ∙ (ap (λ l. slice_get (slice_set xs i y) l) (sym q) ∙ g)) k)) p)
    (λ n. all j z (sym (get_set_other xs i j y n) ∙ g))
    (cases_eq j i)
