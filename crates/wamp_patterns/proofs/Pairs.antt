-- Two lists, element by element.
use Rattle.std.proofs.Common.{◌≡◌, ℕ, suc, Bool, true, false, ◌&&◌, List, [], ◌∷◌, length, eqb, refl, ap, sym, ◌∙◌, arith}
use Rattle.std.proofs.lemmas.Bool.Decides.{nat_tests}
use Rattle.std.specs.List.{list_all, zip}
use Rattle.std.specs.Cmp.Lexicographic.{pointwise}

pub pairs_pass : {A B : Type 0} (test : A → B → Bool) (xs : List A) (ys : List B) → length xs ≡ length ys
    → list_all (λ pair. test pair.0 pair.1) (zip xs ys) ≡ pointwise test xs ys
pairs_pass test [] [] e = refl
pairs_pass test [] (y ∷ ys) e = absurd (omega arith)
pairs_pass test (x ∷ xs) [] e = absurd (omega arith)
pairs_pass test (x ∷ xs) (y ∷ ys) e = ap (λ b. test x y && b) (pairs_pass test xs ys (omega arith))

apart : {A B : Type 0} (test : A → B → Bool) (xs : List A) (ys : List B) → (length xs ≡ length ys → ⊥) → pointwise test xs ys ≡ false
apart test [] [] n = absurd (n refl)
apart test [] (y ∷ ys) n = refl
apart test (x ∷ xs) [] n = refl
apart test (x ∷ xs) (y ∷ ys) n = and_false (test x y) (apart test xs ys (λ e. n (ap suc e)))
  where
    and_false : (a : Bool) {b : Bool} → b ≡ false → (a && b) ≡ false
    and_false true e = e
    and_false false e = refl

differ : (m n : ℕ) → (m ≡ n → ⊥) → eqb m n ≡ false
differ m n h = grind (arith, nat_tests)

pub none_of_two_lengths : {A B : Type 0} (test : A → B → Bool) (xs : List A) (ys : List B) (m n : ℕ) → m ≡ length xs → n ≡ length ys
    → (m ≡ n → ⊥) → eqb m n ≡ pointwise test xs ys
none_of_two_lengths test xs ys m n p q h = differ m n h ∙ sym (apart test xs ys (λ e. h (p ∙ e ∙ sym q)))
