-- The first registration that passes a test, changed at its place in the list.
use Rattle.std.proofs.Common.{◌≡◌, ℕ, zero, suc, ◌+◌, ◌<◌, ◌≤◌, Bool, true, false, List}
use Rattle.std.proofs.Common.{[], ◌∷◌, length, take, get_or, set, refl, sym, ap, ◌∙◌, arith}
use Rattle.std.proofs.Common.{Option, None, Some, find, subst}
use Rattle.std.specs.List.{All, AllPairs, list_any}
use Rattle.std.proofs.lemmas.Bool.{or_parts, cond-true, cond-false, cond_both}
use Rattle.std.proofs.lemmas.List.{take_all}
use Rattle.std.proofs.lemmas.List.Elements.{All-nil, All-cons, All-head, All-tail, All-weaker}
use Rattle.std.proofs.lemmas.List.Folds.{list_any_more}
use Rattle.std.proofs.lemmas.List.Kept.{AllPairs-cons}
use Rattle.realm_sessions.proofs.Pairs.{AllPairs-nil, AllPairs-head, AllPairs-tail}
use Rattle.realm_registrations.specs.declared.registration.Registration.{Registration}
use Rattle.realm_registrations.specs.Registrations.{change_first}

module _ (test : Registration → Bool) (change : Registration → Registration) where
  -- the one at this place is the first that passes
  pub changed_here : (list : List Registration) (place : ℕ) (d e : Registration) → place < length list
      → list_any test (take place list) ≡ false → test (get_or list place e) ≡ true
      → set list place (change (get_or list place d)) ≡ change_first test change list
  changed_here [] place d e within none on = absurd (omega arith)
  changed_here (x ∷ xs) zero d e within none on = sym (cond-true (test x) (change x ∷ xs) (x ∷ change_first test change xs) on)
  changed_here (x ∷ xs) (suc n) d e within none on =
      let parts = or_parts (test x) (list_any test (take n xs)) none in
      ap (λ (rest : List Registration). x ∷ rest) (changed_here xs n d e (omega arith) parts.1 on)
      ∙ sym (cond-false (test x) (change x ∷ xs) (x ∷ change_first test change xs) parts.0)

  -- none passes
  unchanged : (list : List Registration) → list_any test list ≡ false → change_first test change list ≡ list
  unchanged [] none = refl
  unchanged (x ∷ xs) none =
      let parts = or_parts (test x) (list_any test xs) none in
      cond-false (test x) (change x ∷ xs) (x ∷ change_first test change xs) parts.0
      ∙ ap (λ (rest : List Registration). x ∷ rest) (unchanged xs parts.1)

  pub unchanged_all : (list : List Registration) (place : ℕ) → length list ≤ place → list_any test (take place list) ≡ false
      → list ≡ change_first test change list
  unchanged_all list place past none = sym (unchanged list (rw (take_all place list past) at none))

-- the one at this place does not pass either
pub passed_over : (test : Registration → Bool) (list : List Registration) (place : ℕ) (d : Registration) → place < length list
    → list_any test (take place list) ≡ false → test (get_or list place d) ≡ false → list_any test (take (place + 1) list) ≡ false
passed_over test list place d within none off = rw (list_any_more test list place d within, none, off) refl

-- ---- what holds of each registration, and of each two, after a change of one

some_is : {x y : Registration} → Some x ≡ Some y → x ≡ y
some_is h = cc

none_is_none : {x : Registration} → None ≡ Some x → ⊥
none_is_none h = cc

module _ (test : Registration → Bool) (change : Registration → Registration) where
  pub All-change_first : (P : Registration → Type 0) → ((r : Registration) → P r → P (change r)) → (list : List Registration) → All P list
      → All P (change_first test change list)
  All-change_first P kept [] each = All-nil P
  All-change_first P kept (x ∷ xs) each =
      cond_both (test x) (change x ∷ xs) (x ∷ change_first test change xs) (All P)
      (λ _. All-cons P (change x) xs (kept x (All-head P x xs each)) (All-tail P x xs each))
      (λ _. All-cons P x (change_first test change xs) (All-head P x xs each) (All-change_first P kept xs (All-tail P x xs each)))

  pub AllPairs-change_first : (R : Registration → Registration → Type 0) → ((a b : Registration) → R a b → R (change a) b)
      → ((a b : Registration) → R a b → R a (change b)) → (list : List Registration) → AllPairs R list
      → AllPairs R (change_first test change list)
  AllPairs-change_first R first second [] pairs = AllPairs-nil R
  AllPairs-change_first R first second (x ∷ xs) pairs =
      let head = AllPairs-head R x xs pairs in
      let tail = AllPairs-tail R x xs pairs in
      cond_both (test x) (change x ∷ xs) (x ∷ change_first test change xs) (AllPairs R)
      (λ _. AllPairs-cons R (change x) xs (All-weaker (R x) (R (change x)) (λ b h. first x b h) xs head) tail)
      (λ _. AllPairs-cons R x (change_first test change xs) (All-change_first (R x) (λ b h. second x b h) xs head)
      (AllPairs-change_first R first second xs tail))

  here_or_later : (P : Registration → Type 0) (found x : Registration) (xs : List Registration) (b : Bool) → test x ≡ b
      → find test (x ∷ xs) ≡ Some found → (P found → P (change found)) → P x → All P xs
      → (find test xs ≡ Some found → All P (change_first test change xs)) → All P (change_first test change (x ∷ xs))
  here_or_later P found x xs true e is kept here each later =
      let same : x ≡ found = some_is (sym (cond-true (test x) (Some x) (find test xs) e) ∙ is) in
      rw (cond-true (test x) (change x ∷ xs) (x ∷ change_first test change xs) e)
      (All-cons P (change x) xs (subst (λ (r : Registration). P (change r)) (sym same) (kept (subst P same here))) each)
  here_or_later P found x xs false e is kept here each later =
      rw (cond-false (test x) (change x ∷ xs) (x ∷ change_first test change xs) e)
      (All-cons P x (change_first test change xs) here (later (sym (cond-false (test x) (Some x) (find test xs) e) ∙ is)))

  -- the one that is found is the one that is changed
  pub All-found_changed : (P : Registration → Type 0) (found : Registration) → (P found → P (change found)) → (list : List Registration)
      → find test list ≡ Some found → All P list → All P (change_first test change list)
  All-found_changed P found kept [] is each = absurd (none_is_none is)
  All-found_changed P found kept (x ∷ xs) is each =
      here_or_later P found x xs (test x) refl is kept (All-head P x xs each) (All-tail P x xs each)
      (λ later. All-found_changed P found kept xs later (All-tail P x xs each))

-- what holds of each holds of the one that is found
pub found_holds : (test : Registration → Bool) (P : Registration → Type 0) (found : Registration) (list : List Registration)
    → find test list ≡ Some found → All P list → P found
found_holds test P found [] is each = absurd (none_is_none is)
found_holds test P found (x ∷ xs) is each =
    cond_both (test x) (Some x) (find test xs) (λ (o : Option Registration). o ≡ Some found → P found)
    (λ _ here. subst P (some_is here) (All-head P x xs each))
    (λ _ later. found_holds test P found xs later (All-tail P x xs each)) is
