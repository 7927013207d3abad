-- Facts of each element of a list, and of each two, through a map, a search and a test.
use Rattle.std.proofs.Common.{◌≡◌, zero, suc, Bool, true, false, List, [], ◌∷◌, map, find, None, Some, refl, sym, subst, ◌∙◌, arith}
use Rattle.std.specs.List.{All, AllPairs, list_any}
use Rattle.std.proofs.lemmas.Bool.{or_parts, cond-true, cond-false, both_ways}
use Rattle.std.proofs.lemmas.List.Elements.{All-nil, All-cons, All-head, All-tail, All-map, All-weaker}
use Rattle.std.proofs.lemmas.List.Kept.{AllPairs-cons}

pub AllPairs-nil : {X : Type 0} (R : X → X → Type 0) → AllPairs R []
AllPairs-nil R i j d before within = absurd (omega arith)

pub AllPairs-head : {X : Type 0} (R : X → X → Type 0) (x : X) (xs : List X) → AllPairs R (x ∷ xs) → All (R x) xs
AllPairs-head R x xs h k d within = h zero (suc k) d (omega arith) (omega arith)

pub AllPairs-tail : {X : Type 0} (R : X → X → Type 0) (x : X) (xs : List X) → AllPairs R (x ∷ xs) → AllPairs R xs
AllPairs-tail R x xs h i j d before within = h (suc i) (suc j) d (omega arith) (omega arith)

pub All-both : {X : Type 0} (P Q : X → Type 0) (xs : List X) → All P xs → All Q xs → All (λ x. P x × Q x) xs
All-both P Q xs h g k d within = (h k d within, g k d within)

-- what holds of each two holds of their images, where each is as P says
pub AllPairs-map : {X Y : Type 0} (f : X → Y) (P : X → Type 0) (R : X → X → Type 0) (Q : Y → Y → Type 0)
    → ((a b : X) → P a → P b → R a b → Q (f a) (f b)) → (xs : List X) → All P xs → AllPairs R xs → AllPairs Q (map f xs)
AllPairs-map f P R Q image [] each pairs = AllPairs-nil Q
AllPairs-map {X} f P R Q image (x ∷ xs) each pairs =
    let here = All-head P x xs each in
    let both = All-both P (R x) xs (All-tail P x xs each) (AllPairs-head R x xs pairs) in
    AllPairs-cons Q (f x) (map f xs)
    (All-map (Q (f x)) f xs (All-weaker (λ (y : X). P y × R x y) (λ (y : X). Q (f x) (f y)) (λ y h. image x y here h.0 h.1) xs both))
    (AllPairs-map f P R Q image xs (All-tail P x xs each) (AllPairs-tail R x xs pairs))

-- a test that none passes
pub All-none : {X : Type 0} (test : X → Bool) (xs : List X) → list_any test xs ≡ false → All (λ x. test x ≡ false) xs
All-none test [] h = All-nil (λ x. test x ≡ false)
All-none test (x ∷ xs) h =
    let parts = or_parts (test x) (list_any test xs) h in
    All-cons (λ x. test x ≡ false) x xs parts.0 (All-none test xs parts.1)

some_is : {X : Type 0} {x y : X} → Some x ≡ Some y → x ≡ y
some_is h = cc

not_found_here : {X : Type 0} (test : X → Bool) (x : X) (xs : List X) (b : Bool) → test x ≡ b → find test (x ∷ xs) ≡ None
    → (find test xs ≡ None → All (λ x. test x ≡ false) xs) → All (λ x. test x ≡ false) (x ∷ xs)
not_found_here {X} test x xs true e h rest =
    let found : Some x ≡ None = sym (cond-true (test x) (Some x) (find test xs) e) ∙ h in
    absurd (differ found)
  where
    differ : {x : X} → Some x ≡ None → ⊥
    differ p = cc
not_found_here test x xs false e h rest =
    All-cons (λ x. test x ≡ false) x xs e (rest (sym (cond-false (test x) (Some x) (find test xs) e) ∙ h))

-- nothing passes a test that finds nothing
pub All-not_found : {X : Type 0} (test : X → Bool) (xs : List X) → find test xs ≡ None → All (λ x. test x ≡ false) xs
All-not_found test [] h = All-nil (λ x. test x ≡ false)
All-not_found test (x ∷ xs) h = not_found_here test x xs (test x) refl h (All-not_found test xs)

found_here : {X : Type 0} (test : X → Bool) (Q : X → Type 0) (x : X) (xs : List X) (found : X) (b : Bool) → test x ≡ b
    → find test (x ∷ xs) ≡ Some found → Q found → All (λ y. test x ≡ true → test y ≡ true → ⊥) xs
    → (find test xs ≡ Some found → All (λ x. test x ≡ true → Q x) xs) → All (λ x. test x ≡ true → Q x) (x ∷ xs)
found_here test Q x xs found true e h q one rest =
    let is : x ≡ found = some_is (sym (cond-true (test x) (Some x) (find test xs) e) ∙ h) in
    All-cons (λ x. test x ≡ true → Q x) x xs (λ _. subst Q (sym is) q)
    (All-weaker (λ y. test x ≡ true → test y ≡ true → ⊥) (λ y. test y ≡ true → Q y) (λ y apart passes. absurd (apart e passes)) xs one)
found_here test Q x xs found false e h q one rest =
    All-cons (λ x. test x ≡ true → Q x) x xs (λ passes. absurd (both_ways (test x) e passes))
    (rest (sym (cond-false (test x) (Some x) (find test xs) e) ∙ h))

-- if no two pass the test, only the element that is found passes it
pub All-found : {X : Type 0} (test : X → Bool) (Q : X → Type 0) (xs : List X) (found : X) → find test xs ≡ Some found → Q found
    → AllPairs (λ a b. test a ≡ true → test b ≡ true → ⊥) xs → All (λ x. test x ≡ true → Q x) xs
All-found test Q [] found e q one = All-nil (λ x. test x ≡ true → Q x)
All-found test Q (x ∷ xs) found e q one =
    found_here test Q x xs found (test x) refl e q (AllPairs-head (λ a b. test a ≡ true → test b ≡ true → ⊥) x xs one)
    (λ h. All-found test Q xs found h q (AllPairs-tail (λ a b. test a ≡ true → test b ≡ true → ⊥) x xs one))

-- what holds of each two holds of each two of a weaker fact
pub AllPairs-weaker : {X : Type 0} (R Q : X → X → Type 0) → ((a b : X) → R a b → Q a b) → (xs : List X) → AllPairs R xs → AllPairs Q xs
AllPairs-weaker R Q weaker xs h i j d before within = weaker _ _ (h i j d before within)
