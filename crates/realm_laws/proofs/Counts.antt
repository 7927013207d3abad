-- How many elements of a list pass a test.
use Rattle.std.proofs.Common.{◌≡◌, ℕ, ◌+◌, ◌≤◌, Bool, true, false, refl, ap, List, [], ◌∷◌, ◌++◌}
use Rattle.std.proofs.Common.{filter, arith}
use Rattle.std.specs.List.{AllPairs, flat_map}
use Rattle.std.proofs.lemmas.Bool.{cond_both, both_ways, false_from_ne_true}
use Rattle.realm_sessions.proofs.Pairs.{AllPairs-head, AllPairs-tail}
use Rattle.realm_laws.proofs.Has.{Has, in_front, further, All-has}

abbrev pub bit : Bool → ℕ
bit true = 1
bit false = 0

abbrev pub count : {A : Type 0} → (A → Bool) → List A → ℕ
count p [] = 0
count p (x ∷ xs) = bit (p x) + count p xs

pub bit_le : (a b : Bool) → (a ≡ true → b ≡ true) → bit a ≤ bit b
bit_le true b h = let e : bit b ≡ 1 = ap bit (h refl) in omega (arith, e)
bit_le false b h = omega arith

pub bit_one : (a : Bool) → bit a ≤ 1
bit_one true = omega arith
bit_one false = omega arith

pub bit_true : {a : Bool} → a ≡ true → bit a ≡ 1
bit_true e = ap bit e

pub bit_false : {a : Bool} → a ≡ false → bit a ≡ 0
bit_false e = ap bit e

pub count_append : {A : Type 0} (p : A → Bool) (xs ys : List A) → count p (xs ++ ys) ≡ count p xs + count p ys
count_append p [] ys = omega arith
count_append p (x ∷ xs) ys =
    let rest : count p (xs ++ ys) ≡ count p xs + count p ys = count_append p xs ys in omega (arith, rest)

pub count_le : {A : Type 0} (p q : A → Bool) (xs : List A) → ((x : A) → Has xs x → p x ≡ true → q x ≡ true)
    → count p xs ≤ count q xs
count_le p q [] h = omega arith
count_le p q (x ∷ xs) h =
    let first : bit (p x) ≤ bit (q x) = bit_le (p x) (q x) (h x in_front) in
    let rest : count p xs ≤ count q xs = count_le p q xs (λ y g. h y (further g)) in
    omega (arith, first, rest)

pub count_none : {A : Type 0} (p : A → Bool) (xs : List A) → ((x : A) → Has xs x → p x ≡ true → ⊥) → count p xs ≡ 0
count_none p [] h = refl
count_none p (x ∷ xs) h =
    let first : bit (p x) ≡ 0 = ap bit (false_from_ne_true (p x) (h x in_front)) in
    let rest : count p xs ≡ 0 = count_none p xs (λ y g. h y (further g)) in
    omega (arith, first, rest)

-- no two pass both
pub count_once : {A : Type 0} (p : A → Bool) (R : A → A → Type 0) (xs : List A) → AllPairs R xs
    → ((x y : A) → R x y → p x ≡ true → p y ≡ true → ⊥) → count p xs ≤ 1
count_once p R [] pairs h = omega arith
count_once p R (x ∷ xs) pairs h =
    let rest : count p xs ≤ 1 = count_once p R xs (AllPairs-tail R x xs pairs) h in by (p x) refl rest
  where
    by : (b : Bool) → p x ≡ b → count p xs ≤ 1 → bit b + count p xs ≤ 1
    by true e rest =
        let none : count p xs ≡ 0 =
        count_none p xs (λ y g passes. h x y (All-has (R x) (AllPairs-head R x xs pairs) g) e passes) in
        omega (arith, none)
    by false e rest = omega (arith, rest)

pub count_filter : {A : Type 0} (p q : A → Bool) (xs : List A) → count p (filter q xs) ≤ count p xs
count_filter p q [] = omega arith
count_filter p q (x ∷ xs) =
    let rest : count p (filter q xs) ≤ count p xs = count_filter p q xs in
    cond_both (q x) (x ∷ filter q xs) (filter q xs) (λ kept. count p kept ≤ bit (p x) + count p xs)
    (λ _. omega (arith, rest)) (λ _. omega (arith, rest))

-- of two tests that nothing passes both of
pub count_split : {A : Type 0} (p q w : A → Bool) (xs : List A) → ((x : A) → q x ≡ true → w x ≡ true → ⊥)
    → count p (filter q xs) + count p (filter w xs) ≤ count p xs
count_split p q w [] apart = omega arith
count_split p q w (x ∷ xs) apart =
    let rest : count p (filter q xs) + count p (filter w xs) ≤ count p xs = count_split p q w xs apart in
    cond_both (q x) (x ∷ filter q xs) (filter q xs)
    (λ kept. count p kept + count p (filter w (x ∷ xs)) ≤ bit (p x) + count p xs)
    (λ t. cond_both (w x) (x ∷ filter w xs) (filter w xs)
    (λ kept. (bit (p x) + count p (filter q xs)) + count p kept ≤ bit (p x) + count p xs)
    (λ u. absurd (apart x t u)) (λ _. omega (arith, rest)))
    (λ _. cond_both (w x) (x ∷ filter w xs) (filter w xs)
    (λ kept. count p (filter q xs) + count p kept ≤ bit (p x) + count p xs)
    (λ _. omega (arith, rest)) (λ _. omega (arith, rest)))

-- an element that the filter takes out
pub count_less : {A : Type 0} (p q : A → Bool) (xs : List A) (x : A) → Has xs x → q x ≡ false
    → bit (p x) + count p (filter q xs) ≤ count p xs
count_less p q _ x (in_front {xs = xs}) off =
    let rest : count p (filter q xs) ≤ count p xs = count_filter p q xs in
    cond_both (q x) (x ∷ filter q xs) (filter q xs) (λ kept. bit (p x) + count p kept ≤ bit (p x) + count p xs)
    (λ t. absurd (both_ways (q x) off t)) (λ _. omega (arith, rest))
count_less p q _ x (further {y = y} {xs = xs} h) off =
    let rest : bit (p x) + count p (filter q xs) ≤ count p xs = count_less p q xs x h off in
    cond_both (q y) (y ∷ filter q xs) (filter q xs) (λ kept. bit (p x) + count p kept ≤ bit (p y) + count p xs)
    (λ _. omega (arith, rest)) (λ _. omega (arith, rest))

pub count_flat : {A B : Type 0} (q : B → Bool) (p : A → Bool) (f : A → List B) (xs : List A)
    → ((x : A) → count q (f x) ≤ bit (p x)) → count q (flat_map f xs) ≤ count p xs
count_flat q p f [] h = omega arith
count_flat q p f (x ∷ xs) h =
    let first : count q (f x) ≤ bit (p x) = h x in
    let rest : count q (flat_map f xs) ≤ count p xs = count_flat q p f xs h in
    let both : count q (f x ++ flat_map f xs) ≡ count q (f x) + count q (flat_map f xs) =
    count_append q (f x) (flat_map f xs) in
    omega (arith, first, rest, both)

pub count_flat_none : {A B : Type 0} (q : B → Bool) (f : A → List B) (xs : List A) → ((x : A) → count q (f x) ≡ 0)
    → count q (flat_map f xs) ≡ 0
count_flat_none q f [] h = refl
count_flat_none q f (x ∷ xs) h =
    let first : count q (f x) ≡ 0 = h x in
    let rest : count q (flat_map f xs) ≡ 0 = count_flat_none q f xs h in
    let both : count q (f x ++ flat_map f xs) ≡ count q (f x) + count q (flat_map f xs) =
    count_append q (f x) (flat_map f xs) in
    omega (arith, first, rest, both)
