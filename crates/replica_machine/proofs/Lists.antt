-- Lists that grow at the end.
use Rattle.std.proofs.Common.{◌≡◌, ◌⊎◌, inl, inr, ⊎_elim, ℕ, suc, ◌+◌, ◌<◌, ◌≤◌, Bool, true, false, not, ◌&&◌, ◌||◌, cond, eqb, ltb, refl}
use Rattle.std.proofs.Common.{sym, ap, ◌∙◌, subst, arith, List, [], ◌∷◌, ◌++◌, Option, Some, None, drop}
use Rattle.std.specs.Prelude.{max, count_by, Result, Ok, Err, OnOk}
use Rattle.std.specs.List.{list_any, list_all, filter_map, cons_option, after_first, position_or_len, fold, reduce}
use Rattle.std.proofs.lemmas.Bool.{cases_lt, or_left, or_right, ltb-true, eq-eqb, ne_eqb, and_parts}
use Rattle.std.proofs.lemmas.Bool.Decides.{nat_tests}
use Rattle.std.proofs.lemmas.List.{append-nil, append_assoc}
use Rattle.std.proofs.lemmas.List.Elements.{filter_map-append}
use Rattle.std.proofs.lemmas.List.Sums.{fold-append}
use Rattle.std.proofs.lemmas.List.Folds.{list_any-append}
use Rattle.std.proofs.Math.Nat.{max-eq_left, max-eq_right}

-- what holds of the empty list, and of a list with one element more at its end, holds of each
pub by_last : {A : Type 0} (P : List A → Type 0) → P [] → ((xs : List A) (x : A) → P xs → P (xs ++ x ∷ [])) → (xs : List A) → P xs
by_last {A} P first step xs = go [] xs first
  where
    go : (ys zs : List A) → P ys → P (ys ++ zs)
    go ys [] p = subst (λ l. P l) (sym (append-nil ys)) p
    go ys (z ∷ zs) p = subst (λ l. P l) (append_assoc ys (z ∷ []) zs) (go (ys ++ z ∷ []) zs (step ys z p))

pub filter_map_last : {X Y : Type 0} (h : X → Option Y) (xs : List X) (x : X)
    → filter_map h (xs ++ x ∷ []) ≡ filter_map h xs ++ cons_option (h x) []
filter_map_last h xs x = filter_map-append h xs (x ∷ [])

pub count_by_last : {X : Type 0} (p : X → Bool) (xs : List X) (x : X) → count_by p (xs ++ x ∷ []) ≡ count_by p xs + cond (p x) 1 0
count_by_last p xs x = fold-append (λ a x. a + cond (p x) 1 0) 0 xs (x ∷ [])

pub list_any_last : {X : Type 0} (p : X → Bool) (xs : List X) (x : X) → list_any p (xs ++ x ∷ []) ≡ (list_any p xs || p x)
list_any_last p xs x = list_any-append p xs (x ∷ []) ∙ ap (λ b. list_any p xs || b) (or_false (p x))
  where
    or_false : (b : Bool) → (b || false) ≡ b
    or_false true = refl
    or_false false = refl

-- after the first element that passes
pub after_first-cons : {X : Type 0} (p : X → Bool) (x : X) (xs : List X) → after_first p (x ∷ xs) ≡ cond (p x) xs (after_first p xs)
after_first-cons {X} p x xs = go (p x)
  where
    k : ℕ
    k = position_or_len p xs

    next : 1 + k + 1 ≡ suc (k + 1)
    next = omega arith

    go : (b : Bool) → drop (cond (not b) (1 + k) 0 + 1) (x ∷ xs) ≡ cond b xs (drop (k + 1) xs)
    go true = refl
    go false = ap (λ j. drop j (x ∷ xs)) next

-- one more element is after the first one that passes p if there is one
pub any_after_last : {X : Type 0} (p q : X → Bool) (xs : List X) (x : X)
    → list_any q (after_first p (xs ++ x ∷ [])) ≡ (list_any q (after_first p xs) || (list_any p xs && q x))
any_after_last {X} p q [] x = ap (λ l. list_any q l) (after_first-cons p x []) ∙ go (p x)
  where
    go : (b : Bool) → list_any q (cond b [] []) ≡ false
    go true = refl
    go false = refl
any_after_last {X} p q (y ∷ ys) x = go (p y) (any_after_last p q ys x) (after_first-cons p y (ys ++ x ∷ [])) (after_first-cons p y ys)
  where
    go : (b : Bool) → list_any q (after_first p (ys ++ x ∷ [])) ≡ (list_any q (after_first p ys) || (list_any p ys && q x))
        → after_first p (y ∷ (ys ++ x ∷ [])) ≡ cond b (ys ++ x ∷ []) (after_first p (ys ++ x ∷ []))
        → after_first p (y ∷ ys) ≡ cond b ys (after_first p ys)
        → list_any q (after_first p (y ∷ (ys ++ x ∷ []))) ≡ (list_any q (after_first p (y ∷ ys)) || ((b || list_any p ys) && q x))
    go true ih e f = ap (λ l. list_any q l) e ∙ list_any_last q ys x ∙ ap (λ l. list_any q l || q x) (sym f)
    go false ih e f = ap (λ l. list_any q l) e ∙ ih ∙ ap (λ l. list_any q l || (list_any p ys && q x)) (sym f)

-- after the first element that passes p there is nothing if none does
pub any_after_none : {X : Type 0} (p q : X → Bool) (xs : List X) → list_any p xs ≡ false → list_any q (after_first p xs) ≡ false
any_after_none p q [] e = refl
any_after_none {X} p q (y ∷ ys) e = go (p y) (after_first-cons p y ys) (λ f. any_after_none p q ys f) e
  where
    go : (b : Bool) → after_first p (y ∷ ys) ≡ cond b ys (after_first p ys)
        → (list_any p ys ≡ false → list_any q (after_first p ys) ≡ false) → (b || list_any p ys) ≡ false
        → list_any q (after_first p (y ∷ ys)) ≡ false
    go true f ih e = absurd (cc)
    go false f ih e = ap (λ l. list_any q l) f ∙ ih e

-- the greatest of some numbers

abbrev pub top : Option ℕ → ℕ → ℕ
top None b = b
top (Some g) b = max g b

pub greatest_last : (bs : List ℕ) (b : ℕ) → reduce max (bs ++ b ∷ []) ≡ Some (top (reduce max bs) b)
greatest_last [] b = refl
greatest_last (x ∷ xs) b = ap (λ n. Some n) (fold-append (λ u v. max u v) x xs (b ∷ []))

-- each is below b
abbrev pub all_below : Option ℕ → ℕ → Bool
all_below None b = true
all_below (Some g) b = ltb g b

max_is : (x y : ℕ) → ((max x y ≡ x) × (y ≤ x)) ⊎ ((max x y ≡ y) × (x ≤ y))
max_is x y = ⊎_elim (λ l. inr (max-eq_right (lt-le l), lt-le l)) (λ l. inl (max-eq_left l, l)) (cases_lt x y)
  where
    lt-le : {a b : ℕ} → a < b → a ≤ b
    lt-le l = omega arith

max_below : (x y b : ℕ) → ltb (max x y) b ≡ (ltb x b && ltb y b)
max_below x y b =
    ⊎_elim
    (λ m. ap (λ z. ltb z b) m.0 ∙ grind (arith, nat_tests, m.1))
    (λ m. ap (λ z. ltb z b) m.0 ∙ grind (arith, nat_tests, m.1))
    (max_is x y)

and_assoc : (a b c : Bool) → ((a && b) && c) ≡ (a && (b && c))
and_assoc true b c = refl
and_assoc false b c = refl

and_true : (b : Bool) → (b && true) ≡ b
and_true true = refl
and_true false = refl

from : (x : ℕ) (xs : List ℕ) (b : ℕ) → (ltb x b && list_all (λ c. ltb c b) xs) ≡ ltb (fold (λ u v. max u v) x xs) b
from x [] b = and_true (ltb x b)
from x (y ∷ ys) b =
    sym (and_assoc (ltb x b) (ltb y b) (list_all (λ c. ltb c b) ys)) ∙ ap (λ t. t && list_all (λ c. ltb c b) ys) (sym (max_below x y b))
    ∙ from (max x y) ys b

pub all_below_greatest : (bs : List ℕ) (b : ℕ) → list_all (λ c. ltb c b) bs ≡ all_below (reduce max bs) b
all_below_greatest [] b = refl
all_below_greatest (x ∷ xs) b = from x xs b

or_skip : (a b c : Bool) → (a || c) ≡ true → (a || (b || c)) ≡ true
or_skip true b c h = refl
or_skip false true c h = refl
or_skip false false c h = h

has : (x : ℕ) (xs : List ℕ) → let g = fold (λ u v. max u v) x xs in (eqb x g || list_any (λ c. eqb c g) xs) ≡ true
has x [] = or_left (eqb x x) false (eq-eqb x x refl)
has x (y ∷ ys) = go (fold (λ u v. max u v) (max x y) ys) (max_is x y) (has (max x y) ys)
  where
    go : (g : ℕ) → ((max x y ≡ x) × (y ≤ x)) ⊎ ((max x y ≡ y) × (x ≤ y)) → (eqb (max x y) g || list_any (λ c. eqb c g) ys) ≡ true
        → (eqb x g || (eqb y g || list_any (λ c. eqb c g) ys)) ≡ true
    go g (inl m) h =
        or_skip (eqb x g) (eqb y g) (list_any (λ c. eqb c g) ys) (subst (λ z. (eqb z g || list_any (λ c. eqb c g) ys) ≡ true) m.0 h)
    go g (inr m) h =
        or_right (eqb x g) (eqb y g || list_any (λ c. eqb c g) ys) (subst (λ z. (eqb z g || list_any (λ c. eqb c g) ys) ≡ true) m.0 h)

pub has_greatest : (bs : List ℕ) (g : ℕ) → reduce max bs ≡ Some g → list_any (λ c. eqb c g) bs ≡ true
has_greatest [] g e = absurd (cc)
has_greatest (x ∷ xs) g e = subst (λ z. (eqb x z || list_any (λ c. eqb c z) xs) ≡ true) (same e) (has x xs)
  where
    same : Some (fold (λ u v. max u v) x xs) ≡ Some g → fold (λ u v. max u v) x xs ≡ g
    same e = cc

pub none_above : (bs : List ℕ) (b : ℕ) → list_all (λ c. ltb c b) bs ≡ true → list_any (λ c. eqb c b) bs ≡ false
none_above [] b e = refl
none_above (x ∷ xs) b e =
    let p = and_parts (ltb x b) (list_all (λ c. ltb c b) xs) e in
    let l : x < b = ltb-true x b p.0 in
    ap (λ t. t || list_any (λ c. eqb c b) xs) (ne_eqb x b (λ q. absurd (omega arith))) ∙ none_above xs b p.1

-- lists that are put at the end of another, one after the other
pub two_put : {A : Type 0} (a b old mid new : List A) → mid ≡ old ++ a → new ≡ mid ++ b → new ≡ old ++ (a ++ b)
two_put a b old mid new first more = more ∙ ap (λ l. l ++ b) first ∙ append_assoc old a b

pub three_put : {A : Type 0} (a b c old mid late new : List A) → mid ≡ old ++ a → late ≡ mid ++ b → new ≡ late ++ c
    → new ≡ old ++ (a ++ (b ++ c))
three_put a b c old mid late new first more last = two_put a (b ++ c) old mid new first (two_put b c mid late new more last)

-- the second of them by a call that is returned
pub two_put_ok : {A T E : Type 0} (r : Result T E) (a b old mid new : List A) → mid ≡ old ++ a → OnOk r (new ≡ mid ++ b)
    → OnOk r (new ≡ old ++ (a ++ b))
two_put_ok (Ok _) a b old mid new first more = two_put a b old mid new first more
two_put_ok (Err _) a b old mid new first more = tt
