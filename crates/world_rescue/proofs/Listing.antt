-- A list that is appended to step by step.
use Rattle.std.proofs.Common.{◌≡◌, ℕ, suc, Bool, true, false, cond, ◌+◌, ◌<◌, ◌≤◌, Result, Ok, Err, List, [], ◌∷◌, ◌++◌, drop, length, get_or, refl, sym, ap, ◌∙◌, subst, append_assoc, append-nil, add-one, drop-cons}
use Rattle.std.proofs.lemmas.List.{drop_all}
use Rattle.std.specs.Prelude.{OnOk, filter, map}
use Rattle.std.specs.List.{flat_map}

-- one thing is appended, then another
pub joined : {X : Type 0} (old now new xs ys : List X) → now ≡ old ++ xs → new ≡ now ++ ys → new ≡ old ++ (xs ++ ys)
joined {X} old now new xs ys p q = q ∙ ap (λ (zs : List X). zs ++ ys) p ∙ append_assoc old xs ys

-- what a call shows if it returned
pub from_ok : {A E P : Type 0} (r : Result A E) (x : A) → r ≡ Ok x → OnOk r P → P
from_ok {A} {E} {P} r x e h = subst (λ (s : Result A E). OnOk s P) e h

pub on_ok : {A E P Q : Type 0} (r : Result A E) → (P → Q) → OnOk r P → OnOk r Q
on_ok (Ok x) f h = f h
on_ok (Err x) f h = h

-- what holds whether it returned or not
pub shown : {A E P : Type 0} (r : Result A E) → P → OnOk r P
shown (Ok x) h = h
shown (Err x) h = tt

pub rest : {X : Type 0} (xs : List X) (i : ℕ) (x : X) → i < length xs → x ≡ get_or xs i x → drop i xs ≡ x ∷ drop (i + 1) xs
rest xs i x l e = rw (add-one, drop-cons xs i x) (ap (λ y. y ∷ drop (suc i) xs) (sym e))

-- those that pass a test

one_of : {X : Type 0} (p : X → Bool) (x : X) (xs : List X) → filter p (x ∷ []) ++ filter p xs ≡ filter p (x ∷ xs)
one_of {X} p x xs = go (p x)
  where
    go : (b : Bool) → cond b (x ∷ []) [] ++ filter p xs ≡ cond b (x ∷ filter p xs) (filter p xs)
    go true = refl
    go false = refl

pub filters_on : {X : Type 0} (p : X → Bool) (xs old new all : List X) (i : ℕ) (x : X) → i < length xs → x ≡ get_or xs i x
    → new ≡ old ++ filter p (x ∷ []) → old ++ filter p (drop i xs) ≡ all → new ++ filter p (drop (i + 1) xs) ≡ all
filters_on {X} p xs old new all i x l e q h =
    ap (λ (ys : List X). ys ++ filter p (drop (i + 1) xs)) q
    ∙ append_assoc old (filter p (x ∷ [])) (filter p (drop (i + 1) xs))
    ∙ ap (λ (ys : List X). old ++ ys) (one_of p x (drop (i + 1) xs) ∙ ap (λ (ys : List X). filter p ys) (sym (rest xs i x l e)))
    ∙ h

pub filters_all : {X : Type 0} (p : X → Bool) (xs now all : List X) (i : ℕ) → length xs ≤ i → now ++ filter p (drop i xs) ≡ all → now ≡ all
filters_all {X} p xs now all i l h = sym (append-nil now) ∙ ap (λ (ys : List X). now ++ filter p ys) (sym (drop_all i xs l)) ∙ h

-- a list of lists, one after the other

pub flat_on : {A X : Type 0} (f : A → List X) (xs : List A) (old new all : List X) (i : ℕ) (x : A) → i < length xs → x ≡ get_or xs i x
    → new ≡ old ++ f x → old ++ flat_map f (drop i xs) ≡ all → new ++ flat_map f (drop (i + 1) xs) ≡ all
flat_on {A} {X} f xs old new all i x l e q h =
    ap (λ (ys : List X). ys ++ flat_map f (drop (i + 1) xs)) q ∙ append_assoc old (f x) (flat_map f (drop (i + 1) xs))
    ∙ ap (λ (ys : List A). old ++ flat_map f ys) (sym (rest xs i x l e)) ∙ h

pub flat_all : {A X : Type 0} (f : A → List X) (xs : List A) (now all : List X) (i : ℕ) → length xs ≤ i → now ++ flat_map f (drop i xs) ≡ all → now ≡ all
flat_all {A} {X} f xs now all i l h = sym (append-nil now) ∙ ap (λ (ys : List A). now ++ flat_map f ys) (sym (drop_all i xs l)) ∙ h

-- the same over what is made of each

pub flat_map_on : {A S X : Type 0} (f : S → List X) (s : A → S) (xs : List A) (old new all : List X) (i : ℕ) (x : A) → i < length xs
    → x ≡ get_or xs i x → new ≡ old ++ f (s x) → old ++ flat_map f (map s (drop i xs)) ≡ all → new ++ flat_map f (map s (drop (i + 1) xs)) ≡ all
flat_map_on {A} {S} {X} f s xs old new all i x l e q h =
    ap (λ (ys : List X). ys ++ flat_map f (map s (drop (i + 1) xs))) q ∙ append_assoc old (f (s x)) (flat_map f (map s (drop (i + 1) xs)))
    ∙ ap (λ (ys : List A). old ++ flat_map f (map s ys)) (sym (rest xs i x l e)) ∙ h

pub flat_map_all : {A S X : Type 0} (f : S → List X) (s : A → S) (xs : List A) (now all : List X) (i : ℕ) → length xs ≤ i
    → now ++ flat_map f (map s (drop i xs)) ≡ all → now ≡ all
flat_map_all {A} {S} {X} f s xs now all i l h =
    sym (append-nil now) ∙ ap (λ (ys : List A). now ++ flat_map f (map s ys)) (sym (drop_all i xs l)) ∙ h
