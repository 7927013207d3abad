-- What is in a list.
use Rattle.std.proofs.Common.{◌≡◌, ◌⊎◌, inl, inr, ⊎_elim, Bool, true, false, ◌||◌, refl, sym, ◌∙◌, ap, subst, List, []}
use Rattle.std.proofs.Common.{◌∷◌}
use Rattle.std.proofs.Common.{◌++◌, map, Some, None, find, filter}
use Rattle.std.specs.List.{All, AllPairs, list_any, flat_map}
use Rattle.std.proofs.lemmas.Bool.{cond_both, false≢true}
use Rattle.std.proofs.lemmas.List.Elements.{All-nil, All-cons, All-head, All-tail}
use Rattle.realm_sessions.proofs.Pairs.{AllPairs-head, AllPairs-tail}

pub data Has {A : Type 0} : List A → A → Type 0 where
  in_front : {x : A} {xs : List A} → Has (x ∷ xs) x
  further : {x y : A} {xs : List A} → Has xs x → Has (y ∷ xs) x

pub has_cons : {A : Type 0} {y : A} {xs : List A} {x : A} → Has (y ∷ xs) x → (y ≡ x) ⊎ Has xs x
has_cons in_front = inl refl
has_cons (further h) = inr h

pub has_nil : {A : Type 0} {x : A} → Has {A = A} [] x → ⊥
has_nil h = elim h [ ]

pub has_first : {A : Type 0} {y x : A} (ys : List A) → y ≡ x → Has (y ∷ ys) x
has_first {A} {y} ys e = subst (λ z. Has (y ∷ ys) z) e in_front

pub has_filter : {A : Type 0} (test : A → Bool) (xs : List A) {x : A} → Has (filter test xs) x → Has xs x
has_filter test [] h = h
has_filter test (y ∷ xs) {x} h =
    cond_both (test y) (y ∷ filter test xs) (filter test xs) (λ zs. Has zs x → Has (y ∷ xs) x)
    (λ e g. ⊎_elim (λ s. has_first xs s) (λ r. further (has_filter test xs r)) (has_cons g))
    (λ e g. further (has_filter test xs g))
    h

pub filter_test : {A : Type 0} (test : A → Bool) (xs : List A) {x : A} → Has (filter test xs) x → test x ≡ true
filter_test test [] h = absurd (has_nil h)
filter_test test (y ∷ xs) {x} h =
    cond_both (test y) (y ∷ filter test xs) (filter test xs) (λ zs. Has zs x → test x ≡ true)
    (λ e g. ⊎_elim (λ s. ap test (sym s) ∙ e) (λ r. filter_test test xs r) (has_cons g))
    (λ e g. filter_test test xs g)
    h

pub has_map : {A B : Type 0} (f : A → B) (xs : List A) {y : B} → Has (map f xs) y → (x : A) × Has xs x × (f x ≡ y)
has_map f [] h = absurd (has_nil h)
has_map f (x ∷ xs) h =
    ⊎_elim (λ e. (x, in_front, e)) (λ r. let z = has_map f xs r in (z.0, further z.1, z.2)) (has_cons h)

pub has_last : {A : Type 0} (xs : List A) (y : A) {x : A} → Has (xs ++ y ∷ []) x → Has xs x ⊎ (y ≡ x)
has_last [] y h = ⊎_elim (λ e. inr e) (λ r. absurd (has_nil r)) (has_cons h)
has_last (z ∷ xs) y h =
    ⊎_elim (λ e. inl (has_first xs e)) (λ r. ⊎_elim (λ a. inl (further a)) (λ b. inr b) (has_last xs y r)) (has_cons h)

pub has_either : {A : Type 0} (xs ys : List A) {x : A} → Has (xs ++ ys) x → Has xs x ⊎ Has ys x
has_either [] ys h = inr h
has_either (y ∷ xs) ys h =
    ⊎_elim (λ e. inl (has_first xs e)) (λ r. ⊎_elim (λ a. inl (further a)) (λ b. inr b) (has_either xs ys r)) (has_cons h)

pub has_flat : {A B : Type 0} (f : A → List B) (xs : List A) {y : B} → Has (flat_map f xs) y → (x : A) × Has xs x × Has (f x) y
has_flat f [] h = absurd (has_nil h)
has_flat f (x ∷ xs) h =
    ⊎_elim (λ a. (x, in_front, a)) (λ b. let z = has_flat f xs b in (z.0, further z.1, z.2)) (has_either (f x) (flat_map f xs) h)

pub any_has : {A : Type 0} (p : A → Bool) {xs : List A} {x : A} → Has xs x → p x ≡ true → list_any p xs ≡ true
any_has p (in_front {x = x} {xs = xs}) t = ap (λ b. b || list_any p xs) t
any_has p (further {x = x} {y = y} {xs = xs} h) t = both (p y) (list_any p xs) (any_has p h t)
  where
    both : (a b : Bool) → b ≡ true → (a || b) ≡ true
    both true b e = refl
    both false b e = e

or_either : (a b : Bool) → (a || b) ≡ true → (a ≡ true) ⊎ (b ≡ true)
or_either true b h = inl refl
or_either false b h = inr h

pub has_any : {A : Type 0} (p : A → Bool) (xs : List A) → list_any p xs ≡ true → (x : A) × Has xs x × (p x ≡ true)
has_any p [] h = absurd (false≢true h)
has_any p (x ∷ xs) h =
    ⊎_elim (λ t. (x, in_front, t)) (λ r. let z = has_any p xs r in (z.0, further z.1, z.2))
    (or_either (p x) (list_any p xs) h)

pub some_is : {A : Type 0} {x y : A} → Some x ≡ Some y → x ≡ y
some_is h = cc

pub find_has : {A : Type 0} (p : A → Bool) (xs : List A) {x : A} → find p xs ≡ Some x → Has xs x × (p x ≡ true)
find_has p [] {x} h = absurd (none h)
  where
    none : None ≡ Some x → ⊥
    none e = cc
find_has p (y ∷ xs) {x} h =
    cond_both (p y) (Some y) (find p xs) (λ o. o ≡ Some x → Has (y ∷ xs) x × (p x ≡ true))
    (λ t e. (has_first xs (some_is e), ap p (sym (some_is e)) ∙ t))
    (λ f e. let z = find_has p xs e in (further z.0, z.1))
    h

-- ---- from facts of each element, and of each two

pub All-has : {A : Type 0} (P : A → Type 0) {xs : List A} {x : A} → All P xs → Has xs x → P x
All-has P all (in_front {x = x} {xs = xs}) = All-head P x xs all
All-has P all (further {x = x} {y = y} {xs = xs} h) = All-has P (All-tail P y xs all) h

pub all_of : {A : Type 0} (P : A → Type 0) (xs : List A) → ((x : A) → Has xs x → P x) → All P xs
all_of P [] h = All-nil P
all_of P (x ∷ xs) h = All-cons P x xs (h x in_front) (all_of P xs (λ y g. h y (further g)))

-- if no two are as R denies, two that are as R denies are one
pub two_are_one : {A : Type 0} (R : A → A → Type 0) {xs : List A} {x y : A} → AllPairs R xs → Has xs x → Has xs y
    → (R x y → ⊥) → (R y x → ⊥) → x ≡ y
two_are_one R {y = y} pairs (in_front {x = x} {xs = xs}) h off back =
    ⊎_elim (λ e. e) (λ r. absurd (off (All-has (R x) (AllPairs-head R x xs pairs) r))) (has_cons h)
two_are_one R {y = y} pairs (further {x = x} {y = z} {xs = xs} g) h off back =
    ⊎_elim
    (λ e. absurd (back (subst (λ w. R w x) e (All-has (R z) (AllPairs-head R z xs pairs) g))))
    (λ r. two_are_one R (AllPairs-tail R z xs pairs) g r off back)
    (has_cons h)
