-- What is in a list.
use Rattle.std.proofs.Common.{◌≡◌, ◌⊎◌, inl, inr, ⊎_elim, ℕ, zero, suc, Bool, true, false, refl, sym, ◌∙◌, subst, List, [], ◌∷◌, ◌++◌, map}
use Rattle.std.proofs.Common.{Some}
use Rattle.std.proofs.lemmas.Bool.{cond_both}
use Rattle.std.specs.Prelude.{filter, slice_get}
use Rattle.cluster_world.specs.Has.{Has, here, there}

pub has_left : {A : Type 0} {xs : List A} {x : A} (ys : List A) → Has xs x → Has (xs ++ ys) x
has_left ys here = here
has_left ys (there h) = there (has_left ys h)

pub has_right : {A : Type 0} (xs : List A) {ys : List A} {x : A} → Has ys x → Has (xs ++ ys) x
has_right [] h = h
has_right (y ∷ xs) h = there (has_right xs h)

pub has_cons : {A : Type 0} {y : A} {xs : List A} {x : A} → Has (y ∷ xs) x → (y ≡ x) ⊎ Has xs x
has_cons here = inl refl
has_cons (there h) = inr h

pub has_nil : {A : Type 0} {x : A} → Has {A = A} [] x → ⊥
has_nil h = elim h [ ]

pub has_one : {A : Type 0} {y x : A} → Has (y ∷ []) x → y ≡ x
has_one h = ⊎_elim (λ e. e) (λ r. absurd (has_nil r)) (has_cons h)

pub has_first : {A : Type 0} {y x : A} (ys : List A) → y ≡ x → Has (y ∷ ys) x
has_first {A} {y} ys e = subst (λ z. Has (y ∷ ys) z) e here

pub has_cases : {A : Type 0} (xs ys : List A) {x : A} → Has (xs ++ ys) x → Has xs x ⊎ Has ys x
has_cases [] ys h = inr h
has_cases (y ∷ xs) ys h =
    ⊎_elim (λ e. inl (has_first xs e)) (λ r. ⊎_elim (λ a. inl (there a)) (λ b. inr b) (has_cases xs ys r)) (has_cons h)

pub has_map : {A B : Type 0} (f : A → B) (xs : List A) {y : B} → Has (map f xs) y → (x : A) × Has xs x × (f x ≡ y)
has_map f [] h = absurd (has_nil h)
has_map f (x ∷ xs) h = ⊎_elim (λ e. (x, here, e)) (λ r. let z = has_map f xs r in (z.0, there z.1, z.2)) (has_cons h)

pub map_has : {A B : Type 0} (f : A → B) {xs : List A} {x : A} → Has xs x → Has (map f xs) (f x)
map_has f here = here
map_has f (there h) = there (map_has f h)

off : false ≡ true → ⊥
off e = cc

pub filter_has : {A : Type 0} (test : A → Bool) {xs : List A} {x : A} → Has xs x → test x ≡ true → Has (filter test xs) x
filter_has test (here {x = x} {xs = xs}) t =
    cond_both (test x) (x ∷ filter test xs) (filter test xs) (λ zs. Has zs x) (λ e. here) (λ e. absurd (off (sym e ∙ t)))
filter_has test (there {x = x} {y = y} {xs = xs} h) t =
    cond_both (test y) (y ∷ filter test xs) (filter test xs) (λ zs. Has zs x) (λ e. there (filter_has test h t)) (λ e. filter_has test h t)

pub has_filter : {A : Type 0} (test : A → Bool) (xs : List A) {x : A} → Has (filter test xs) x → Has xs x
has_filter test [] h = h
has_filter test (y ∷ xs) {x} h =
    cond_both (test y) (y ∷ filter test xs) (filter test xs) (λ zs. Has zs x → Has (y ∷ xs) x)
    (λ e g. ⊎_elim (λ s. has_first xs s) (λ r. there (has_filter test xs r)) (has_cons g))
    (λ e g. there (has_filter test xs g))
    h

pub has_passes : {A : Type 0} (test : A → Bool) (xs : List A) {x : A} → Has (filter test xs) x → test x ≡ true
has_passes test [] h = absurd (has_nil h)
has_passes test (y ∷ xs) {x} h =
    cond_both (test y) (y ∷ filter test xs) (filter test xs) (λ zs. Has zs x → test x ≡ true)
    (λ e g. ⊎_elim (λ s. subst (λ z. test z ≡ true) s e) (λ r. has_passes test xs r) (has_cons g))
    (λ e g. has_passes test xs g)
    h

pub has_at : {A : Type 0} (xs : List A) (i : ℕ) {x : A} → slice_get xs i ≡ Some x → Has xs x
has_at [] i e = absurd (cc)
has_at (y ∷ xs) zero {x} e = has_first xs (same e)
  where
    same : Some y ≡ Some x → y ≡ x
    same e = cc
has_at (y ∷ xs) (suc i) e = there (has_at xs i e)
