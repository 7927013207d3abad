-- A map's entries, with their keys by a function: what is looked up, put and removed by the keys' images.
use Rattle.std.proofs.Common.{◌≡◌, ℕ, Bool, true, false, cond, Option, Some, None, is_some, Ordering, List, [], ◌∷◌, filter, map, refl, ap, sym, ◌∙◌}
use denote.Ref.{Bor}
use Rattle.std.specs.declared.cmp.Ordering.TheVariants.{Less, Equal, Greater}
use Rattle.std.specs.Option.{IsSome}
use Rattle.std.specs.Ordering.{is_eq, match_ordering, ordering_reverse}
use Rattle.std.specs.Cmp.{IsTotalOrder}
use Rattle.std.specs.List.{AllByRecursion}
use Rattle.std.specs.List.Sorted.{IsStrictlySortedBy}
use Rattle.std.specs.Map.{keys_of, lookup, remove_entry, set_value, values_of}
use Rattle.std.specs.BTreeMap.{insert_entry}
use Rattle.std.proofs.lemmas.Cmp.{eq_by_cmp_equiv, nat_list_cmp_total, tied_itself}
use Rattle.std.proofs.lemmas.Map.{lookup-remove_entry}
use Rattle.std.proofs.lemmas.Map.Keys.{IsDistinct-from_sorted}
use Rattle.std.proofs.lemmas.Map.Lookups.{exact_bytes}
use Rattle.wamp_patterns.specs.Texts.{AreTextsInOrder, same_text, shown, text_cmp, with_keys}

module _ {K B V : Type 0} (f : K → B) where
  pub looked_up : (test : B → Bool) (es : List (K × V)) → lookup (λ k. test (f k)) es ≡ lookup test (with_keys f es)
  looked_up test [] = refl
  looked_up test (e ∷ es) = ap (λ o. cond (test (f e.0)) (Some e.1) o) (looked_up test es)

  pub removed : (test : B → Bool) (es : List (K × V)) → with_keys f (remove_entry (λ k. test (f k)) es) ≡ remove_entry test (with_keys f es)
  removed test [] = refl
  removed test (e ∷ es) = go (test (f e.0)) (removed test es)
    where
      go : (b : Bool) → with_keys f (remove_entry (λ k. test (f k)) es) ≡ remove_entry test (with_keys f es)
          → with_keys f (cond b es (e ∷ remove_entry (λ k. test (f k)) es)) ≡ cond b (with_keys f es) ((f e.0, e.1) ∷ remove_entry test (with_keys f es))
      go true h = refl
      go false h = ap (λ xs. (f e.0, e.1) ∷ xs) h

  pub written : (test : B → Bool) (es : List (K × V)) (v : V) → with_keys f (set_value (λ k. test (f k)) es v) ≡ set_value test (with_keys f es) v
  written test [] v = refl
  written test (e ∷ es) v = go (test (f e.0)) (written test es v)
    where
      go : (b : Bool) → with_keys f (set_value (λ k. test (f k)) es v) ≡ set_value test (with_keys f es) v
          → with_keys f (cond b ((e.0, v) ∷ es) (e ∷ set_value (λ k. test (f k)) es v))
          ≡ cond b ((f e.0, v) ∷ with_keys f es) ((f e.0, e.1) ∷ set_value test (with_keys f es) v)
      go true h = refl
      go false h = ap (λ xs. (f e.0, e.1) ∷ xs) h

  pub put_in : (cmp : B → B → Ordering) (es : List (K × V)) (k : K) (v : V)
      → with_keys f (insert_entry (λ x y. cmp (f x) (f y)) es k v) ≡ insert_entry cmp (with_keys f es) (f k) v
  put_in cmp [] k v = refl
  put_in cmp (e ∷ es) k v = go (cmp (f k) (f e.0)) (put_in cmp es k v)
    where
      go : (o : Ordering) → with_keys f (insert_entry (λ x y. cmp (f x) (f y)) es k v) ≡ insert_entry cmp (with_keys f es) (f k) v
          → with_keys f (match_ordering o ((k, v) ∷ e ∷ es) ((e.0, v) ∷ es) (e ∷ insert_entry (λ x y. cmp (f x) (f y)) es k v))
          ≡ match_ordering o ((f k, v) ∷ (f e.0, e.1) ∷ with_keys f es) ((f e.0, v) ∷ with_keys f es)
          ((f e.0, e.1) ∷ insert_entry cmp (with_keys f es) (f k) v)
      go Less h = refl
      go Equal h = refl
      go Greater h = ap (λ xs. (f e.0, e.1) ∷ xs) h

  pub filtered : (test : B → Bool) (es : List (K × V)) → with_keys f (filter (λ e. test (f e.0)) es) ≡ filter (λ e. test e.0) (with_keys f es)
  filtered test [] = refl
  filtered test (e ∷ es) = go (test (f e.0)) (filtered test es)
    where
      go : (b : Bool) → with_keys f (filter (λ x. test (f x.0)) es) ≡ filter (λ x. test x.0) (with_keys f es)
          → with_keys f (cond b (e ∷ filter (λ x. test (f x.0)) es) (filter (λ x. test (f x.0)) es))
          ≡ cond b ((f e.0, e.1) ∷ filter (λ x. test x.0) (with_keys f es)) (filter (λ x. test x.0) (with_keys f es))
      go true h = ap (λ xs. (f e.0, e.1) ∷ xs) h
      go false h = h

  pub all_keyed : (P : B → Type 0) (es : List (K × V)) → AllByRecursion (λ k. P (f k)) (keys_of es) → AllByRecursion P (keys_of (with_keys f es))
  all_keyed P [] all = tt
  all_keyed P (e ∷ es) all = (all.0, all_keyed P es all.1)

  pub in_order : (cmp : B → B → Ordering) (es : List (K × V)) → IsStrictlySortedBy (λ x y. cmp (f x) (f y)) (keys_of es)
      → IsStrictlySortedBy cmp (keys_of (with_keys f es))
  unfolding IsStrictlySortedBy
  in_order cmp [] s = tt
  in_order cmp (e ∷ es) s = (all_keyed (λ y. cmp (f e.0) y ≡ Less) es s.0, in_order cmp es s.1)

all_less : {K : Type 0} {P Q : K → Type 0} → ((x : K) → P x → Q x) → (ks : List K) → AllByRecursion P ks → AllByRecursion Q ks
all_less f [] all = tt
all_less f (x ∷ ks) all = (f x all.0, all_less f ks all.1)

pub none_found : {K V : Type 0} (test : K → Bool) (es : List (K × V)) → AllByRecursion (λ k. test k ≡ false) (keys_of es) → lookup test es ≡ None
none_found test [] all = refl
none_found test (e ∷ es) all = ap (λ b. cond b (Some e.1) (lookup test es)) all.0 ∙ none_found test es all.1

-- to write the value of a key that is there is to put it
pub written_put : {K V : Type 0} {cmp : K → K → Ordering} (total : IsTotalOrder cmp) (k : K) (v : V) (es : List (K × V))
    → IsStrictlySortedBy cmp (keys_of es) → IsSome (lookup (λ x. is_eq (cmp k x)) es)
    → set_value (λ x. is_eq (cmp k x)) es v ≡ insert_entry cmp es k v
unfolding IsStrictlySortedBy
written_put total k v [] s h = cc
written_put {K = K} {V = V} {cmp = cmp} total k v (e ∷ es) s h = go (cmp k e.0) refl (written_put total k v es s.1) h
  where
    go : (o : Ordering) → cmp k e.0 ≡ o → (IsSome (lookup (λ x. is_eq (cmp k x)) es) → set_value (λ x. is_eq (cmp k x)) es v ≡ insert_entry cmp es k v)
        → IsSome (cond (is_eq o) (Some e.1) (lookup (λ x. is_eq (cmp k x)) es))
        → cond (is_eq o) ((e.0, v) ∷ es) (e ∷ set_value (λ x. is_eq (cmp k x)) es v)
        ≡ match_ordering o ((k, v) ∷ e ∷ es) ((e.0, v) ∷ es) (e ∷ insert_entry cmp es k v)
    go Less p rest found =
        let none : lookup (λ x. is_eq (cmp k x)) es ≡ None = none_found (λ x. is_eq (cmp k x)) es
        (all_less (λ y l. ap is_eq (total.trans k e.0 y p l)) (keys_of es) s.0) in
        let bad : false ≡ true = sym (ap is_some none) ∙ found in
        cc
    go Equal p rest found = refl
    go Greater p rest found = ap (λ xs. e ∷ xs) (rest found)

-- ---- among texts in order

pub is_equal : (o : Ordering) → is_eq o ≡ true → o ≡ Equal
is_equal Less h = cc
is_equal Equal h = refl
is_equal Greater h = cc

pub the_same : (a b : List ℕ) → same_text a b ≡ true → a ≡ b
the_same a b h = exact_bytes a b (is_equal (text_cmp a b) h)

pub same_itself : (a : List ℕ) → same_text a a ≡ true
same_itself a = ap is_eq (tied_itself nat_list_cmp_total a)

pub same_turned : (a b : List ℕ) → same_text a b ≡ same_text b a
same_turned a b = ap is_eq (nat_list_cmp_total.antisymm a b) ∙ go (text_cmp b a)
  where
    go : (o : Ordering) → is_eq (ordering_reverse o) ≡ is_eq o
    go Less = refl
    go Equal = refl
    go Greater = refl

twice : {V : Type 0} (b : Bool) (x y z : Option V) → cond b x (cond b y z) ≡ cond b x z
twice true x y z = refl
twice false x y z = refl

-- what is looked up once a value is put
pub lookup_put : {V : Type 0} (es : List (List ℕ × V)) (k : List ℕ) (v : V) (q : List ℕ)
    → lookup (same_text q) (insert_entry text_cmp es k v) ≡ cond (same_text q k) (Some v) (lookup (same_text q) es)
lookup_put [] k v q = refl
lookup_put {V = V} (e ∷ es) k v q = go (text_cmp k e.0) refl (lookup_put es k v q)
  where
    apart : (a b : Bool) → (a ≡ true → b ≡ true → false ≡ true) → (x y z : Option V) → cond b y (cond a x z) ≡ cond a x (cond b y z)
    apart true true n x y z = cc (n refl refl)
    apart true false n x y z = refl
    apart false true n x y z = refl
    apart false false n x y z = refl

    go : (o : Ordering) → text_cmp k e.0 ≡ o
        → lookup (same_text q) (insert_entry text_cmp es k v) ≡ cond (same_text q k) (Some v) (lookup (same_text q) es)
        → lookup (same_text q) (match_ordering o ((k, v) ∷ e ∷ es) ((e.0, v) ∷ es) (e ∷ insert_entry text_cmp es k v))
        ≡ cond (same_text q k) (Some v) (cond (same_text q e.0) (Some e.1) (lookup (same_text q) es))
    go Less p h = refl
    go Equal p h =
        ap (λ x. cond (same_text q x) (Some v) (lookup (same_text q) es)) (sym (exact_bytes k e.0 p))
        ∙ sym (twice (same_text q k) (Some v) (Some e.1) (lookup (same_text q) es))
        ∙ ap (λ x. cond (same_text q k) (Some v) (cond (same_text q x) (Some e.1) (lookup (same_text q) es))) (exact_bytes k e.0 p)
    go Greater p h =
        ap (λ o. cond (same_text q e.0) (Some e.1) o) h
        ∙ apart (same_text q k) (same_text q e.0)
        (λ a b. ap is_eq (sym p) ∙ ap (λ x. same_text x e.0) (sym (the_same q k a)) ∙ b)
        (Some v) (Some e.1) (lookup (same_text q) es)

-- what is looked up once a value is taken out
pub lookup_removed : {V : Type 0} (es : List (List ℕ × V)) (k q : List ℕ) → AreTextsInOrder es
    → lookup (same_text q) (remove_entry (same_text k) es) ≡ cond (same_text k q) None (lookup (same_text q) es)
lookup_removed es k q s = lookup-remove_entry (eq_by_cmp_equiv nat_list_cmp_total) (same_text k)
    (λ x y h. ap (λ z. same_text z y) (the_same k x h)) q es (IsDistinct-from_sorted text_cmp (keys_of es) s)

-- a pair that is lent is put as what it points to
pub put_shown : {V : Type 0} (es : List (Bor (List ℕ) × Bor V)) (k : Bor (List ℕ)) (v : Bor V)
    → shown (insert_entry (λ x y. text_cmp x.now y.now) es k v) ≡ insert_entry text_cmp (shown es) k.now v.now
put_shown [] k v = refl
put_shown (e ∷ es) k v = go (text_cmp k.now e.0.now) (put_shown es k v)
  where
    go : (o : Ordering) → shown (insert_entry (λ x y. text_cmp x.now y.now) es k v) ≡ insert_entry text_cmp (shown es) k.now v.now
        → shown (match_ordering o ((k, v) ∷ e ∷ es) ((e.0, v) ∷ es) (e ∷ insert_entry (λ x y. text_cmp x.now y.now) es k v))
        ≡ match_ordering o ((k.now, v.now) ∷ (e.0.now, e.1.now) ∷ shown es) ((e.0.now, v.now) ∷ shown es)
        ((e.0.now, e.1.now) ∷ insert_entry text_cmp (shown es) k.now v.now)
    go Less h = refl
    go Equal h = refl
    go Greater h = ap (λ xs. (e.0.now, e.1.now) ∷ xs) h

pub values_shown : {V : Type 0} (es : List (Bor (List ℕ) × Bor V)) → map (λ v. v.now) (values_of es) ≡ values_of (shown es)
values_shown [] = refl
values_shown (e ∷ es) = ap (λ vs. e.1.now ∷ vs) (values_shown es)
