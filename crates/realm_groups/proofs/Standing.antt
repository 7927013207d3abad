-- What is in a list.
use Rattle.std.proofs.Common.{◌≡◌, ℕ, suc, Bool, true, false, cond, ◌||◌, List}
use Rattle.std.proofs.Common.{[], ◌∷◌, filter, find, Option, Some, nat_eq}
use Rattle.std.proofs.Common.{refl, sym, ap, ◌∙◌, ◌⊎◌, inl, inr}
use Rattle.std.specs.List.{list_any, slice_get}
use Rattle.std.specs.Map.{keys_of, values_of}
use Rattle.std.proofs.lemmas.Bool.{cond-true, cond-false, false≢true, eqb-true, eq-eqb}
use Rattle.std.proofs.lemmas.Cmp.{eq_by_cmp_equiv}
use Rattle.std.proofs.lemmas.Map.Entries.{lookup_from_place}
use Rattle.std.proofs.lemmas.Map.Keys.{IsDistinct-from_sorted}
use Rattle.wamp_ids.specs.Pattern.{PatternValue}
use Rattle.wamp_patterns.specs.Table.{AreInOrder, pattern_cmp, same_pattern}
use Rattle.wamp_patterns.proofs.Order.{pattern_total}
use Rattle.realm_lists.specs.OrderedList.{member_at, members}
use Rattle.realm_lists.specs.Finding.{AreRising}
use Rattle.realm_lists.proofs.Finding.{same_at, rising_tail}
use Rattle.realm_groups.specs.Groups.{id_at}
use Rattle.realm_groups.proofs.Rows.{at, none_behind, none_some, off_at, same_some}
use Rattle.realm_groups.proofs.Patterns.{the_same}

abbrev pub Has : {X : Type 0} → List X → X → Type 0
Has [] x = ⊥
Has (y ∷ ys) x = (y ≡ x) ⊎ Has ys x

either_or : (a b : Bool) → b ≡ true → (a || b) ≡ true
either_or true b h = refl
either_or false b h = h

module _ {X : Type 0} where
  pub has_place_of : (xs : List X) (x : X) → Has xs x → (i : ℕ) × (slice_get xs i ≡ Some x)
  has_place_of [] x h = absurd h
  has_place_of (y ∷ ys) x (inl same) = (0, ap Some same)
  has_place_of (y ∷ ys) x (inr later) = let it = has_place_of ys x later in (suc it.0, it.1)

  kept_step : (p : X → Bool) (y x : X) (ys : List X) (b : Bool) → p y ≡ b → p x ≡ true → (y ≡ x) ⊎ Has (filter p ys) x
      → Has (cond b (y ∷ filter p ys) (filter p ys)) x
  kept_step p y x ys true h on at = at
  kept_step p y x ys false h on (inl same) = absurd (false≢true (sym h ∙ ap p same ∙ on))
  kept_step p y x ys false h on (inr later) = later

  pub has_kept : (p : X → Bool) (xs : List X) (x : X) → Has xs x → p x ≡ true → Has (filter p xs) x
  has_kept p [] x h on = h
  has_kept p (y ∷ ys) x (inl same) on = kept_step p y x ys (p y) refl on (inl same)
  has_kept p (y ∷ ys) x (inr later) on = kept_step p y x ys (p y) refl on (inr (has_kept p ys x later on))

  from_step : (p : X → Bool) (y x : X) (ys : List X) (b : Bool) → p y ≡ b → (Has (filter p ys) x → Has ys x × (p x ≡ true))
      → Has (cond b (y ∷ filter p ys) (filter p ys)) x → ((y ≡ x) ⊎ Has ys x) × (p x ≡ true)
  from_step p y x ys true h rest (inl same) = (inl same, ap p (sym same) ∙ h)
  from_step p y x ys true h rest (inr later) = let it = rest later in (inr it.0, it.1)
  from_step p y x ys false h rest later = let it = rest later in (inr it.0, it.1)

  pub has_among : (p : X → Bool) (xs : List X) (x : X) → Has (filter p xs) x → Has xs x × (p x ≡ true)
  has_among p [] x h = absurd h
  has_among p (y ∷ ys) x h = from_step p y x ys (p y) refl (has_among p ys x) h

  found_step : (p : X → Bool) (y x : X) (ys : List X) (b : Bool) → p y ≡ b → (find p ys ≡ Some x → Has ys x × (p x ≡ true))
      → cond b (Some y) (find p ys) ≡ Some x → ((y ≡ x) ⊎ Has ys x) × (p x ≡ true)
  found_step p y x ys true h rest is = (inl (same_some is), ap p (sym (same_some is)) ∙ h)
  found_step p y x ys false h rest is = let it = rest is in (inr it.0, it.1)

  pub found_has : (p : X → Bool) (xs : List X) (x : X) → find p xs ≡ Some x → Has xs x × (p x ≡ true)
  found_has p [] x is = absurd (none_some is)
  found_has p (y ∷ ys) x is = found_step p y x ys (p y) refl (found_has p ys x) is

  pub has_any : (p : X → Bool) (xs : List X) (x : X) → Has xs x → p x ≡ true → list_any p xs ≡ true
  has_any p [] x h on = absurd h
  has_any p (y ∷ ys) x (inl same) on = ap (λ b. b || list_any p ys) (ap p same ∙ on)
  has_any p (y ∷ ys) x (inr later) on = either_or (p y) (list_any p ys) (has_any p ys x later on)

  pub any_none : (p : X → Bool) (xs : List X) → ((x : X) → Has xs x → p x ≡ false) → list_any p xs ≡ false
  any_none p [] h = refl
  any_none p (y ∷ ys) h = ap (λ b. b || list_any p ys) (h y (inl refl)) ∙ any_none p ys (λ x later. h x (inr later))

  any_step : (p : X → Bool) (y : X) (ys : List X) (b : Bool) → p y ≡ b → (list_any p ys ≡ true → (x : X) × Has ys x × (p x ≡ true))
      → (b || list_any p ys) ≡ true → (x : X) × ((y ≡ x) ⊎ Has ys x) × (p x ≡ true)
  any_step p y ys true h rest on = (y, inl refl, h)
  any_step p y ys false h rest on = let it = rest on in (it.0, inr it.1, it.2)

  pub any_has : (p : X → Bool) (xs : List X) → list_any p xs ≡ true → (x : X) × Has xs x × (p x ≡ true)
  any_has p [] on = absurd (false≢true on)
  any_has p (y ∷ ys) on = any_step p y ys (p y) refl (any_has p ys) on

-- ---- in rows and tables

module _ {G : Type 0} where
  member_step : (row : ℕ × G) (rows : List (ℕ × G)) (x : G) (b : Bool) (o : Option G) → cond b (Some row.1) o ≡ Some x
      → (o ≡ Some x → Has (members rows) x) → (row.1 ≡ x) ⊎ Has (members rows) x
  member_step row rows x true o is rest = inl (same_some is)
  member_step row rows x false o is rest = inr (rest is)

  pub member_has : (n : ℕ) (rows : List (ℕ × G)) (x : G) → member_at n rows ≡ Some x → Has (members rows) x
  member_has n [] x is = absurd (none_some is)
  member_has n (row ∷ rows) x is = member_step row rows x (at n row.0) (member_at n rows) is (member_has n rows x)

  pub has_member : (rows : List (ℕ × G)) (x : G) → AreRising rows → Has (members rows) x → (n : ℕ) × (member_at n rows ≡ Some x)
  has_member [] x rising h = absurd h
  has_member (row ∷ rows) x rising (inl same) =
      (row.0, cond-true (at row.0 row.0) (Some row.1) (member_at row.0 rows) (same_at row.0 row.0 refl) ∙ ap Some same)
  has_member (row ∷ rows) x rising (inr later) =
      let it = has_member rows x (rising_tail row rows rising) later in (
        it.0,
        cond-false (at it.0 row.0) (Some row.1) (member_at it.0 rows)
            (off_at it.0 row.0 (λ same. none_some (sym (none_behind row rows it.0 rising same) ∙ it.1))) ∙ it.1,
      )

kept_at_step : (e : PatternValue × ℕ) (es : List (PatternValue × ℕ)) (p : PatternValue) (n : ℕ) (b : Bool) → same_pattern p e.0 ≡ b
    → cond b (Some e.1) (id_at es p) ≡ Some n → (id_at es p ≡ Some n → Has es (p, n)) → (e ≡ (p, n)) ⊎ Has es (p, n)
kept_at_step e es p n true h is rest =
    let key : e.0 ≡ p = sym (the_same p e.0 h) in
    let value : e.1 ≡ n = same_some is in
    inl (λ i. (key i, value i))
kept_at_step e es p n false h is rest = inr (rest is)

pub kept_has : (es : List (PatternValue × ℕ)) (p : PatternValue) (n : ℕ) → id_at es p ≡ Some n → Has es (p, n)
kept_has [] p n is = absurd (none_some is)
kept_has (e ∷ es) p n is = kept_at_step e es p n (same_pattern p e.0) refl is (kept_has es p n)

pub has_kept_at : (es : List (PatternValue × ℕ)) (e : PatternValue × ℕ) → AreInOrder es → Has es e → id_at es e.0 ≡ Some e.1
has_kept_at es e ordered h =
    let it = has_place_of es e h in
    lookup_from_place (eq_by_cmp_equiv pattern_total) es it.0 e.0 e.1 (IsDistinct-from_sorted pattern_cmp (keys_of es) ordered) it.1

-- a value that is in a table is under a key
pub value_has : (es : List (PatternValue × ℕ)) (n : ℕ) → list_any (nat_eq n) (values_of es) ≡ true → (p : PatternValue) × Has es (p, n)
value_has es n on =
    let it = any_has (nat_eq n) (values_of es) on in under es it.0 (eqb-true n it.0 it.2) it.1
  where
    under : (xs : List (PatternValue × ℕ)) (m : ℕ) → n ≡ m → Has (values_of xs) m → (p : PatternValue) × Has xs (p, n)
    under [] m same h = absurd h
    under (x ∷ xs) m same (inl here) = let value : x.1 ≡ n = here ∙ sym same in (x.0, inl (λ i. (x.0, value i)))
    under (x ∷ xs) m same (inr later) = let it = under xs m same later in (it.0, inr it.1)

pub has_value : (es : List (PatternValue × ℕ)) (e : PatternValue × ℕ) → Has es e → list_any (nat_eq e.1) (values_of es) ≡ true
has_value es e h = has_any (nat_eq e.1) (values_of es) e.1 (among es h) (eq-eqb e.1 e.1 refl)
  where
    among : (xs : List (PatternValue × ℕ)) → Has xs e → Has (values_of xs) e.1
    among [] h = absurd h
    among (x ∷ xs) (inl same) = inl (ap (λ (y : PatternValue × ℕ). y.1) same)
    among (x ∷ xs) (inr later) = inr (among xs later)
