-- The keys that begin with a number are those from it and 0 up to before the next number and 0.
use Rattle.std.proofs.Common.{◌≡◌, ℕ, ◌+◌, ◌<◌, ◌==◌, Bool, true, false, not, ◌&&◌, ◌||◌, cond, List, [], ◌∷◌, filter, None, Some}
use Rattle.std.proofs.Common.{nat_cmp, nat_eq, is_eq, is_le, is_gt, refl, sym, ap, ◌∙◌, arith}
use Rattle.std.specs.declared.cmp.Ordering.{Ordering}
use Rattle.std.specs.declared.cmp.Ordering.TheVariants.{Less, Equal, Greater}
use Rattle.std.specs.declared.ops.Bound.TheVariants.{Included, Excluded}
use Rattle.std.specs.Ordering.{ordering_then}
use Rattle.std.specs.Cmp.{ranked, nat_cmp_is, unsigned_tied}
use Rattle.std.specs.BTreeMap.{is_at}
use Rattle.std.specs.BTreeMap.Range.{entries_between, range_contains}
use Rattle.std.specs.Map.{values_of}
use Rattle.std.proofs.lemmas.Bool.{false_from_ne_true, eqb-true, eq-eqb}
use Rattle.std.proofs.lemmas.List.Elements.{filter_agree}
use Rattle.realm_lists.specs.OrderedList.{has_place}
use Rattle.realm_lists.specs.PlaceIndex.{pair_cmp, is_key, place_of, places_under}

other_number : (a b : ℕ) → (a ≡ b → ⊥) → (a == b) ≡ false
other_number a b apart = false_from_ne_true (a == b) (λ same. apart (eqb-true a b same))

in_step : (a b c : ℕ) (x y z : Ordering) → x ≡ nat_cmp a b → y ≡ nat_cmp (a + 1) b → z ≡ nat_cmp 0 c
    → (is_le (ordering_then x z) && not (is_le (ordering_then y z))) ≡ (b == a)
in_step a b c Less Less z x y e =
    let above : a < b = ranked a b Less x in sym (other_number b a (λ same. omega (arith, above, same)))
in_step a b c Less Equal Less x y e =
    let above : a < b = ranked a b Less x in sym (other_number b a (λ same. omega (arith, above, same)))
in_step a b c Less Equal Equal x y e =
    let above : a < b = ranked a b Less x in sym (other_number b a (λ same. omega (arith, above, same)))
in_step a b c Less Equal Greater x y e = let below : c < 0 = ranked 0 c Greater e in absurd (omega (arith, below))
in_step a b c Less Greater z x y e =
    let above : a < b = ranked a b Less x in
    let below : b < a + 1 = ranked (a + 1) b Greater y in
    absurd (omega (arith, above, below))
in_step a b c Equal Less z x y e =
    let same : a ≡ b = ranked a b Equal x in
    let above : a + 1 < b = ranked (a + 1) b Less y in
    absurd (omega (arith, same, above))
in_step a b c Equal Equal z x y e =
    let same : a ≡ b = ranked a b Equal x in
    let next : a + 1 ≡ b = ranked (a + 1) b Equal y in
    absurd (omega (arith, same, next))
in_step a b c Equal Greater Less x y e = let same : a ≡ b = ranked a b Equal x in sym (eq-eqb b a (sym same))
in_step a b c Equal Greater Equal x y e = let same : a ≡ b = ranked a b Equal x in sym (eq-eqb b a (sym same))
in_step a b c Equal Greater Greater x y e = let below : c < 0 = ranked 0 c Greater e in absurd (omega (arith, below))
in_step a b c Greater y z x h e =
    let below : b < a = ranked a b Greater x in sym (other_number b a (λ same. omega (arith, below, same)))

pub between_is : (first : ℕ) (entries : List ((ℕ × ℕ) × ℕ))
    → entries_between pair_cmp (Included (first, 0)) (Excluded (first + 1, 0)) entries ≡ filter (λ entry. entry.0.0 == first) entries
between_is first entries =
    filter_agree (λ (entry : (ℕ × ℕ) × ℕ). range_contains pair_cmp (Included (first, 0)) (Excluded (first + 1, 0)) entry.0)
    (λ (entry : (ℕ × ℕ) × ℕ). entry.0.0 == first)
    (λ entry. in_step first entry.0.0 entry.0.1 (nat_cmp first entry.0.0) (nat_cmp (first + 1) entry.0.0) (nat_cmp 0 entry.0.1)
    refl refl refl) entries

pub goes_forward : (first : ℕ) → is_gt (pair_cmp (first, 0) (first + 1, 0)) ≡ false
goes_forward first =
    let before : first < first + 1 = omega arith in
    ap (λ (order : Ordering). is_gt (ordering_then order (nat_cmp 0 0))) (sym (nat_cmp_is first (first + 1) Less before))

-- ---- a key's place is among those under its first number

key_step : (a b : ℕ × ℕ) (x y : Ordering) → x ≡ nat_cmp a.0 b.0 → y ≡ nat_cmp a.1 b.1 → is_at (λ (_ : ℕ × ℕ). ordering_then x y) b ≡ true
    → (a.0 ≡ b.0) × (a.1 ≡ b.1)
key_step a b Equal Equal x y at = (ranked a.0 b.0 Equal x, ranked a.1 b.1 Equal y)
key_step a b Equal Less x y at = absurd (differ at)
  where
    differ : false ≡ true → ⊥
    differ h = cc
key_step a b Equal Greater x y at = absurd (differ at)
  where
    differ : false ≡ true → ⊥
    differ h = cc
key_step a b Less y x h at = absurd (differ at)
  where
    differ : false ≡ true → ⊥
    differ h = cc
key_step a b Greater y x h at = absurd (differ at)
  where
    differ : false ≡ true → ⊥
    differ h = cc

pub same_key : (a b : ℕ × ℕ) → is_at (pair_cmp a) b ≡ true → (a.0 ≡ b.0) × (a.1 ≡ b.1)
same_key a b at = key_step a b (nat_cmp a.0 b.0) (nat_cmp a.1 b.1) refl refl at

then_is : (x y : Ordering) → is_eq (ordering_then x y) ≡ (is_eq x && is_eq y)
then_is Less y = refl
then_is Equal y = refl
then_is Greater y = refl

-- keys differ if their numbers do
pub pair_at : (a b : ℕ × ℕ) → is_at (pair_cmp a) b ≡ is_key a b
pair_at a b =
    then_is (nat_cmp a.0 b.0) (nat_cmp a.1 b.1)
    ∙ (λ i. unsigned_tied a.0 b.0 i && unsigned_tied a.1 b.1 i)

or_right : (b c : Bool) → c ≡ true → (b || c) ≡ true
or_right true c h = refl
or_right false c h = h

under_step : (key : ℕ × ℕ) (place : ℕ) (entry : (ℕ × ℕ) × ℕ) (entries : List ((ℕ × ℕ) × ℕ)) (b c : Bool)
    → (entry.0.0 == key.0) ≡ b → is_at (pair_cmp key) entry.0 ≡ c → cond c (Some entry.1) (place_of entries key) ≡ Some place
    → (place_of entries key ≡ Some place → has_place (places_under entries key.0) place ≡ true)
    → has_place (values_of (cond b (entry ∷ filter (λ entry. entry.0.0 == key.0) entries) (filter (λ entry. entry.0.0 == key.0) entries)))
    place ≡ true
under_step key place entry entries true true first at is rest =
    let here : entry.1 ≡ place = same_some is in
    rw (eq-eqb place entry.1 (sym here)) refl
  where
    same_some : Some entry.1 ≡ Some place → entry.1 ≡ place
    same_some h = cc
under_step key place entry entries true false first at is rest =
    or_right (nat_eq place entry.1) (has_place (places_under entries key.0) place) (rest is)
under_step key place entry entries false true first at is rest =
    let same : key.0 ≡ entry.0.0 = (same_key key entry.0 at).0 in
    absurd (differ (sym first ∙ eq-eqb entry.0.0 key.0 (sym same)))
  where
    differ : false ≡ true → ⊥
    differ h = cc
under_step key place entry entries false false first at is rest = rest is

pub place_is_under : (entries : List ((ℕ × ℕ) × ℕ)) (key : ℕ × ℕ) (place : ℕ) → place_of entries key ≡ Some place
    → has_place (places_under entries key.0) place ≡ true
place_is_under [] key place is = absurd (nothing is)
  where
    nothing : None ≡ Some place → ⊥
    nothing h = cc
place_is_under (entry ∷ entries) key place is =
    under_step key place entry entries (entry.0.0 == key.0) (is_at (pair_cmp key) entry.0) refl refl is (place_is_under entries key place)
