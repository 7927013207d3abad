-- Members gathered at places, place by place.
use Rattle.std.proofs.Common.{◌≡◌, ℕ, ◌<◌, ◌==◌, Bool, true, false, ◌||◌, cond, List, [], ◌∷◌, Option, None, Some, nat_cmp}
use Rattle.std.proofs.Common.{nat_eq, refl, sym, ap, subst, ◌∙◌, arith}
use Rattle.std.specs.List.{list_any, filter}
use Rattle.std.specs.Cmp.{ranked}
use Rattle.std.specs.List.{All, AllByRecursion}
use Rattle.std.specs.declared.cmp.Ordering.{Ordering}
use Rattle.std.specs.declared.cmp.Ordering.TheVariants.{Less, Equal, Greater}
use Rattle.std.specs.BTreeMap.{BTreeMap, is_at, get, IsOrdered}
use Rattle.std.specs.List.Sorted.{IsStrictlySortedBy}
use Rattle.std.specs.Map.{keys_of}
use Rattle.std.proofs.lemmas.Bool.{cond-true, cond-false, eq-eqb, eqb-true, both_ways}
use Rattle.std.proofs.lemmas.Map.Entries.{lookup-filter-keys}
use Rattle.std.proofs.lemmas.Map.Keys.{sorted_head}
use Rattle.std.proofs.lemmas.List.Elements.{All-head, All-tail, All-nil, All-cons, All-weaker}
use Rattle.std.proofs.lemmas.List.Kept.{IsStrictlySortedBy-filter}
use Rattle.realm_lists.specs.OrderedList.{member_at, has_place, members_at}
use Rattle.realm_lists.specs.Finding.{AreRising}
use Rattle.realm_lists.proofs.Finding.{at_is, at_same, same_at, rising_tail}

or_true : (b : Bool) → (b || true) ≡ true
or_true true = refl
or_true false = refl

or_false : (b : Bool) → (b || false) ≡ b
or_false true = refl
or_false false = refl

flip : (a b : ℕ) (c : Bool) → (a == b) ≡ c → (b == a) ≡ c
flip a b true h = eq-eqb b a (sym (eqb-true a b h))
flip a b false h = flip_off (b == a) refl
  where
    flip_off : (d : Bool) → (b == a) ≡ d → d ≡ false
    flip_off true e = absurd (both_ways (a == b) h (eq-eqb a b (sym (eqb-true b a e))))
    flip_off false e = refl

put_step : {T : Type 0} (rows : List (ℕ × T)) (place q : ℕ) (member : T) (seen b : Bool) → is_at (nat_cmp place) q ≡ b
    → member_at place rows ≡ Some member
    → cond b (Some member) (cond seen (member_at q rows) None) ≡ cond (seen || nat_eq q place) (member_at q rows) None
put_step {T} rows place q member seen true at is =
    let same : place ≡ q = at_same place q at in
    let here : nat_eq q place ≡ true = eq-eqb q place (sym same) in
    rw (here, or_true seen) (sym (ap (λ (p : ℕ). member_at p rows) (sym same) ∙ is))
put_step rows place q member seen false at is =
    let off : nat_eq q place ≡ false = flip place q false (sym (at_is place q) ∙ at) in
    rw (off, or_false seen) refl

-- the member at a place is put
pub put_found : {T : Type 0} (rows : List (ℕ × T)) (place q : ℕ) (member : T) (seen : Bool) (before after : Option T)
    → member_at place rows ≡ Some member → before ≡ cond seen (member_at q rows) None
    → after ≡ cond (is_at (nat_cmp place) q) (Some member) before
    → after ≡ cond (seen || nat_eq q place) (member_at q rows) None
put_found {T} rows place q member seen before after is was told =
    told ∙ ap (λ (o : Option T). cond (is_at (nat_cmp place) q) (Some member) o) was
    ∙ put_step rows place q member seen (is_at (nat_cmp place) q) refl is

none_step : {T : Type 0} (rows : List (ℕ × T)) (place q : ℕ) (seen b : Bool) → nat_eq q place ≡ b → member_at place rows ≡ None
    → cond seen (member_at q rows) None ≡ cond (seen || b) (member_at q rows) None
none_step rows place q seen false off is = rw (or_false seen) refl
none_step {T} rows place q true true at is = refl
none_step {T} rows place q false true at is = sym (ap (λ (p : ℕ). member_at p rows) (eqb-true q place at) ∙ is)

-- no member is at a place
pub put_none : {T : Type 0} (rows : List (ℕ × T)) (place q : ℕ) (seen : Bool) (before : Option T)
    → member_at place rows ≡ None → before ≡ cond seen (member_at q rows) None
    → before ≡ cond (seen || nat_eq q place) (member_at q rows) None
put_none rows place q seen before is was = was ∙ none_step rows place q seen (nat_eq q place) refl is

keys_step : {T : Type 0} (test : ℕ → Bool) (row : ℕ × T) (rows : List (ℕ × T)) (b : Bool)
    → keys_of (filter (λ row. test row.0) rows) ≡ filter test (keys_of rows)
    → keys_of (cond b (row ∷ filter (λ row. test row.0) rows) (filter (λ row. test row.0) rows))
    ≡ cond b (row.0 ∷ filter test (keys_of rows)) (filter test (keys_of rows))
keys_step test row rows true rest = ap (λ (keys : List ℕ). row.0 ∷ keys) rest
keys_step test row rows false rest = rest

keys_kept : {T : Type 0} (test : ℕ → Bool) (rows : List (ℕ × T))
    → keys_of (filter (λ (row : ℕ × T). test row.0) rows) ≡ filter test (keys_of rows)
keys_kept test [] = refl
keys_kept test (row ∷ rows) = keys_step test row rows (test row.0) (keys_kept test rows)

-- ---- rising lists with the same members at each number are equal

none_some : {T : Type 0} {x : T} → None ≡ Some x → ⊥
none_some h = cc

same_some : {T : Type 0} {x y : T} → Some x ≡ Some y → x ≡ y
same_some h = cc

above_from : {T : Type 0} (place : ℕ) (rows : List (ℕ × T)) → AllByRecursion (λ other. nat_cmp place other ≡ Less) (keys_of rows)
    → All (λ (row : ℕ × T). place < row.0) rows
above_from {T} place [] h = All-nil (λ (row : ℕ × T). place < row.0)
above_from {T} place (row ∷ rows) h =
    All-cons (λ (row : ℕ × T). place < row.0) row rows (ranked place row.0 Less (sym h.0)) (above_from place rows h.1)

above_head : {T : Type 0} (row : ℕ × T) (rows : List (ℕ × T)) → AreRising (row ∷ rows) → All (λ (other : ℕ × T). row.0 < other.0) rows
above_head row rows h = above_from row.0 rows (sorted_head nat_cmp row.0 (keys_of rows) h)

absent : {T : Type 0} (q : ℕ) (rows : List (ℕ × T)) → All (λ (row : ℕ × T). q < row.0) rows → member_at q rows ≡ None
absent q [] above = refl
absent {T} q (row ∷ rows) above =
    let Above : ℕ × T → Type 0 = λ row. q < row.0 in
    let before : q < row.0 = All-head Above row rows above in
    cond-false (is_at (nat_cmp q) row.0) (Some row.1) (member_at q rows)
    (off (is_at (nat_cmp q) row.0) refl before) ∙ absent q rows (All-tail Above row rows above)
  where
    off : (b : Bool) → is_at (nat_cmp q) row.0 ≡ b → q < row.0 → is_at (nat_cmp q) row.0 ≡ false
    off false h before = h
    off true h before = let same = at_same q row.0 h in absurd (omega (arith, same, before))

at_head : {T : Type 0} (row : ℕ × T) (rows : List (ℕ × T)) (q : ℕ) → q ≡ row.0 → member_at q (row ∷ rows) ≡ Some row.1
at_head row rows q same = cond-true (is_at (nat_cmp q) row.0) (Some row.1) (member_at q rows) (same_at q row.0 same)

heads : {T : Type 0} (a b : ℕ × T) (as_rows bs : List (ℕ × T)) (order : Ordering) → order ≡ nat_cmp a.0 b.0 → AreRising (a ∷ as_rows)
    → AreRising (b ∷ bs) → ((q : ℕ) → member_at q (a ∷ as_rows) ≡ member_at q (b ∷ bs)) → a.0 ≡ b.0
heads {T} a b as_rows bs Less is rises_a rises_b told =
    let before : a.0 < b.0 = ranked a.0 b.0 Less is in
    let none : member_at a.0 (b ∷ bs) ≡ None = absent a.0 (b ∷ bs)
    (All-cons (λ (row : ℕ × T). a.0 < row.0) b bs before
    (All-weaker (λ (row : ℕ × T). b.0 < row.0) (λ (row : ℕ × T). a.0 < row.0) (λ row more. omega (arith, before, more)) bs
    (above_head b bs rises_b))) in
    absurd (none_some (sym none ∙ sym (told a.0) ∙ at_head a as_rows a.0 refl))
heads a b as_rows bs Equal is rises_a rises_b told = ranked a.0 b.0 Equal is
heads {T} a b as_rows bs Greater is rises_a rises_b told =
    let before : b.0 < a.0 = ranked a.0 b.0 Greater is in
    let none : member_at b.0 (a ∷ as_rows) ≡ None = absent b.0 (a ∷ as_rows)
    (All-cons (λ (row : ℕ × T). b.0 < row.0) a as_rows before
    (All-weaker (λ (row : ℕ × T). a.0 < row.0) (λ (row : ℕ × T). b.0 < row.0) (λ row more. omega (arith, before, more)) as_rows
    (above_head a as_rows rises_a))) in
    absurd (none_some (sym none ∙ told b.0 ∙ at_head b bs b.0 refl))

tails : {T : Type 0} (a b : ℕ × T) (as_rows bs : List (ℕ × T)) (q : ℕ) (here : Bool) → is_at (nat_cmp q) a.0 ≡ here → a.0 ≡ b.0
    → AreRising (a ∷ as_rows) → AreRising (b ∷ bs) → member_at q (a ∷ as_rows) ≡ member_at q (b ∷ bs)
    → member_at q as_rows ≡ member_at q bs
tails {T} a b as_rows bs q true at same rises_a rises_b told =
    let first : q ≡ a.0 = at_same q a.0 at in
    absent q as_rows (All-weaker (λ (row : ℕ × T). a.0 < row.0) (λ (row : ℕ × T). q < row.0)
    (λ row more. omega (arith, first, more)) as_rows (above_head a as_rows rises_a))
    ∙ sym (absent q bs (All-weaker (λ (row : ℕ × T). b.0 < row.0) (λ (row : ℕ × T). q < row.0)
    (λ row more. omega (arith, first, same, more)) bs (above_head b bs rises_b)))
tails a b as_rows bs q false at same rises_a rises_b told =
    sym (cond-false (is_at (nat_cmp q) a.0) (Some a.1) (member_at q as_rows) at) ∙ told
    ∙ cond-false (is_at (nat_cmp q) b.0) (Some b.1) (member_at q bs) (ap (is_at (nat_cmp q)) (sym same) ∙ at)

pub same_rows : {T : Type 0} (rows others : List (ℕ × T)) → AreRising rows → AreRising others
    → ((q : ℕ) → member_at q rows ≡ member_at q others) → rows ≡ others
same_rows [] [] rises_a rises_b told = refl
same_rows [] (b ∷ bs) rises_a rises_b told = absurd (none_some (told b.0 ∙ at_head b bs b.0 refl))
same_rows (a ∷ as_rows) [] rises_a rises_b told = absurd (none_some (sym (told a.0) ∙ at_head a as_rows a.0 refl))
same_rows (a ∷ as_rows) (b ∷ bs) rises_a rises_b told =
    let first : a.0 ≡ b.0 = heads a b as_rows bs (nat_cmp a.0 b.0) refl rises_a rises_b told in
    let value : a.1 ≡ b.1 = same_some (sym (at_head a as_rows a.0 refl) ∙ told a.0 ∙ at_head b bs a.0 first) in
    let rest = same_rows as_rows bs (rising_tail a as_rows rises_a) (rising_tail b bs rises_b)
    (λ q. tails a b as_rows bs q (is_at (nat_cmp q) a.0) refl first rises_a rises_b (told q)) in
    λ i. (first i, value i) ∷ rest i

-- what has at each number what the members at these places have is those members
pub gathered_all : {T : Type 0} (places : List ℕ) (rows : List (ℕ × T)) (found : BTreeMap ℕ T)
    → AreRising rows → IsOrdered nat_cmp found
    → ((q : ℕ) → get nat_cmp found q ≡ cond (list_any (nat_eq q) places) (member_at q rows) None)
    → found.entries ≡ members_at places rows
gathered_all {T} places rows found rising ordered told =
    let rises : AreRising (members_at places rows) = subst (IsStrictlySortedBy nat_cmp) (sym (keys_kept (has_place places) rows))
    (IsStrictlySortedBy-filter nat_cmp (has_place places) (keys_of rows) rising) in
    same_rows found.entries (members_at places rows) ordered rises
    (λ q. told q ∙ sym (lookup-filter-keys (is_at (nat_cmp q)) (has_place places) (has_place places q)
    (λ place at. ap (has_place places) (sym (at_same q place at))) rows))
