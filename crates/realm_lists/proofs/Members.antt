-- A member at a place: what holds of all holds of it, how many are left without it, and what finds the others.
use Rattle.std.proofs.Common.{◌≡◌, ℕ, ◌+◌, Bool, true, false, cond, List, [], ◌∷◌, ◌++◌, length, filter, Option}
use Rattle.std.proofs.Common.{None, Some, nat_cmp, refl, sym, ap, subst, ◌∙◌, arith}
use Rattle.std.specs.List.{All, AllPairs, list_any}
use Rattle.std.specs.BTreeMap.{is_at}
use Rattle.std.proofs.lemmas.Bool.{cond-true, cond-false, or_parts}
use Rattle.std.proofs.lemmas.List.Elements.{All-head, All-tail, All-nil, All-cons, All-map}
use Rattle.std.proofs.lemmas.List.Kept.{AllPairs-cons}
use Rattle.realm_lists.specs.OrderedList.{members, member_at, without}
use Rattle.realm_lists.specs.Finding.{AreRising, Leads, Finds}
use Rattle.realm_lists.proofs.Finding.{at_same, rising_head, rising_tail}

same_some : {T : Type 0} {x y : T} → Some x ≡ Some y → x ≡ y
same_some h = cc

holds_step : {T : Type 0} (P : ℕ × T → Type 0) (place : ℕ) (row : ℕ × T) (rows : List (ℕ × T)) (member : T) (c : Bool)
    → is_at (nat_cmp place) row.0 ≡ c → cond c (Some row.1) (member_at place rows) ≡ Some member → P row
    → (member_at place rows ≡ Some member → P (place, member)) → P (place, member)
holds_step P place row rows member true at is here rest =
    let number : row.0 ≡ place = sym (at_same place row.0 at) in
    let held : row.1 ≡ member = same_some is in
    subst P (λ i. (number i, held i)) here
holds_step P place row rows member false at is here rest = rest is

-- what holds of all holds of the member at a place
pub at_holds : {T : Type 0} (P : ℕ × T → Type 0) (place : ℕ) (rows : List (ℕ × T)) (member : T) → member_at place rows ≡ Some member
    → All P rows → P (place, member)
at_holds {T} P place [] member is all = absurd (nothing is)
  where
    nothing : None ≡ Some member → ⊥
    nothing h = cc
at_holds P place (row ∷ rows) member is all =
    holds_step P place row rows member (is_at (nat_cmp place) row.0) refl is (All-head P row rows all)
    (λ there. at_holds P place rows member there (All-tail P row rows all))

-- the member at a place that passes a key's test is the one that the look-up gives
pub leads_at : {T : Type 0} (test : T → Bool) (told : Option ℕ) (place : ℕ) (rows : List (ℕ × T)) (member : T)
    → member_at place rows ≡ Some member → test member ≡ true → Leads test told rows → told ≡ Some place
leads_at {T} test told place rows member is passes leads =
    at_holds (λ (row : ℕ × T). test row.1 ≡ true → told ≡ Some row.0) place rows member is leads passes

-- ---- how many pass

count_step : {T : Type 0} (test : T → Bool) (place : ℕ) (row : ℕ × T) (rows : List (ℕ × T)) (member : T) (b c : Bool)
    → test row.1 ≡ b → cond c (Some row.1) (member_at place rows) ≡ Some member
    → (member_at place rows ≡ Some member
    → length (filter test (members (without place rows))) + cond (test member) 1 0 ≡ length (filter test (members rows)))
    → length (filter test (members (cond c rows (row ∷ without place rows)))) + cond (test member) 1 0
    ≡ length (cond b (row.1 ∷ filter test (members rows)) (filter test (members rows)))
count_step test place row rows member true true h is rest =
    let passes : test member ≡ true = ap test (sym (same_some is)) ∙ h in
    let one : ◌≡◌ {A = ℕ} (cond (test member) 1 0) 1 = cond-true (test member) 1 0 passes in
    omega (arith, one)
count_step test place row rows member false true h is rest =
    let passes : test member ≡ false = ap test (sym (same_some is)) ∙ h in
    let none : ◌≡◌ {A = ℕ} (cond (test member) 1 0) 0 = cond-false (test member) 1 0 passes in
    omega (arith, none)
count_step {T} test place row rows member true false h is rest =
    let kept : filter test (members (row ∷ without place rows)) ≡ row.1 ∷ filter test (members (without place rows)) =
    cond-true (test row.1) (row.1 ∷ filter test (members (without place rows))) (filter test (members (without place rows))) h in
    let all = rest is in
    rw kept (omega (arith, all))
count_step {T} test place row rows member false false h is rest =
    let kept : filter test (members (row ∷ without place rows)) ≡ filter test (members (without place rows)) =
    cond-false (test row.1) (row.1 ∷ filter test (members (without place rows))) (filter test (members (without place rows))) h in
    rw kept (rest is)

-- one less passes if the member at a place passes and goes
pub count_without : {T : Type 0} (test : T → Bool) (place : ℕ) (rows : List (ℕ × T)) (member : T) → member_at place rows ≡ Some member
    → length (filter test (members (without place rows))) + cond (test member) 1 0 ≡ length (filter test (members rows))
count_without test place [] member is = absurd (nothing is)
  where
    nothing : None ≡ Some member → ⊥
    nothing h = cc
count_without test place (row ∷ rows) member is =
    count_step test place row rows member (test row.1) (is_at (nat_cmp place) row.0) refl is (count_without test place rows member)

-- the members with one after them
pub members_pushed : {T : Type 0} (rows : List (ℕ × T)) (place : ℕ) (member : T)
    → members (rows ++ (place, member) ∷ []) ≡ members rows ++ member ∷ []
members_pushed [] place member = refl
members_pushed {T} (row ∷ rows) place member = ap (λ (list : List T). row.1 ∷ list) (members_pushed rows place member)

counted_step : {T : Type 0} (test : T → Bool) (x : T) (list : List T) (member : T) (b : Bool)
    → length (filter test (list ++ member ∷ [])) ≡ length (filter test list) + cond (test member) 1 0
    → length (cond b (x ∷ filter test (list ++ member ∷ [])) (filter test (list ++ member ∷ [])))
    ≡ length (cond b (x ∷ filter test list) (filter test list)) + cond (test member) 1 0
counted_step test x list member true rest = omega (arith, rest)
counted_step test x list member false rest = rest

counted_one : {T : Type 0} (test : T → Bool) (member : T) (b : Bool)
    → length (cond b (member ∷ []) []) ≡ 0 + cond b 1 0
counted_one test member true = refl
counted_one test member false = refl

-- one more passes if the one that comes passes
pub count_pushed : {T : Type 0} (test : T → Bool) (list : List T) (member : T)
    → length (filter test (list ++ member ∷ [])) ≡ length (filter test list) + cond (test member) 1 0
count_pushed test [] member = counted_one test member (test member)
count_pushed test (x ∷ list) member = counted_step test x list member (test x) (count_pushed test list member)

-- ---- none passes, or one

pub none_from_any : {T : Type 0} (test : T → Bool) (rows : List (ℕ × T)) → list_any test (members rows) ≡ false
    → All (λ (row : ℕ × T). test row.1 ≡ false) rows
none_from_any {T} test [] none = All-nil (λ (row : ℕ × T). test row.1 ≡ false)
none_from_any {T} test (row ∷ rows) none =
    let parts = or_parts (test row.1) (list_any test (members rows)) none in
    All-cons (λ (row : ℕ × T). test row.1 ≡ false) row rows parts.0 (none_from_any test rows parts.1)

-- no two members pass the test of one key
pub all_apart : {K T : Type 0} (test : K → T → Bool) (place_of : K → Option ℕ) (rows : List (ℕ × T)) → AreRising rows
    → Finds test place_of rows
    → AllPairs (λ (a b : T). (key : K) → test key a ≡ true → test key b ≡ true → ⊥) (members rows)
all_apart test place_of [] rising finds = λ i j d before within. absurd (omega arith)
all_apart {K} {T} test place_of (row ∷ rows) rising finds =
    let Lead : K → ℕ × T → Type 0 = λ key row. test key row.1 ≡ true → place_of key ≡ Some row.0 in
    AllPairs-cons (λ (a b : T). (key : K) → test key a ≡ true → test key b ≡ true → ⊥) row.1 (members rows)
    (All-map (λ (b : T). (key : K) → test key row.1 ≡ true → test key b ≡ true → ⊥) (λ (other : ℕ × T). other.1) rows
    (λ k d within key here there.
    rising_head row rows rising k d within
    (same_some (sym (All-head (Lead key) row rows (finds key) here) ∙ All-tail (Lead key) row rows (finds key) k d within there))))
    (all_apart test place_of rows (rising_tail row rows rising) (λ key. All-tail (Lead key) row rows (finds key)))
