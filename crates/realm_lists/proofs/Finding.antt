-- What a look-up finds is what a walk over the list finds; and look-ups go on finding when a member comes or goes.
use Rattle.std.proofs.Common.{◌≡◌, ℕ, ◌==◌, Bool, true, false, not, ◌||◌, cond, List, [], ◌∷◌, ◌++◌, map, filter, find, Option}
use Rattle.std.proofs.Common.{None, Some, nat_cmp}
use Rattle.std.proofs.Common.{refl, sym, ap, ◌∙◌, ◌⊎◌, ⊎_elim, is_some, subst}
use Rattle.std.specs.List.{All, list_any}
use Rattle.std.specs.Cmp.{unsigned_tied, nat_cmp_is}
use Rattle.std.specs.List.{AllByRecursion}
use Rattle.std.specs.declared.cmp.Ordering.TheVariants.{Less, Equal}
use Rattle.std.specs.BTreeMap.{is_at}
use Rattle.std.specs.Map.{keys_of}
use Rattle.std.proofs.lemmas.Bool.{cond-true, cond-false, both_ways, eqb-true, eq-eqb, false_from_ne_true, false≢true}
use Rattle.std.proofs.lemmas.List.Elements.{All-head, All-tail, All-nil, All-cons, All-weaker, All-push}
use Rattle.std.proofs.lemmas.Map.Keys.{sorted_head, sorted_tail}
use Rattle.realm_lists.specs.OrderedList.{members, member_at, without, with_member}
use Rattle.realm_lists.specs.Finding.{AreRising, Leads, Finds, passing, found_at}

-- ---- places

-- places differ if their numbers do
pub at_is : (place other : ℕ) → is_at (nat_cmp place) other ≡ (place == other)
at_is place other = unsigned_tied place other

pub at_same : (place other : ℕ) → is_at (nat_cmp place) other ≡ true → place ≡ other
at_same place other h = eqb-true place other (sym (at_is place other) ∙ h)

pub same_at : (place other : ℕ) → place ≡ other → is_at (nat_cmp place) other ≡ true
same_at place other h = at_is place other ∙ eq-eqb place other h

not_less : (place other : ℕ) → nat_cmp place other ≡ Less → place ≡ other → ⊥
not_less place other less same = differ (sym less ∙ sym (nat_cmp_is place other Equal same))
  where
    differ : Less ≡ Equal → ⊥
    differ p = cc

apart_from : {T : Type 0} (place : ℕ) (rows : List (ℕ × T)) → AllByRecursion (λ other. nat_cmp place other ≡ Less) (keys_of rows)
    → All (λ (row : ℕ × T). place ≡ row.0 → ⊥) rows
apart_from {T} place [] h = All-nil (λ (row : ℕ × T). place ≡ row.0 → ⊥)
apart_from {T} place (row ∷ rows) h =
    All-cons (λ (row : ℕ × T). place ≡ row.0 → ⊥) row rows (not_less place row.0 h.0) (apart_from place rows h.1)

-- no other member is at the first one's place
pub rising_head : {T : Type 0} (row : ℕ × T) (rows : List (ℕ × T)) → AreRising (row ∷ rows)
    → All (λ (other : ℕ × T). row.0 ≡ other.0 → ⊥) rows
rising_head row rows h = apart_from row.0 rows (sorted_head nat_cmp row.0 (keys_of rows) h)

pub rising_tail : {T : Type 0} (row : ℕ × T) (rows : List (ℕ × T)) → AreRising (row ∷ rows) → AreRising rows
rising_tail row rows h = sorted_tail nat_cmp row.0 (keys_of rows) h

-- ---- if none passes

pub find_none : {T : Type 0} (test : T → Bool) (rows : List (ℕ × T)) → All (λ (row : ℕ × T). test row.1 ≡ false) rows
    → find test (members rows) ≡ None
find_none test [] none = refl
find_none {T} test (row ∷ rows) none =
    let Off : ℕ × T → Type 0 = λ row. test row.1 ≡ false in
    cond-false (test row.1) (Some row.1) (find test (members rows)) (All-head Off row rows none)
    ∙ find_none test rows (All-tail Off row rows none)

pub keep_all : {T : Type 0} (test : T → Bool) (rows : List (ℕ × T)) → All (λ (row : ℕ × T). test row.1 ≡ false) rows
    → filter (λ member. not (test member)) (members rows) ≡ members rows
keep_all test [] none = refl
keep_all {T} test (row ∷ rows) none =
    let Off : ℕ × T → Type 0 = λ row. test row.1 ≡ false in
    let here : not (test row.1) ≡ true = ap not (All-head Off row rows none) in
    let rest = filter (λ member. not (test member)) (members rows) in
    cond-true (not (test row.1)) (row.1 ∷ rest) rest here
    ∙ ap (λ (kept : List T). row.1 ∷ kept) (keep_all test rows (All-tail Off row rows none))

some_is : {place other : ℕ} → Some place ≡ Some other → place ≡ other
some_is h = cc

none_is_some : {place : ℕ} → None ≡ Some place → ⊥
none_is_some h = cc

-- none passes if the look-up gives none
pub none_passes : {T : Type 0} (test : T → Bool) (rows : List (ℕ × T)) → Leads test None rows
    → All (λ (row : ℕ × T). test row.1 ≡ false) rows
none_passes {T} test rows leads =
    All-weaker (λ (row : ℕ × T). test row.1 ≡ true → None ≡ Some row.0) (λ (row : ℕ × T). test row.1 ≡ false)
    (λ row h. false_from_ne_true (test row.1) (λ here. none_is_some (h here))) rows leads

-- nor if it gives the place of another
pub others_fail : {T : Type 0} (test : T → Bool) (place : ℕ) (rows : List (ℕ × T)) → Leads test (Some place) rows
    → All (λ (row : ℕ × T). place ≡ row.0 → ⊥) rows → All (λ (row : ℕ × T). test row.1 ≡ false) rows
others_fail {T} test place rows leads apart k d within =
    false_from_ne_true _ (λ here. apart k d within (some_is (leads k d within here)))

-- ---- what is found

found_step : {T : Type 0} (test : T → Bool) (place : ℕ) (row : ℕ × T) (rows : List (ℕ × T)) (b c : Bool) → test row.1 ≡ b
    → is_at (nat_cmp place) row.0 ≡ c → (b ≡ true → place ≡ row.0) → (c ≡ true → find test (members rows) ≡ None)
    → find test (members rows) ≡ passing test (member_at place rows)
    → cond b (Some row.1) (find test (members rows)) ≡ passing test (cond c (Some row.1) (member_at place rows))
found_step test place row rows true true h at here none rest = sym (cond-true (test row.1) (Some row.1) None h)
found_step test place row rows true false h at here none rest =
    absurd (both_ways (is_at (nat_cmp place) row.0) at (same_at place row.0 (here refl)))
found_step test place row rows false true h at here none rest = none refl ∙ sym (cond-false (test row.1) (Some row.1) None h)
found_step test place row rows false false h at here none rest = rest

found_is_some : {T : Type 0} (test : T → Bool) (place : ℕ) (rows : List (ℕ × T)) → AreRising rows → Leads test (Some place) rows
    → find test (members rows) ≡ passing test (member_at place rows)
found_is_some test place [] rising leads = refl
found_is_some {T} test place (row ∷ rows) rising leads =
    let Lead : ℕ × T → Type 0 = λ row. test row.1 ≡ true → Some place ≡ Some row.0 in
    found_step test place row rows (test row.1) (is_at (nat_cmp place) row.0) refl refl
    (λ here. some_is (All-head Lead row rows leads here))
    (λ at. find_none test rows (others_fail test place rows (All-tail Lead row rows leads)
    (All-weaker (λ (other : ℕ × T). row.0 ≡ other.0 → ⊥) (λ (other : ℕ × T). place ≡ other.0 → ⊥)
    (λ other apart same. apart (sym (at_same place row.0 at) ∙ same)) rows (rising_head row rows rising))))
    (found_is_some test place rows (rising_tail row rows rising) (All-tail Lead row rows leads))

-- what a walk finds is the member at the place that the look-up gives, if it passes
pub found_is : {T : Type 0} (test : T → Bool) (place : Option ℕ) (rows : List (ℕ × T)) → AreRising rows → Leads test place rows
    → find test (members rows) ≡ found_at test place rows
found_is test None rows rising leads = find_none test rows (none_passes test rows leads)
found_is test (Some place) rows rising leads = found_is_some test place rows rising leads

any_step : {T : Type 0} (test : T → Bool) (x : T) (list : List T) (b : Bool) → list_any test list ≡ is_some (find test list)
    → (b || list_any test list) ≡ is_some (cond b (Some x) (find test list))
any_step test x list true rest = refl
any_step test x list false rest = rest

pub any_is_find : {T : Type 0} (test : T → Bool) (list : List T) → list_any test list ≡ is_some (find test list)
any_is_find test [] = refl
any_is_find test (x ∷ list) = any_step test x list (test x) (any_is_find test list)

-- whether one passes shows at the place
pub any_is : {T : Type 0} (test : T → Bool) (place : Option ℕ) (rows : List (ℕ × T)) → AreRising rows → Leads test place rows
    → list_any test (members rows) ≡ is_some (found_at test place rows)
any_is test place rows rising leads = any_is_find test (members rows) ∙ ap is_some (found_is test place rows rising leads)

-- ---- one is taken out

without_step : {T : Type 0} (test : T → Bool) (place : ℕ) (row : ℕ × T) (rows : List (ℕ × T)) (member : T) (c : Bool)
    → is_at (nat_cmp place) row.0 ≡ c → test member ≡ true → cond c (Some row.1) (member_at place rows) ≡ Some member
    → (c ≡ false → test row.1 ≡ false)
    → (c ≡ true → filter (λ member. not (test member)) (members rows) ≡ members rows)
    → (member_at place rows ≡ Some member → filter (λ member. not (test member)) (members rows) ≡ members (without place rows))
    → filter (λ member. not (test member)) (members (row ∷ rows)) ≡ members (cond c rows (row ∷ without place rows))
without_step {T} test place row rows member true at passes is off all rest =
    let same : row.1 ≡ member = member_is is in
    let rest = filter (λ member. not (test member)) (members rows) in
    cond-false (not (test row.1)) (row.1 ∷ rest) rest (ap (λ (x : T). not (test x)) same ∙ ap not passes) ∙ all refl
  where
    member_is : {x y : T} → Some x ≡ Some y → x ≡ y
    member_is h = cc
without_step {T} test place row rows member false at passes is off all rest =
    let kept = filter (λ member. not (test member)) (members rows) in
    cond-true (not (test row.1)) (row.1 ∷ kept) kept (ap not (off refl)) ∙ ap (λ (list : List T). row.1 ∷ list) (rest is)

-- if the member at the place passes, all others are kept
pub without_is : {T : Type 0} (test : T → Bool) (place : ℕ) (rows : List (ℕ × T)) (member : T) → AreRising rows
    → Leads test (Some place) rows → member_at place rows ≡ Some member → test member ≡ true
    → filter (λ member. not (test member)) (members rows) ≡ members (without place rows)
without_is test place [] member rising leads is passes = refl
without_is {T} test place (row ∷ rows) member rising leads is passes =
    let Lead : ℕ × T → Type 0 = λ row. test row.1 ≡ true → Some place ≡ Some row.0 in
    let more : Leads test (Some place) rows = All-tail Lead row rows leads in
    without_step test place row rows member (is_at (nat_cmp place) row.0) refl passes is
    (λ off. false_from_ne_true (test row.1)
    (λ here. both_ways (is_at (nat_cmp place) row.0) off (same_at place row.0 (some_is (All-head Lead row rows leads here)))))
    (λ at. keep_all test rows (others_fail test place rows more
    (All-weaker (λ (other : ℕ × T). row.0 ≡ other.0 → ⊥) (λ (other : ℕ × T). place ≡ other.0 → ⊥)
    (λ other apart same. apart (sym (at_same place row.0 at) ∙ same)) rows (rising_head row rows rising))))
    (λ there. without_is test place rows member (rising_tail row rows rising) more there passes)

-- ---- look-ups go on finding

-- a look-up that gives another place only for keys whose test none passes
pub finds_more : {K T : Type 0} (test : K → T → Bool) (before after : K → Option ℕ) (rows : List (ℕ × T))
    → ((key : K) → (after key ≡ before key) ⊎ All (λ (row : ℕ × T). test key row.1 ≡ false) rows)
    → Finds test before rows → Finds test after rows
finds_more {K} {T} test before after rows other finds key =
    ⊎_elim
    (λ same k d within here. same ∙ finds key k d within here)
    (λ (none : All (λ (row : ℕ × T). test key row.1 ≡ false) rows) k d within here. absurd (both_ways _ (none k d within) here))
    (other key)

-- a member comes as the last one
pub finds_pushed : {K T : Type 0} (test : K → T → Bool) (place_of : K → Option ℕ) (rows : List (ℕ × T)) (place : ℕ) (member : T)
    → ((key : K) → test key member ≡ true → place_of key ≡ Some place)
    → Finds test place_of rows → Finds test place_of (rows ++ (place, member) ∷ [])
finds_pushed {K} {T} test place_of rows place member new finds key =
    All-push (λ (row : ℕ × T). test key row.1 ≡ true → place_of key ≡ Some row.0) rows (place, member) (finds key) (new key)

apart_step : {T : Type 0} (P : ℕ × T → Type 0) (place : ℕ) (row : ℕ × T) (rows : List (ℕ × T)) (c : Bool)
    → is_at (nat_cmp place) row.0 ≡ c → P row → All P rows → All (λ (other : ℕ × T). row.0 ≡ other.0 → ⊥) rows
    → All (λ (row : ℕ × T). P row × (place ≡ row.0 → ⊥)) (without place rows)
    → All (λ (row : ℕ × T). P row × (place ≡ row.0 → ⊥)) (cond c rows (row ∷ without place rows))
apart_step P place row rows true at here all apart rest =
    λ k d within. (all k d within, λ same. apart k d within (sym (at_same place row.0 at) ∙ same))
apart_step {T} P place row rows false at here all apart rest =
    All-cons (λ (row : ℕ × T). P row × (place ≡ row.0 → ⊥)) row (without place rows)
    (here, λ same. both_ways (is_at (nat_cmp place) row.0) at (same_at place row.0 same)) rest

without_apart : {T : Type 0} (P : ℕ × T → Type 0) (place : ℕ) (rows : List (ℕ × T)) → AreRising rows → All P rows
    → All (λ (row : ℕ × T). P row × (place ≡ row.0 → ⊥)) (without place rows)
without_apart {T} P place [] rising all = All-nil (λ (row : ℕ × T). P row × (place ≡ row.0 → ⊥))
without_apart P place (row ∷ rows) rising all =
    apart_step P place row rows (is_at (nat_cmp place) row.0) refl (All-head P row rows all) (All-tail P row rows all)
    (rising_head row rows rising) (without_apart P place rows (rising_tail row rows rising) (All-tail P row rows all))

-- the member at a place goes, and with it what the look-up gives for it
pub finds_without : {K T : Type 0} (test : K → T → Bool) (before after : K → Option ℕ) (rows : List (ℕ × T)) (place : ℕ)
    → AreRising rows → ((key : K) → (after key ≡ before key) ⊎ (before key ≡ Some place))
    → Finds test before rows → Finds test after (without place rows)
finds_without {K} {T} test before after rows place rising other finds key =
    All-weaker (λ (row : ℕ × T). (test key row.1 ≡ true → before key ≡ Some row.0) × (place ≡ row.0 → ⊥))
    (λ (row : ℕ × T). test key row.1 ≡ true → after key ≡ Some row.0)
    (λ row h here. ⊎_elim
    (λ same. same ∙ h.0 here)
    (λ gone. absurd (h.1 (some_is (sym gone ∙ h.0 here))))
    (other key))
    (without place rows)
    (without_apart (λ (row : ℕ × T). test key row.1 ≡ true → before key ≡ Some row.0) place rows rising (finds key))

leads_step : {T : Type 0} (P : ℕ × T → Type 0) (place : ℕ) (member : T) (row : ℕ × T) (rows : List (ℕ × T)) (c : Bool)
    → is_at (nat_cmp place) row.0 ≡ c → P (place, member) → P row → All P rows → All P (with_member place member rows)
    → All P (cond c ((row.0, member) ∷ rows) (row ∷ with_member place member rows))
leads_step P place member row rows true at new here all rest =
    All-cons P (row.0, member) rows (subst (λ (n : ℕ). P (n, member)) (at_same place row.0 at) new) all
leads_step P place member row rows false at new here all rest = All-cons P row (with_member place member rows) here rest

with_all : {T : Type 0} (P : ℕ × T → Type 0) (place : ℕ) (member : T) (rows : List (ℕ × T)) → P (place, member) → All P rows
    → All P (with_member place member rows)
with_all P place member [] new all = All-nil P
with_all P place member (row ∷ rows) new all =
    leads_step P place member row rows (is_at (nat_cmp place) row.0) refl new (All-head P row rows all) (All-tail P row rows all)
    (with_all P place member rows new (All-tail P row rows all))

-- another member replaces the one at a place
pub finds_with : {K T : Type 0} (test : K → T → Bool) (place_of : K → Option ℕ) (rows : List (ℕ × T)) (place : ℕ) (member : T)
    → ((key : K) → test key member ≡ true → place_of key ≡ Some place)
    → Finds test place_of rows → Finds test place_of (with_member place member rows)
finds_with {K} {T} test place_of rows place member new finds key =
    with_all (λ (row : ℕ × T). test key row.1 ≡ true → place_of key ≡ Some row.0) place member rows (new key) (finds key)

-- ---- one is changed

change_none : {T : Type 0} (test : T → Bool) (change : T → T) (rows : List (ℕ × T)) → All (λ (row : ℕ × T). test row.1 ≡ false) rows
    → map (λ member. cond (test member) (change member) member) (members rows) ≡ members rows
change_none test change [] none = refl
change_none {T} test change (row ∷ rows) none =
    let Off : ℕ × T → Type 0 = λ row. test row.1 ≡ false in
    λ i. cond-false (test row.1) (change row.1) row.1 (All-head Off row rows none) i
    ∷ change_none test change rows (All-tail Off row rows none) i

change_step : {T : Type 0} (test : T → Bool) (change : T → T) (place : ℕ) (row : ℕ × T) (rows : List (ℕ × T)) (member : T) (c : Bool)
    → is_at (nat_cmp place) row.0 ≡ c → test member ≡ true → cond c (Some row.1) (member_at place rows) ≡ Some member
    → (c ≡ false → test row.1 ≡ false)
    → (c ≡ true → map (λ member. cond (test member) (change member) member) (members rows) ≡ members rows)
    → (member_at place rows ≡ Some member
    → map (λ member. cond (test member) (change member) member) (members rows) ≡ members (with_member place (change member) rows))
    → map (λ member. cond (test member) (change member) member) (members (row ∷ rows))
    ≡ members (cond c ((row.0, change member) ∷ rows) (row ∷ with_member place (change member) rows))
change_step {T} test change place row rows member true at passes is off all rest =
    let same : row.1 ≡ member = member_is is in
    λ i. (cond-true (test row.1) (change row.1) row.1 (ap test same ∙ passes) ∙ ap change same) i ∷ all refl i
  where
    member_is : {x y : T} → Some x ≡ Some y → x ≡ y
    member_is h = cc
change_step {T} test change place row rows member false at passes is off all rest =
    λ i. cond-false (test row.1) (change row.1) row.1 (off refl) i ∷ rest is i

-- if the member at the place passes, only it is changed
pub change_is : {T : Type 0} (test : T → Bool) (change : T → T) (place : ℕ) (rows : List (ℕ × T)) (member : T) → AreRising rows
    → Leads test (Some place) rows → member_at place rows ≡ Some member → test member ≡ true
    → map (λ member. cond (test member) (change member) member) (members rows) ≡ members (with_member place (change member) rows)
change_is test change place [] member rising leads is passes = refl
change_is {T} test change place (row ∷ rows) member rising leads is passes =
    let Lead : ℕ × T → Type 0 = λ row. test row.1 ≡ true → Some place ≡ Some row.0 in
    let more : Leads test (Some place) rows = All-tail Lead row rows leads in
    change_step test change place row rows member (is_at (nat_cmp place) row.0) refl passes is
    (λ off. false_from_ne_true (test row.1)
    (λ here. both_ways (is_at (nat_cmp place) row.0) off (same_at place row.0 (some_is (All-head Lead row rows leads here)))))
    (λ at. change_none test change rows (others_fail test place rows more
    (All-weaker (λ (other : ℕ × T). row.0 ≡ other.0 → ⊥) (λ (other : ℕ × T). place ≡ other.0 → ⊥)
    (λ other apart same. apart (sym (at_same place row.0 at) ∙ same)) rows (rising_head row rows rising))))
    (λ there. change_is test change place rows member (rising_tail row rows rising) more there passes)

-- ---- if nothing is found

none_step : {T : Type 0} (test : T → Bool) (row : ℕ × T) (rows : List (ℕ × T)) (b : Bool) → test row.1 ≡ b
    → cond b (Some row.1) (find test (members rows)) ≡ None
    → (find test (members rows) ≡ None → All (λ (row : ℕ × T). test row.1 ≡ false) rows)
    → All (λ (row : ℕ × T). test row.1 ≡ false) (row ∷ rows)
none_step {T} test row rows true h none rest = absurd (differ none)
  where
    differ : {x : T} → Some x ≡ None → ⊥
    differ p = cc
none_step {T} test row rows false h none rest = All-cons (λ (row : ℕ × T). test row.1 ≡ false) row rows h (rest none)

pub none_from_find : {T : Type 0} (test : T → Bool) (rows : List (ℕ × T)) → find test (members rows) ≡ None
    → All (λ (row : ℕ × T). test row.1 ≡ false) rows
none_from_find {T} test [] none = All-nil (λ (row : ℕ × T). test row.1 ≡ false)
none_from_find {T} test (row ∷ rows) none =
    none_step test row rows (test row.1) refl none (none_from_find test rows)

pub kept_all : {T : Type 0} (test : T → Bool) (rows : List (ℕ × T)) → find test (members rows) ≡ None
    → filter (λ member. not (test member)) (members rows) ≡ members rows
kept_all test rows none = keep_all test rows (none_from_find test rows none)

pub unchanged_all : {T : Type 0} (test : T → Bool) (change : T → T) (rows : List (ℕ × T)) → find test (members rows) ≡ None
    → map (λ member. cond (test member) (change member) member) (members rows) ≡ members rows
unchanged_all test change rows none = change_none test change rows (none_from_find test rows none)

-- ---- members among others

among_step : {T : Type 0} (test : T → Bool) (row : ℕ × T) (kept rows : List (ℕ × T)) (b c : Bool) → test row.1 ≡ b → (b ≡ true → c ≡ true)
    → filter test (members kept) ≡ filter test (members rows)
    → filter test (members (cond c (row ∷ kept) kept)) ≡ cond b (row.1 ∷ filter test (members rows)) (filter test (members rows))
among_step {T} test row kept rows true true h within rest =
    cond-true (test row.1) (row.1 ∷ filter test (members kept)) (filter test (members kept)) h
    ∙ ap (λ (list : List T). row.1 ∷ list) rest
among_step test row kept rows true false h within rest = absurd (false≢true (within refl))
among_step test row kept rows false true h within rest =
    cond-false (test row.1) (row.1 ∷ filter test (members kept)) (filter test (members kept)) h ∙ rest
among_step test row kept rows false false h within rest = rest

-- those that pass are among more
pub among_is : {T : Type 0} (test : T → Bool) (more : ℕ × T → Bool) (rows : List (ℕ × T))
    → All (λ (row : ℕ × T). test row.1 ≡ true → more row ≡ true) rows
    → filter test (members (filter more rows)) ≡ filter test (members rows)
among_is test more [] within = refl
among_is {T} test more (row ∷ rows) within =
    let Within : ℕ × T → Type 0 = λ row. test row.1 ≡ true → more row ≡ true in
    among_step test row (filter more rows) rows (test row.1) (more row) refl (All-head Within row rows within)
    (among_is test more rows (All-tail Within row rows within))
