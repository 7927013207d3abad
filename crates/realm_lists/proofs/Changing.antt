-- Another member replaces the one at a place: what is at which place, how many pass, and what the look-ups give.
use Rattle.std.proofs.Common.{◌≡◌, ℕ, ◌+◌, Bool, true, false, cond, List, [], ◌∷◌, ◌++◌, length, filter, Option, None, Some, nat_cmp}
use Rattle.std.proofs.Common.{refl, sym, ap, subst, ◌∙◌, arith}
use Rattle.std.specs.List.{All, list_any}
use Rattle.std.specs.BTreeMap.{is_at}
use Rattle.std.proofs.lemmas.Bool.{cond-true, cond-false, both_ways}
use Rattle.std.proofs.lemmas.List.Elements.{All-head, All-tail, All-nil, All-cons}
use Rattle.realm_lists.specs.OrderedList.{members, member_at, with_member}
use Rattle.realm_lists.specs.Finding.{AreRising, IsIndex, is_passing}
use Rattle.realm_lists.proofs.Finding.{at_same, same_at, rising_head, rising_tail, finds_pushed}
use Rattle.realm_lists.proofs.Members.{leads_at, none_from_any}
use Rattle.realm_lists.proofs.Telling.{at_front, passing_is}

none_some : {T : Type 0} {x : T} → None ≡ Some x → ⊥
none_some h = cc

same_some : {T : Type 0} {x y : T} → Some x ≡ Some y → x ≡ y
same_some h = cc

-- ---- which member is where

here_step : {T : Type 0} (row : ℕ × T) (rows : List (ℕ × T)) (place : ℕ) (old new : T) (c : Bool) → is_at (nat_cmp place) row.0 ≡ c
    → cond c (Some row.1) (member_at place rows) ≡ Some old
    → (member_at place rows ≡ Some old → member_at place (with_member place new rows) ≡ Some new)
    → member_at place (cond c ((row.0, new) ∷ rows) (row ∷ with_member place new rows)) ≡ Some new
here_step row rows place old new true at is rest = cond-true (is_at (nat_cmp place) row.0) (Some new) (member_at place rows) at
here_step row rows place old new false at is rest =
    cond-false (is_at (nat_cmp place) row.0) (Some row.1) (member_at place (with_member place new rows)) at ∙ rest is

pub with_here : {T : Type 0} (rows : List (ℕ × T)) (place : ℕ) (old new : T) → member_at place rows ≡ Some old
    → member_at place (with_member place new rows) ≡ Some new
with_here [] place old new is = absurd (none_some is)
with_here (row ∷ rows) place old new is =
    here_step row rows place old new (is_at (nat_cmp place) row.0) refl is (with_here rows place old new)

elsewhere_step : {T : Type 0} (row : ℕ × T) (rows : List (ℕ × T)) (place other : ℕ) (new : T) (b c : Bool)
    → is_at (nat_cmp place) row.0 ≡ b → is_at (nat_cmp other) row.0 ≡ c → (place ≡ other → ⊥)
    → member_at other (with_member place new rows) ≡ member_at other rows
    → member_at other (cond b ((row.0, new) ∷ rows) (row ∷ with_member place new rows)) ≡ cond c (Some row.1) (member_at other rows)
elsewhere_step row rows place other new true true at here apart rest =
    absurd (apart (at_same place row.0 at ∙ sym (at_same other row.0 here)))
elsewhere_step row rows place other new true false at here apart rest =
    cond-false (is_at (nat_cmp other) row.0) (Some new) (member_at other rows) here
elsewhere_step {T} row rows place other new false c at here apart rest =
    ap (λ (o : Option T). cond (is_at (nat_cmp other) row.0) (Some row.1) o) rest
    ∙ ap (λ (b : Bool). cond b (Some row.1) (member_at other rows)) here

pub with_elsewhere : {T : Type 0} (rows : List (ℕ × T)) (place other : ℕ) (new : T) → (place ≡ other → ⊥)
    → member_at other (with_member place new rows) ≡ member_at other rows
with_elsewhere [] place other new apart = refl
with_elsewhere (row ∷ rows) place other new apart =
    elsewhere_step row rows place other new (is_at (nat_cmp place) row.0) (is_at (nat_cmp other) row.0) refl refl apart
    (with_elsewhere rows place other new apart)

swapped_step : {T : Type 0} (P : ℕ × T → Type 0) (place : ℕ) (new : T) (row : ℕ × T) (rows : List (ℕ × T)) (c : Bool)
    → is_at (nat_cmp place) row.0 ≡ c → P (place, new) → ((place ≡ row.0 → ⊥) → P row)
    → All (λ (row : ℕ × T). (place ≡ row.0 → ⊥) → P row) rows → All (λ (other : ℕ × T). row.0 ≡ other.0 → ⊥) rows
    → All P (with_member place new rows) → All P (cond c ((row.0, new) ∷ rows) (row ∷ with_member place new rows))
swapped_step {T} P place new row rows true at came here all apart rest =
    All-cons P (row.0, new) rows (subst (λ (n : ℕ). P (n, new)) (at_same place row.0 at) came)
    (λ k d within. all k d within (λ same. apart k d within (sym (at_same place row.0 at) ∙ same)))
swapped_step P place new row rows false at came here all apart rest =
    All-cons P row (with_member place new rows) (here (λ same. both_ways (is_at (nat_cmp place) row.0) at (same_at place row.0 same)))
    rest

-- what holds of the new member, and of those at other places, holds of all
pub swapped : {T : Type 0} (P : ℕ × T → Type 0) (place : ℕ) (new : T) (rows : List (ℕ × T)) → AreRising rows → P (place, new)
    → All (λ (row : ℕ × T). (place ≡ row.0 → ⊥) → P row) rows → All P (with_member place new rows)
swapped P place new [] rising came all = All-nil P
swapped {T} P place new (row ∷ rows) rising came all =
    let Kept : ℕ × T → Type 0 = λ row. (place ≡ row.0 → ⊥) → P row in
    swapped_step P place new row rows (is_at (nat_cmp place) row.0) refl came (All-head Kept row rows all) (All-tail Kept row rows all)
    (rising_head row rows rising) (swapped P place new rows (rising_tail row rows rising) came (All-tail Kept row rows all))

-- ---- how many pass

sized : {T : Type 0} (x : T) (list : List T) (b c : Bool) → b ≡ c → length (cond b (x ∷ list) list) ≡ length list + cond c 1 0
sized x list true true h = omega arith
sized x list false false h = omega arith
sized x list true false h = cc
sized x list false true h = cc

count_step : {T : Type 0} (test : T → Bool) (place : ℕ) (row : ℕ × T) (rows : List (ℕ × T)) (old new : T) (b c d : Bool)
    → test row.1 ≡ b → test new ≡ d → cond c (Some row.1) (member_at place rows) ≡ Some old
    → (member_at place rows ≡ Some old
    → length (filter test (members (with_member place new rows))) + cond (test old) 1 0
    ≡ length (filter test (members rows)) + cond (test new) 1 0)
    → length (filter test (members (cond c ((row.0, new) ∷ rows) (row ∷ with_member place new rows)))) + cond (test old) 1 0
    ≡ length (cond b (row.1 ∷ filter test (members rows)) (filter test (members rows))) + cond d 1 0
count_step {T} test place row rows old new b true d h n is rest =
    let kept : List T = filter test (members rows) in
    let one : ◌≡◌ {A = ℕ} (cond (test old) 1 0) (cond b 1 0) = ap (λ (b : Bool). cond b 1 0) (ap test (sym (same_some is)) ∙ h) in
    let head = sized new kept (test new) d n in
    let tail = sized row.1 kept b b refl in
    let all : length (cond (test new) (new ∷ kept) kept) + cond (test old) 1 0 ≡ length (cond b (row.1 ∷ kept) kept) + cond d 1 0 =
    omega (arith, one, head, tail) in
    all
count_step {T} test place row rows old new true false d h n is rest =
    let kept : filter test (members (row ∷ with_member place new rows)) ≡ row.1 ∷ filter test (members (with_member place new rows)) =
    cond-true (test row.1) (row.1 ∷ filter test (members (with_member place new rows))) (filter test (members (with_member place new rows))) h in
    let all = rest is in
    let one : ◌≡◌ {A = ℕ} (cond (test new) 1 0) (cond d 1 0) = ap (λ (b : Bool). cond b 1 0) n in
    rw kept (omega (arith, all, one))
count_step {T} test place row rows old new false false d h n is rest =
    let kept : filter test (members (row ∷ with_member place new rows)) ≡ filter test (members (with_member place new rows)) =
    cond-false (test row.1) (row.1 ∷ filter test (members (with_member place new rows))) (filter test (members (with_member place new rows))) h in
    let all = rest is in
    let one : ◌≡◌ {A = ℕ} (cond (test new) 1 0) (cond d 1 0) = ap (λ (b : Bool). cond b 1 0) n in
    rw kept (omega (arith, all, one))

-- as many pass but for the one that went and the one that came
pub count_with : {T : Type 0} (test : T → Bool) (place : ℕ) (rows : List (ℕ × T)) (old new : T) → member_at place rows ≡ Some old
    → length (filter test (members (with_member place new rows))) + cond (test old) 1 0
    ≡ length (filter test (members rows)) + cond (test new) 1 0
count_with test place [] old new is = absurd (none_some is)
count_with test place (row ∷ rows) old new is =
    count_step test place row rows old new (test row.1) (is_at (nat_cmp place) row.0) (test new) refl refl is
    (count_with test place rows old new)

-- ---- the index, as a member changes

-- what the look-ups give after the new member has replaced the old one
abbrev told_after : Bool → Bool → ℕ → Option ℕ → Option ℕ
told_after is was place before = cond is (Some place) (cond was None before)

changed_found : (place number : ℕ) (before : Option ℕ) (is was : Bool) → (was ≡ true → before ≡ Some place)
    → (is ≡ true → was ≡ false → ⊥) → before ≡ Some number → (place ≡ number → ⊥) → told_after is was place before ≡ Some number
changed_found place number before is true old new told apart = absurd (apart (same_some (sym (old refl) ∙ told)))
changed_found place number before true false old new told apart = absurd (new refl refl)
changed_found place number before false false old new told apart = told

changed_told : {T : Type 0} (test : T → Bool) (before : Option ℕ) (rows : List (ℕ × T)) (place number : ℕ) (old new : T) (is was : Bool)
    → test new ≡ is → test old ≡ was → member_at place rows ≡ Some old → told_after is was place before ≡ Some number
    → (before ≡ Some number → is_passing test (member_at number rows) ≡ true)
    → is_passing test (member_at number (with_member place new rows)) ≡ true
changed_told {T} test before rows place number old new true was n o there told passes =
    let here : member_at number (with_member place new rows) ≡ Some new =
    subst (λ (p : ℕ). member_at p (with_member place new rows) ≡ Some new) (same_some told) (with_here rows place old new there) in
    ap (is_passing test) here ∙ n
changed_told test before rows place number old new false true n o there told passes = absurd (none_some told)
changed_told {T} test before rows place number old new false false n o there told passes =
    let it = passing_is test (member_at number rows) (passes told) in
    let apart : place ≡ number → ⊥ = λ same. both_ways (test old)
    o (ap test (same_some (sym there ∙ ap (λ (n : ℕ). member_at n rows) same ∙ it.1)) ∙ it.2) in
    ap (is_passing test) (with_elsewhere rows place number new apart ∙ it.1) ∙ it.2

-- another member replaces the one at a place; no other had its keys
pub index_changed : {K T : Type 0} (test : K → T → Bool) (before after : K → Option ℕ) (rows : List (ℕ × T)) (place : ℕ) (old new : T)
    → AreRising rows → member_at place rows ≡ Some old
    → ((key : K) → test key new ≡ true → test key old ≡ false → list_any (test key) (members rows) ≡ false)
    → ((key : K) → after key ≡ cond (test key new) (Some place) (cond (test key old) None (before key)))
    → IsIndex test before rows → IsIndex test after (with_member place new rows)
index_changed {K} {T} test before after rows place old new rising there fresh told ok = record {
  found = λ key.
      swapped (λ (row : ℕ × T). test key row.1 ≡ true → after key ≡ Some row.0) place new rows rising
      (λ passes. told key ∙ cond-true (test key new) (Some place) (cond (test key old) None (before key)) passes)
      (λ k d within apart passes.
      told key
      ∙ changed_found place _ (before key) (test key new) (test key old)
      (λ was. leads_at (test key) (before key) place rows old there was (ok.found key))
      (λ is was. both_ways (test key _) (none_from_any (test key) rows (fresh key is was) k d within) passes)
      (ok.found key k d within passes) apart);
  told = λ key number is.
      changed_told (test key) (before key) rows place number old new (test key new) (test key old) refl refl there (sym (told key) ∙ is)
      (ok.told key number);
}

kept_told : (place : ℕ) (before : Option ℕ) (b : Bool) → (b ≡ true → before ≡ Some place)
    → before ≡ cond b (Some place) (cond b None before)
kept_told place before true is = is refl
kept_told place before false is = refl

-- another member with the same keys replaces the one at a place
pub index_kept : {K T : Type 0} (test : K → T → Bool) (place_of : K → Option ℕ) (rows : List (ℕ × T)) (place : ℕ) (old new : T)
    → AreRising rows → member_at place rows ≡ Some old → ((key : K) → test key new ≡ test key old)
    → IsIndex test place_of rows → IsIndex test place_of (with_member place new rows)
index_kept {K} {T} test place_of rows place old new rising there alike ok =
    index_changed test place_of place_of rows place old new rising there
    (λ key is was. absurd (both_ways (test key old) was (sym (alike key) ∙ is)))
    (λ key. kept_told place (place_of key) (test key old)
    (λ was. leads_at (test key) (place_of key) place rows old there was (ok.found key))
    ∙ ap (λ (b : Bool). cond b (Some place) (cond (test key old) None (place_of key))) (sym (alike key)))
    ok

-- ---- the index, as a member of no key comes

-- a member of no key comes as the last one
pub index_longer : {K T : Type 0} (test : K → T → Bool) (place_of : K → Option ℕ) (rows : List (ℕ × T)) (place : ℕ) (member : T)
    → ((key : K) → test key member ≡ false) → IsIndex test place_of rows → IsIndex test place_of (rows ++ (place, member) ∷ [])
index_longer {K} {T} test place_of rows place member none ok = record {
  found = finds_pushed test place_of rows place member (λ key passes. absurd (both_ways (test key member) (none key) passes)) ok.found;
  told = λ key number is.
      let it = passing_is (test key) (member_at number rows) (ok.told key number is) in
      ap (is_passing (test key)) (at_front rows ((place, member) ∷ []) number it.0 it.1) ∙ it.2;
}
