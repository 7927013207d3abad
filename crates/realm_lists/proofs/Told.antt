-- What a walk finds, by what is at the place that a look-up gives.
use Rattle.std.proofs.Common.{◌≡◌, ℕ, Bool, true, List, cond, is_some, option_map, map, filter, find, Option, None, Some, refl}
use Rattle.std.proofs.Common.{sym, ap, subst, ◌∙◌, not}
use Rattle.std.proofs.lemmas.Bool.{cond-true, false≢true}
use Rattle.realm_lists.specs.OrderedList.{members, member_at, without, with_member}
use Rattle.realm_lists.specs.Finding.{AreRising, Leads, IsIndex, passing, is_passing}
use Rattle.realm_lists.proofs.Finding.{find_none, none_passes, found_is, without_is, change_is, unchanged_all}

pub told_none : {T : Type 0} (test : T → Bool) (told : Option ℕ) (rows : List (ℕ × T)) → told ≡ None → Leads test told rows
    → find test (members rows) ≡ None
told_none test told rows is leads = find_none test rows (none_passes test rows (subst (λ o. Leads test o rows) is leads))

told_at : {T : Type 0} (test : T → Bool) (told : Option ℕ) (rows : List (ℕ × T)) (place : ℕ) → AreRising rows → told ≡ Some place
    → Leads test told rows → find test (members rows) ≡ passing test (member_at place rows)
told_at test told rows place rising is leads = found_is test (Some place) rows rising (subst (λ o. Leads test o rows) is leads)

pub told_found : {T : Type 0} (test : T → Bool) (told : Option ℕ) (rows : List (ℕ × T)) (place : ℕ) (member : T) → AreRising rows
    → told ≡ Some place → Leads test told rows → member_at place rows ≡ Some member → test member ≡ true
    → find test (members rows) ≡ Some member
told_found test told rows place member rising is leads there on =
    told_at test told rows place rising is leads ∙ ap (passing test) there ∙ cond-true (test member) (Some member) None on

pub told_without : {T : Type 0} (test : T → Bool) (told : Option ℕ) (rows : List (ℕ × T)) (place : ℕ) (member : T) → AreRising rows
    → told ≡ Some place → Leads test told rows → member_at place rows ≡ Some member → test member ≡ true
    → filter (λ member. not (test member)) (members rows) ≡ members (without place rows)
told_without test told rows place member rising is leads there on =
    without_is test place rows member rising (subst (λ o. Leads test o rows) is leads) there on

passing_all : {T : Type 0} (test : T → Bool) (o : Option T) → is_passing test o ≡ true → passing test o ≡ o
passing_all test None h = refl
passing_all test (Some member) h = cond-true (test member) (Some member) None h

-- the member at the given place is the one that is found, if it passes
pub told_member : {T : Type 0} (test : T → Bool) (told : Option ℕ) (rows : List (ℕ × T)) (place : ℕ) → AreRising rows
    → told ≡ Some place → Leads test told rows → is_passing test (member_at place rows) ≡ true
    → find test (members rows) ≡ member_at place rows
told_member test told rows place rising is leads passes =
    told_at test told rows place rising is leads ∙ passing_all test (member_at place rows) passes

-- ---- by the key's look-up

-- there is a member at the place that is given
pub told_somebody : {K T : Type 0} (test : K → T → Bool) (look_up : K → Option ℕ) (rows : List (ℕ × T)) (key : K) (place : ℕ)
    → IsIndex test look_up rows → look_up key ≡ Some place → member_at place rows ≡ None → ⊥
told_somebody test look_up rows key place ok is none = false≢true (sym (ap (is_passing (test key)) none) ∙ ok.told key place is)

pub told_passes : {K T : Type 0} (test : K → T → Bool) (look_up : K → Option ℕ) (rows : List (ℕ × T)) (key : K) (place : ℕ) (member : T)
    → IsIndex test look_up rows → look_up key ≡ Some place → member_at place rows ≡ Some member → test key member ≡ true
told_passes test look_up rows key place member ok is there = sym (ap (is_passing (test key)) there) ∙ ok.told key place is

-- that member alone is changed
pub told_changed : {K T : Type 0} (test : K → T → Bool) (look_up : K → Option ℕ) (rows : List (ℕ × T)) (key : K) (place : ℕ) (member : T)
    (change : T → T) → AreRising rows → IsIndex test look_up rows → look_up key ≡ Some place → member_at place rows ≡ Some member
    → map (λ member. cond (test key member) (change member) member) (members rows) ≡ members (with_member place (change member) rows)
told_changed test look_up rows key place member change rising ok is there =
    change_is (test key) change place rows member rising (subst (λ o. Leads (test key) o rows) is (ok.found key)) there
    (told_passes test look_up rows key place member ok is there)

-- there is no member if no place is given
pub told_unchanged : {K T : Type 0} (test : K → T → Bool) (look_up : K → Option ℕ) (rows : List (ℕ × T)) (key : K) (change : T → T)
    → IsIndex test look_up rows → look_up key ≡ None
    → map (λ member. cond (test key member) (change member) member) (members rows) ≡ members rows
told_unchanged test look_up rows key change ok is =
    unchanged_all (test key) change rows (told_none (test key) (look_up key) rows is (ok.found key))

pub is_some_mapped : {T U : Type 0} (f : T → U) (o : Option T) → is_some (option_map f o) ≡ is_some o
is_some_mapped f None = refl
is_some_mapped f (Some x) = refl
