-- A look-up goes on giving all members by their keys, and nothing else, when a member comes or goes.
use Rattle.std.proofs.Common.{◌≡◌, ℕ, ◌<◌, Bool, true, false, cond, List, [], ◌∷◌, ◌++◌, Option, None, Some, nat_cmp, if◌then◌else◌}
use Rattle.std.proofs.Common.{refl, sym, ap, subst, ◌∙◌, ◌⊎◌, inl, inr, arith}
use Rattle.std.specs.List.{All, list_any}
use Rattle.std.specs.BTreeMap.{is_at}
use Rattle.std.proofs.lemmas.Bool.{cond-true, cond-false, both_ways, false_from_ne_true, false≢true}
use Rattle.std.proofs.lemmas.List.Elements.{All-head, All-tail}
use Rattle.realm_lists.specs.OrderedList.{IsAbove, members, member_at, without}
use Rattle.realm_lists.specs.Finding.{AreRising, Leads, IsIndex, is_passing}
use Rattle.realm_lists.proofs.Finding.{at_same, same_at, finds_more, finds_pushed, finds_without}
use Rattle.realm_lists.proofs.Members.{at_holds, leads_at, none_from_any}

none_some : {T : Type 0} {x : T} → None ≡ Some x → ⊥
none_some h = cc

same_some : {T : Type 0} {x y : T} → Some x ≡ Some y → x ≡ y
same_some h = cc

-- ---- the member at a place, in another list

front_step : {T : Type 0} (row : ℕ × T) (rows more : List (ℕ × T)) (place : ℕ) (member : T) (c : Bool)
    → cond c (Some row.1) (member_at place rows) ≡ Some member
    → (member_at place rows ≡ Some member → member_at place (rows ++ more) ≡ Some member)
    → cond c (Some row.1) (member_at place (rows ++ more)) ≡ Some member
front_step row rows more place member true is rest = is
front_step row rows more place member false is rest = rest is

pub at_front : {T : Type 0} (rows more : List (ℕ × T)) (place : ℕ) (member : T) → member_at place rows ≡ Some member
    → member_at place (rows ++ more) ≡ Some member
at_front [] more place member is = absurd (none_some is)
at_front (row ∷ rows) more place member is =
    front_step row rows more place member (is_at (nat_cmp place) row.0) is (at_front rows more place member)

pub at_last : {T : Type 0} (rows : List (ℕ × T)) (place : ℕ) (member : T) → IsAbove place rows
    → member_at place (rows ++ (place, member) ∷ []) ≡ Some member
at_last [] place member above = cond-true (is_at (nat_cmp place) place) (Some member) None (same_at place place refl)
at_last {T} (row ∷ rows) place member above =
    let before : row.0 < place = All-head (λ (row : ℕ × T). row.0 < place) row rows above in
    let off : is_at (nat_cmp place) row.0 ≡ false = false_from_ne_true (is_at (nat_cmp place) row.0)
    (λ here. let same = at_same place row.0 here in omega (arith, before, same)) in
    cond-false (is_at (nat_cmp place) row.0) (Some row.1) (member_at place (rows ++ (place, member) ∷ [])) off
    ∙ at_last rows place member (All-tail (λ (row : ℕ × T). row.0 < place) row rows above)

other_step : {T : Type 0} (row : ℕ × T) (rows : List (ℕ × T)) (place other : ℕ) (b c : Bool) → is_at (nat_cmp place) row.0 ≡ b
    → is_at (nat_cmp other) row.0 ≡ c → (place ≡ other → ⊥)
    → member_at other (without place rows) ≡ member_at other rows
    → member_at other (cond b rows (row ∷ without place rows)) ≡ cond c (Some row.1) (member_at other rows)
other_step row rows place other true true at here apart rest =
    absurd (apart (at_same place row.0 at ∙ sym (at_same other row.0 here)))
other_step row rows place other true false at here apart rest = refl
other_step {T} row rows place other false c at here apart rest =
    ap (λ (o : Option T). cond (is_at (nat_cmp other) row.0) (Some row.1) o) rest
    ∙ ap (λ (b : Bool). cond b (Some row.1) (member_at other rows)) here

pub at_other : {T : Type 0} (rows : List (ℕ × T)) (place other : ℕ) → (place ≡ other → ⊥)
    → member_at other (without place rows) ≡ member_at other rows
at_other [] place other apart = refl
at_other (row ∷ rows) place other apart =
    other_step row rows place other (is_at (nat_cmp place) row.0) (is_at (nat_cmp other) row.0) refl refl apart
    (at_other rows place other apart)

-- ---- which member is at a place

pub passing_is : {T : Type 0} (test : T → Bool) (o : Option T) → is_passing test o ≡ true
    → (member : T) × (o ≡ Some member) × (test member ≡ true)
passing_is test None h = absurd (false≢true h)
passing_is test (Some member) h = (member, refl, h)

-- a key whose test none passes has no place
untold_step : {T : Type 0} (test : T → Bool) (rows : List (ℕ × T)) (place : Option ℕ) → All (λ (row : ℕ × T). test row.1 ≡ false) rows
    → ((number : ℕ) → place ≡ Some number → is_passing test (member_at number rows) ≡ true) → place ≡ None
untold_step test rows None none told = refl
untold_step {T} test rows (Some number) none told =
    let it = passing_is test (member_at number rows) (told number refl) in
    absurd (both_ways (test it.0) (at_holds (λ (row : ℕ × T). test row.1 ≡ false) number rows it.0 it.1 none) it.2)

pub untold : {K T : Type 0} (test : K → T → Bool) (place_of : K → Option ℕ) (rows : List (ℕ × T)) (key : K)
    → list_any (test key) (members rows) ≡ false → IsIndex test place_of rows → place_of key ≡ None
untold test place_of rows key none ok =
    untold_step (test key) rows (place_of key) (none_from_any (test key) rows none) (ok.told key)

-- ---- the index, as members come and go

-- another look-up that gives the same
pub index_same : {K T : Type 0} (test : K → T → Bool) (before after : K → Option ℕ) (rows : List (ℕ × T))
    → ((key : K) → after key ≡ before key) → IsIndex test before rows → IsIndex test after rows
index_same test before after rows same ok = record {
  found = finds_more test before after rows (λ key. inl (same key)) ok.found;
  told = λ key place is. ok.told key place (sym (same key) ∙ is);
}

came_found : {K T : Type 0} (is_key : K → K → Bool) → ((a b : K) → is_key a b ≡ true → a ≡ b) → (test : K → T → Bool)
    (before : K → Option ℕ) (rows : List (ℕ × T)) (place : ℕ) (key other : K) (b : Bool) → is_key key other ≡ b → All (λ (row : ℕ × T). test key row.1 ≡ false) rows
    → (cond b (Some place) (before other) ≡ before other) ⊎ All (λ (row : ℕ × T). test other row.1 ≡ false) rows
came_found {K} {T} is_key same test before rows place key other true h none =
    inr (subst (λ (k : K). All (λ (row : ℕ × T). test k row.1 ≡ false) rows) (same key other h) none)
came_found is_key same test before rows place key other false h none = inl refl

came_told : {K T : Type 0} (test : K → T → Bool) (before : K → Option ℕ) (rows : List (ℕ × T)) (place : ℕ) (member : T)
    (other : K) (number : ℕ) (b : Bool) → test other member ≡ b → IsAbove place rows
    → cond b (Some place) (before other) ≡ Some number
    → (before other ≡ Some number → is_passing (test other) (member_at number rows) ≡ true)
    → is_passing (test other) (member_at number (rows ++ (place, member) ∷ [])) ≡ true
came_told {K} {T} test before rows place member other number true h above is told =
    let here : member_at number (rows ++ (place, member) ∷ []) ≡ Some member =
    subst (λ (n : ℕ). member_at n (rows ++ (place, member) ∷ []) ≡ Some member) (same_some is) (at_last rows place member above) in
    ap (is_passing (test other)) here ∙ h
came_told test before rows place member other number false h above is told =
    let it = passing_is (test other) (member_at number rows) (told is) in
    ap (is_passing (test other)) (at_front rows ((place, member) ∷ []) number it.0 it.1) ∙ it.2

-- a member of a new key comes as the last one
pub index_came : {K T : Type 0} (is_key : K → K → Bool) → ((a b : K) → is_key a b ≡ true → a ≡ b) → (test : K → T → Bool)
    (before after : K → Option ℕ) (rows : List (ℕ × T)) (place : ℕ) (member : T) (key : K)
    → ((other : K) → test other member ≡ is_key key other) → IsAbove place rows → list_any (test key) (members rows) ≡ false
    → ((other : K) → after other ≡ (if is_key key other then Some place else before other))
    → IsIndex test before rows → IsIndex test after (rows ++ (place, member) ∷ [])
index_came {K} {T} is_key same test before after rows place member key alike above none put ok = record {
  found = finds_pushed test after rows place member
      (λ other passes. put other ∙ cond-true (is_key key other) (Some place) (before other) (sym (alike other) ∙ passes))
      (finds_more test before after rows
      (λ other. subst
      (λ (o : Option ℕ). (o ≡ before other) ⊎ All (λ (row : ℕ × T). test other row.1 ≡ false) rows) (sym (put other))
      (came_found is_key same test before rows place key other (is_key key other) refl (none_from_any (test key) rows none))) ok.found);
  told = λ other number is.
      came_told test before rows place member other number (is_key key other) (alike other) above (sym (put other) ∙ is)
      (ok.told other number);
}

back_step : {K : Type 0} (is_key : K → K → Bool) → ((a b : K) → is_key a b ≡ true → a ≡ b) → (before : K → Option ℕ) (place : ℕ)
    (key other : K) (b : Bool) → is_key key other ≡ b → before key ≡ None
    → cond b None (cond b (Some place) (before other)) ≡ before other
back_step is_key same before place key other true h none = sym (ap before (sym (same key other h)) ∙ none)
back_step is_key same before place key other false h none = refl

-- a new key that was put is removed again
pub index_back : {K T : Type 0} (is_key : K → K → Bool) → ((a b : K) → is_key a b ≡ true → a ≡ b) → (test : K → T → Bool)
    (before between after : K → Option ℕ) (rows : List (ℕ × T)) (place : ℕ) (key : K) → list_any (test key) (members rows) ≡ false
    → ((other : K) → between other ≡ (if is_key key other then Some place else before other))
    → ((other : K) → after other ≡ (if is_key key other then None else between other))
    → IsIndex test before rows → IsIndex test after rows
index_back is_key same test before between after rows place key none put removed ok =
    index_same test before after rows
    (λ other. removed other ∙ ap (λ (o : Option ℕ). cond (is_key key other) None o) (put other)
    ∙ back_step is_key same before place key other (is_key key other) refl (untold test before rows key none ok)) ok

gone_found : {T : Type 0} (test : T → Bool) (told : Option ℕ) (rows : List (ℕ × T)) (place : ℕ) (member : T) (b : Bool)
    → test member ≡ b → member_at place rows ≡ Some member → Leads test told rows
    → (cond b None told ≡ told) ⊎ (told ≡ Some place)
gone_found test told rows place member true h is leads = inr (leads_at test told place rows member is h leads)
gone_found test told rows place member false h is leads = inl refl

gone_told : {T : Type 0} (test : T → Bool) (told : Option ℕ) (rows : List (ℕ × T)) (place number : ℕ) (member : T) (b : Bool)
    → test member ≡ b → member_at place rows ≡ Some member → cond b None told ≡ Some number
    → (told ≡ Some number → is_passing test (member_at number rows) ≡ true)
    → is_passing test (member_at number (without place rows)) ≡ true
gone_told test told rows place number member true h there is passes = absurd (none_some is)
gone_told {T} test told rows place number member false h there is passes =
    let it = passing_is test (member_at number rows) (passes is) in
    let apart : place ≡ number → ⊥ = λ same. both_ways (test member) h
    (ap test (same_some (sym there ∙ ap (λ (n : ℕ). member_at n rows) same ∙ it.1)) ∙ it.2) in
    ap (is_passing test) (at_other rows place number apart ∙ it.1) ∙ it.2

-- the member at a place goes, and its key with it
pub index_gone : {K T : Type 0} (is_key : K → K → Bool) (test : K → T → Bool) (before after : K → Option ℕ) (rows : List (ℕ × T))
    (place : ℕ) (member : T) (key : K) → ((other : K) → test other member ≡ is_key key other) → AreRising rows
    → member_at place rows ≡ Some member → ((other : K) → after other ≡ (if is_key key other then None else before other))
    → IsIndex test before rows → IsIndex test after (without place rows)
index_gone {K} {T} is_key test before after rows place member key alike rising there removed ok = record {
  found = finds_without test before after rows place rising
      (λ other. subst (λ (o : Option ℕ). (o ≡ before other) ⊎ (before other ≡ Some place)) (sym (removed other))
      (gone_found (test other) (before other) rows place member (is_key key other) (alike other) there (ok.found other))) ok.found;
  told = λ other number is.
      gone_told (test other) (before other) rows place number member (is_key key other) (alike other) there (sym (removed other) ∙ is)
      (ok.told other number);
}
