-- What is looked up in rows after one of them has changed, and what a walk over the groups then finds.
use Rattle.std.proofs.Common.{◌≡◌, ℕ, ◌<◌, Bool, true, false, cond, List}
use Rattle.std.proofs.Common.{[], ◌∷◌, ◌++◌, find, Option, None, Some, nat_cmp, option_map}
use Rattle.std.proofs.Common.{refl, sym, ap, ◌∙◌, arith}
use Rattle.std.specs.List.{All}
use Rattle.std.specs.BTreeMap.{is_at as is_key_at}
use Rattle.std.specs.Map.{keys_of}
use Rattle.std.proofs.lemmas.Bool.{cond-true, cond-false, cond_both, both_ways, false_from_ne_true, false≢true}
use Rattle.std.proofs.lemmas.List.Elements.{All-head, All-tail, All-nil, All-cons}
use Rattle.realm_lists.specs.OrderedList.{IsAbove, member_at, members, with_member, without}
use Rattle.realm_lists.specs.Finding.{AreRising}
use Rattle.realm_lists.proofs.Finding.{at_same, same_at, rising_head, rising_tail}
use Rattle.realm_lists.proofs.Members.{at_holds}
use Rattle.realm_groups.specs.Groups.{after_left, alter_at, change_first, is_held, left_at, put_first, row_if_held}

abbrev pub at : ℕ → ℕ → Bool
at q id = is_key_at (nat_cmp q) id

pub same_some : {X : Type 0} {x y : X} → Some x ≡ Some y → x ≡ y
same_some h = cc

pub none_some : {X : Type 0} {x : X} → None ≡ Some x → ⊥
none_some h = cc

-- another place is not at this one
pub off_at : (q id : ℕ) → (q ≡ id → ⊥) → at q id ≡ false
off_at q id apart = false_from_ne_true (at q id) (λ here. apart (at_same q id here))

pub two_ways : (a b : Bool) → (a ≡ true → b ≡ true) → (b ≡ true → a ≡ true) → a ≡ b
two_ways true b f g = sym (f refl)
two_ways false true f g = g refl
two_ways false false f g = refl

module _ {G : Type 0} where
  -- none is at the first one's id after it
  pub none_behind : (row : ℕ × G) (rows : List (ℕ × G)) (q : ℕ) → AreRising (row ∷ rows) → q ≡ row.0 → member_at q rows ≡ None
  none_behind row rows q rising same = none (member_at q rows) refl
    where
      none : (o : Option G) → member_at q rows ≡ o → member_at q rows ≡ None
      none None is = is
      none (Some x) is =
          absurd (at_holds (λ (other : ℕ × G). row.0 ≡ other.0 → ⊥) q rows x is (rising_head row rows rising) (sym same))

  -- what holds of the group that is found at an id holds of all
  pub all_stand : (P : ℕ × G → Type 0) (rows : List (ℕ × G)) → AreRising rows
      → ((id : ℕ) (group : G) → member_at id rows ≡ Some group → P (id, group)) → All P rows
  all_stand P [] rising h = All-nil P
  all_stand P (row ∷ rows) rising h =
      All-cons P row rows (h row.0 row.1 (cond-true (at row.0 row.0) (Some row.1) (member_at row.0 rows) (same_at row.0 row.0 refl)))
      (all_stand P rows (rising_tail row rows rising)
      (λ id group is. h id group (cond-false (at id row.0) (Some row.1) (member_at id rows)
      (off_at id row.0 (λ same. none_some (sym (none_behind row rows id rising same) ∙ is))) ∙ is)))

  -- ---- look-ups

  altered_step : (q id : ℕ) (change : G → G) (row : ℕ × G) (rows : List (ℕ × G)) (b c : Bool) → at id row.0 ≡ b → at q id ≡ c
      → member_at q (alter_at id change rows) ≡ cond (at q id) (option_map change (member_at id rows)) (member_at q rows)
      → member_at q (cond b ((row.0, change row.1) ∷ rows) (row ∷ alter_at id change rows))
      ≡ cond c (option_map change (cond b (Some row.1) (member_at id rows))) (cond (at q row.0) (Some row.1) (member_at q rows))
  altered_step q id change row rows true true here there rest =
      cond-true (at q row.0) (Some (change row.1)) (member_at q rows) (same_at q row.0 (at_same q id there ∙ at_same id row.0 here))
  altered_step q id change row rows true false here there rest =
      let off : at q row.0 ≡ false = off_at q row.0
      (λ same. both_ways (at q id) there (same_at q id (same ∙ sym (at_same id row.0 here)))) in
      cond-false (at q row.0) (Some (change row.1)) (member_at q rows) off
      ∙ sym (cond-false (at q row.0) (Some row.1) (member_at q rows) off)
  altered_step q id change row rows false true here there rest =
      let off : at q row.0 ≡ false = off_at q row.0
      (λ same. both_ways (at id row.0) here (same_at id row.0 (sym (at_same q id there) ∙ same))) in
      cond-false (at q row.0) (Some row.1) (member_at q (alter_at id change rows)) off
      ∙ rest ∙ cond-true (at q id) (option_map change (member_at id rows)) (member_at q rows) there
  altered_step q id change row rows false false here there rest =
      ap (λ o. cond (at q row.0) (Some row.1) o)
      (rest ∙ cond-false (at q id) (option_map change (member_at id rows)) (member_at q rows) there)

  pub look_altered : (q id : ℕ) (change : G → G) (rows : List (ℕ × G))
      → member_at q (alter_at id change rows) ≡ cond (at q id) (option_map change (member_at id rows)) (member_at q rows)
  look_altered q id change [] = sym (cond_both (at q id) None None (λ (o : Option G). o ≡ None) (λ _. refl) (λ _. refl))
  look_altered q id change (row ∷ rows) =
      altered_step q id change row rows (at id row.0) (at q id) refl refl (look_altered q id change rows)

  module _ (sessions_of : G → List ℕ) where
    held_step : (q id : ℕ) (x : G) (rows : List (ℕ × G)) (c : Bool) → at q id ≡ c → (q ≡ id → member_at q rows ≡ None)
        → (b : Bool) → member_at q (cond b ((id, x) ∷ rows) rows) ≡ cond c (cond b (Some x) None) (member_at q rows)
    held_step q id x rows true here none true = cond-true (at q id) (Some x) (member_at q rows) here
    held_step q id x rows true here none false = none (at_same q id here)
    held_step q id x rows false here none true = cond-false (at q id) (Some x) (member_at q rows) here
    held_step q id x rows false here none false = refl

    left_step : (q id : ℕ) (change : G → G) (row : ℕ × G) (rows : List (ℕ × G)) (b c : Bool) → at id row.0 ≡ b → at q id ≡ c
        → AreRising (row ∷ rows)
        → member_at q (left_at sessions_of id change rows)
        ≡ cond (at q id) (after_left sessions_of change (member_at id rows)) (member_at q rows)
        → member_at q (cond b (row_if_held sessions_of row.0 (change row.1) rows) (row ∷ left_at sessions_of id change rows))
        ≡ cond c (after_left sessions_of change (cond b (Some row.1) (member_at id rows)))
        (cond (at q row.0) (Some row.1) (member_at q rows))
    left_step q id change row rows true true here there rising rest =
        held_step q row.0 (change row.1) rows true (same_at q row.0 (at_same q id there ∙ at_same id row.0 here))
        (none_behind row rows q rising) (is_held sessions_of (change row.1))
    left_step q id change row rows true false here there rising rest =
        let off : at q row.0 ≡ false = off_at q row.0
        (λ same. both_ways (at q id) there (same_at q id (same ∙ sym (at_same id row.0 here)))) in
        held_step q row.0 (change row.1) rows false off (none_behind row rows q rising) (is_held sessions_of (change row.1))
        ∙ sym (cond-false (at q row.0) (Some row.1) (member_at q rows) off)
    left_step q id change row rows false true here there rising rest =
        let off : at q row.0 ≡ false = off_at q row.0
        (λ same. both_ways (at id row.0) here (same_at id row.0 (sym (at_same q id there) ∙ same))) in
        cond-false (at q row.0) (Some row.1) (member_at q (left_at sessions_of id change rows)) off
        ∙ rest ∙ cond-true (at q id) (after_left sessions_of change (member_at id rows)) (member_at q rows) there
    left_step q id change row rows false false here there rising rest =
        ap (λ o. cond (at q row.0) (Some row.1) o)
        (rest ∙ cond-false (at q id) (after_left sessions_of change (member_at id rows)) (member_at q rows) there)

    pub look_left : (q id : ℕ) (change : G → G) (rows : List (ℕ × G)) → AreRising rows
        → member_at q (left_at sessions_of id change rows)
        ≡ cond (at q id) (after_left sessions_of change (member_at id rows)) (member_at q rows)
    look_left q id change [] rising = sym (cond_both (at q id) None None (λ (o : Option G). o ≡ None) (λ _. refl) (λ _. refl))
    look_left q id change (row ∷ rows) rising =
        left_step q id change row rows (at id row.0) (at q id) refl refl rising (look_left q id change rows (rising_tail row rows rising))

  pushed_step : (q id : ℕ) (x : G) (row : ℕ × G) (rows : List (ℕ × G)) (b c : Bool) → at q row.0 ≡ b → at q id ≡ c → row.0 < id
      → member_at q (rows ++ (id, x) ∷ []) ≡ cond (at q id) (Some x) (member_at q rows)
      → cond b (Some row.1) (member_at q (rows ++ (id, x) ∷ [])) ≡ cond c (Some x) (cond b (Some row.1) (member_at q rows))
  pushed_step q id x row rows true true here there before rest =
      let same = sym (at_same q row.0 here) ∙ at_same q id there in absurd (omega (arith, before, same))
  pushed_step q id x row rows true false here there before rest = refl
  pushed_step q id x row rows false true here there before rest = rest ∙ cond-true (at q id) (Some x) (member_at q rows) there
  pushed_step q id x row rows false false here there before rest = rest ∙ cond-false (at q id) (Some x) (member_at q rows) there

  pub look_pushed : (q id : ℕ) (x : G) (rows : List (ℕ × G)) → IsAbove id rows
      → member_at q (rows ++ (id, x) ∷ []) ≡ cond (at q id) (Some x) (member_at q rows)
  look_pushed q id x [] above = refl
  look_pushed q id x (row ∷ rows) above =
      pushed_step q id x row rows (at q row.0) (at q id) refl refl (All-head (λ (row : ℕ × G). row.0 < id) row rows above)
      (look_pushed q id x rows (All-tail (λ (row : ℕ × G). row.0 < id) row rows above))

  -- none is at an id above all
  pub none_above : (id : ℕ) (rows : List (ℕ × G)) → IsAbove id rows → member_at id rows ≡ None
  none_above id [] above = refl
  none_above id (row ∷ rows) above =
      let before : row.0 < id = All-head (λ (row : ℕ × G). row.0 < id) row rows above in
      cond-false (at id row.0) (Some row.1) (member_at id rows) (off_at id row.0 (λ same. omega (arith, before, same)))
      ∙ none_above id rows (All-tail (λ (row : ℕ × G). row.0 < id) row rows above)

  -- ---- as the map's calls say it

  set_step : (id : ℕ) (change : G → G) (row : ℕ × G) (rows : List (ℕ × G)) (x : G) (b : Bool)
      → cond b (Some row.1) (member_at id rows) ≡ Some x
      → (member_at id rows ≡ Some x → with_member id (change x) rows ≡ alter_at id change rows)
      → cond b ((row.0, change x) ∷ rows) (row ∷ with_member id (change x) rows)
      ≡ cond b ((row.0, change row.1) ∷ rows) (row ∷ alter_at id change rows)
  set_step id change row rows x true is rest = ap (λ (y : G). (row.0, change y) ∷ rows) (sym (same_some is))
  set_step id change row rows x false is rest = ap (λ (xs : List (ℕ × G)). row ∷ xs) (rest is)

  -- the changed one, put in place of the one that was there
  pub set_altered : (id : ℕ) (change : G → G) (rows : List (ℕ × G)) (x : G) → member_at id rows ≡ Some x
      → with_member id (change x) rows ≡ alter_at id change rows
  set_altered id change [] x is = refl
  set_altered id change (row ∷ rows) x is = set_step id change row rows x (at id row.0) is (set_altered id change rows x)

  none_step : (id : ℕ) (change : G → G) (row : ℕ × G) (rows : List (ℕ × G)) (b : Bool)
      → cond b (Some row.1) (member_at id rows) ≡ None → (member_at id rows ≡ None → alter_at id change rows ≡ rows)
      → cond b ((row.0, change row.1) ∷ rows) (row ∷ alter_at id change rows) ≡ row ∷ rows
  none_step id change row rows true is rest = absurd (none_some (sym is))
  none_step id change row rows false is rest = ap (λ (xs : List (ℕ × G)). row ∷ xs) (rest is)

  pub none_altered : (id : ℕ) (change : G → G) (rows : List (ℕ × G)) → member_at id rows ≡ None → alter_at id change rows ≡ rows
  none_altered id change [] is = refl
  none_altered id change (row ∷ rows) is = none_step id change row rows (at id row.0) is (none_altered id change rows)

  without_step : (id : ℕ) (row : ℕ × G) (rows : List (ℕ × G)) (b : Bool) → cond b (Some row.1) (member_at id rows) ≡ None
      → (member_at id rows ≡ None → without id rows ≡ rows) → cond b rows (row ∷ without id rows) ≡ row ∷ rows
  without_step id row rows true is rest = absurd (none_some (sym is))
  without_step id row rows false is rest = ap (λ (xs : List (ℕ × G)). row ∷ xs) (rest is)

  pub none_without : (id : ℕ) (rows : List (ℕ × G)) → member_at id rows ≡ None → without id rows ≡ rows
  none_without id [] is = refl
  none_without id (row ∷ rows) is = without_step id row rows (at id row.0) is (none_without id rows)

  keys_step : (change : G → G) (row : ℕ × G) (rows others : List (ℕ × G)) (b : Bool) → keys_of others ≡ keys_of rows
      → keys_of (cond b ((row.0, change row.1) ∷ rows) (row ∷ others)) ≡ keys_of (row ∷ rows)
  keys_step change row rows others true rest = refl
  keys_step change row rows others false rest = ap (λ (ks : List ℕ). row.0 ∷ ks) rest

  pub keys_altered : (id : ℕ) (change : G → G) (rows : List (ℕ × G)) → keys_of (alter_at id change rows) ≡ keys_of rows
  keys_altered id change [] = refl
  keys_altered id change (row ∷ rows) = keys_step change row rows (alter_at id change rows) (at id row.0) (keys_altered id change rows)

  above_step : (change : G → G) (n : ℕ) (row : ℕ × G) (rows others : List (ℕ × G)) (b : Bool) → row.0 < n → IsAbove n rows → IsAbove n others
      → IsAbove n (cond b ((row.0, change row.1) ∷ rows) (row ∷ others))
  above_step change n row rows others true before above rest = All-cons (λ (row : ℕ × G). row.0 < n) (row.0, change row.1) rows before above
  above_step change n row rows others false before above rest = All-cons (λ (row : ℕ × G). row.0 < n) row others before rest

  pub above_altered : (id : ℕ) (change : G → G) (n : ℕ) (rows : List (ℕ × G)) → IsAbove n rows → IsAbove n (alter_at id change rows)
  above_altered id change n [] above = above
  above_altered id change n (row ∷ rows) above =
      let Below : ℕ × G → Type 0 = λ row. row.0 < n in
      above_step change n row rows (alter_at id change rows) (at id row.0) (All-head Below row rows above) (All-tail Below row rows above)
      (above_altered id change n rows (All-tail Below row rows above))

  above_without_step : (n : ℕ) (row : ℕ × G) (rows others : List (ℕ × G)) (b : Bool) → row.0 < n → IsAbove n rows → IsAbove n others
      → IsAbove n (cond b rows (row ∷ others))
  above_without_step n row rows others true before above rest = above
  above_without_step n row rows others false before above rest = All-cons (λ (row : ℕ × G). row.0 < n) row others before rest

  pub above_without : (id n : ℕ) (rows : List (ℕ × G)) → IsAbove n rows → IsAbove n (without id rows)
  above_without id n [] above = above
  above_without id n (row ∷ rows) above =
      let Below : ℕ × G → Type 0 = λ row. row.0 < n in
      above_without_step n row rows (without id rows) (at id row.0) (All-head Below row rows above) (All-tail Below row rows above)
      (above_without id n rows (All-tail Below row rows above))

  module _ (sessions_of : G → List ℕ) where
    stays_step : (id : ℕ) (change : G → G) (row : ℕ × G) (rows : List (ℕ × G)) (x : G) (b : Bool) → at id row.0 ≡ b
        → is_held sessions_of (change x) ≡ true
        → cond b (Some row.1) (member_at id rows) ≡ Some x
        → (member_at id rows ≡ Some x → alter_at id change rows ≡ left_at sessions_of id change rows)
        → cond b ((row.0, change row.1) ∷ rows) (row ∷ alter_at id change rows)
        ≡ cond b (row_if_held sessions_of row.0 (change row.1) rows) (row ∷ left_at sessions_of id change rows)
    stays_step id change row rows x true here held is rest =
        sym (cond-true (is_held sessions_of (change row.1)) ((row.0, change row.1) ∷ rows) rows
        (ap (λ (y : G). is_held sessions_of (change y)) (same_some is) ∙ held))
    stays_step id change row rows x false here held is rest = ap (λ (xs : List (ℕ × G)). row ∷ xs) (rest is)

    -- the changed one stays
    pub stays_left : (id : ℕ) (change : G → G) (rows : List (ℕ × G)) (x : G) → member_at id rows ≡ Some x
        → is_held sessions_of (change x) ≡ true → alter_at id change rows ≡ left_at sessions_of id change rows
    stays_left id change [] x is held = refl
    stays_left id change (row ∷ rows) x is held =
        stays_step id change row rows x (at id row.0) refl held is (λ there. stays_left id change rows x there held)

    none_left_step : (id : ℕ) (change : G → G) (row : ℕ × G) (rows : List (ℕ × G)) (b : Bool)
        → cond b (Some row.1) (member_at id rows) ≡ None → (member_at id rows ≡ None → left_at sessions_of id change rows ≡ rows)
        → cond b (row_if_held sessions_of row.0 (change row.1) rows) (row ∷ left_at sessions_of id change rows) ≡ row ∷ rows
    none_left_step id change row rows true is rest = absurd (none_some (sym is))
    none_left_step id change row rows false is rest = ap (λ (xs : List (ℕ × G)). row ∷ xs) (rest is)

    pub none_left : (id : ℕ) (change : G → G) (rows : List (ℕ × G)) → member_at id rows ≡ None → left_at sessions_of id change rows ≡ rows
    none_left id change [] is = refl
    none_left id change (row ∷ rows) is = none_left_step id change row rows (at id row.0) is (none_left id change rows)

    goes_step : (id : ℕ) (change : G → G) (row : ℕ × G) (rows : List (ℕ × G)) (x : G) (b : Bool) → at id row.0 ≡ b
        → is_held sessions_of (change x) ≡ false
        → cond b (Some row.1) (member_at id rows) ≡ Some x
        → (member_at id rows ≡ Some x → without id (alter_at id change rows) ≡ left_at sessions_of id change rows)
        → without id (cond b ((row.0, change row.1) ∷ rows) (row ∷ alter_at id change rows))
        ≡ cond b (row_if_held sessions_of row.0 (change row.1) rows) (row ∷ left_at sessions_of id change rows)
    goes_step id change row rows x true here held is rest =
        cond-true (at id row.0) rows ((row.0, change row.1) ∷ without id rows) here
        ∙ sym (cond-false (is_held sessions_of (change row.1)) ((row.0, change row.1) ∷ rows) rows
        (ap (λ (y : G). is_held sessions_of (change y)) (same_some is) ∙ held))
    goes_step id change row rows x false here held is rest =
        cond-false (at id row.0) (alter_at id change rows) (row ∷ without id (alter_at id change rows)) here
        ∙ ap (λ (xs : List (ℕ × G)). row ∷ xs) (rest is)

    -- the changed one is taken out
    pub goes_left : (id : ℕ) (change : G → G) (rows : List (ℕ × G)) (x : G) → member_at id rows ≡ Some x
        → is_held sessions_of (change x) ≡ false → without id (alter_at id change rows) ≡ left_at sessions_of id change rows
    goes_left id change [] x is held = refl
    goes_left id change (row ∷ rows) x is held =
        goes_step id change row rows x (at id row.0) refl held is (λ there. goes_left id change rows x there held)

  -- ---- as walks over the groups say it

  -- of these groups the test passes the one of this id
  abbrev pub Singles : (G → Bool) → ℕ → List (ℕ × G) → Type 0
  Singles test id rows = All (λ (row : ℕ × G). test row.1 ≡ at id row.0) rows

  pub find_single : (test : G → Bool) (id : ℕ) (rows : List (ℕ × G)) → Singles test id rows → find test (members rows) ≡ member_at id rows
  find_single test id [] single = refl
  find_single test id (row ∷ rows) single =
      let Single : ℕ × G → Type 0 = λ row. test row.1 ≡ at id row.0 in
      ap (λ b. cond b (Some row.1) (find test (members rows))) (All-head Single row rows single)
      ∙ ap (λ o. cond (at id row.0) (Some row.1) o) (find_single test id rows (All-tail Single row rows single))

  altered_list_step : (change : G → G) (row : ℕ × G) (rows : List (ℕ × G)) (list : List G) (others : List (ℕ × G)) (b : Bool)
      → list ≡ members others
      → cond b (change row.1 ∷ members rows) (row.1 ∷ list) ≡ members (cond b ((row.0, change row.1) ∷ rows) (row ∷ others))
  altered_list_step change row rows list others true rest = refl
  altered_list_step change row rows list others false rest = ap (λ (xs : List G). row.1 ∷ xs) rest

  pub change_single : (test : G → Bool) (change : G → G) (id : ℕ) (rows : List (ℕ × G)) → Singles test id rows
      → change_first test (λ group. Some (change group)) (members rows) ≡ members (alter_at id change rows)
  change_single test change id [] single = refl
  change_single test change id (row ∷ rows) single =
      let Single : ℕ × G → Type 0 = λ row. test row.1 ≡ at id row.0 in
      ap (λ b. cond b (change row.1 ∷ members rows) (row.1 ∷ change_first test (λ group. Some (change group)) (members rows)))
      (All-head Single row rows single)
      ∙ altered_list_step change row rows (change_first test (λ group. Some (change group)) (members rows)) (alter_at id change rows)
      (at id row.0) (change_single test change id rows (All-tail Single row rows single))

  change_none_step : (test : G → Bool) (change : G → Option G) (x : G) (xs : List G) (b : Bool) → test x ≡ b → b ≡ false
      → change_first test change xs ≡ xs → cond b (put_first (change x) xs) (x ∷ change_first test change xs) ≡ x ∷ xs
  change_none_step test change x xs true h off rest = absurd (false≢true (sym off))
  change_none_step test change x xs false h off rest = ap (λ (ys : List G). x ∷ ys) rest

  pub change_none : (test : G → Bool) (change : G → Option G) (rows : List (ℕ × G)) → All (λ (row : ℕ × G). test row.1 ≡ false) rows
      → change_first test change (members rows) ≡ members rows
  change_none test change [] none = refl
  change_none test change (row ∷ rows) none =
      let Off : ℕ × G → Type 0 = λ row. test row.1 ≡ false in
      change_none_step test change row.1 (members rows) (test row.1) refl (All-head Off row rows none)
      (change_none test change rows (All-tail Off row rows none))
