-- Groups go on being kept as one comes, changes or goes.
use Rattle.std.proofs.Common.{◌≡◌, ℕ, ◌+◌, ◌==◌, ◌<◌, Bool, true, false, cond}
use Rattle.std.proofs.Common.{List, [], ◌∷◌, ◌++◌, find, Option, None, Some, nat_cmp, option_map}
use Rattle.std.proofs.Common.{refl, sym, ap, ◌∙◌, subst, arith}
use Rattle.std.specs.List.{All}
use Rattle.std.specs.List.Sorted.{IsStrictlySortedBy}
use Rattle.std.proofs.lemmas.Bool.{cond-true, cond_both, both_ways, false≢true, eqb-true, eq-eqb}
use Rattle.std.proofs.lemmas.List.Elements.{All-map, All-weaker, All-push}
use Rattle.wamp_ids.specs.Pattern.{PatternValue}
use Rattle.wamp_patterns.specs.Table.{AreInOrder, same_pattern}
use Rattle.realm_lists.specs.OrderedList.{IsAbove, member_at, members}
use Rattle.realm_lists.specs.Finding.{AreRising, is_passing}
use Rattle.realm_lists.proofs.Finding.{at_same, same_at, find_none}
use Rattle.realm_groups.specs.Groups.{AreKept, alter_at, has_id, id_at, is_at, is_held}
use Rattle.realm_groups.proofs.Rows.{Singles, all_stand, at, above_altered, find_single, keys_altered, look_altered}
use Rattle.realm_groups.proofs.Rows.{look_pushed, none_above, none_some, same_some, two_ways}
use Rattle.realm_groups.proofs.Patterns.{same_itself, the_same, turned_round}

passes : {G : Type 0} (test : G → Bool) (o : Option G) → is_passing test o ≡ true → (x : G) × (o ≡ Some x) × (test x ≡ true)
passes test None h = absurd (false≢true h)
passes test (Some x) h = (x, refl, h)

module _ {G : Type 0} (id_of : G → ℕ) (pattern_of : G → PatternValue) (sessions_of : G → List ℕ) where
  abbrev pub Kept : List (ℕ × G) → List (PatternValue × ℕ) → ℕ → Type 0
  Kept rows patterns last = AreKept id_of pattern_of sessions_of rows patterns last

  module _ (rows : List (ℕ × G)) (patterns : List (PatternValue × ℕ)) (last : ℕ) (kept : Kept rows patterns last) where
    -- ---- what is found

    pub single_id : (id : ℕ) → Singles (has_id id_of id) id rows
    single_id id = all_stand (λ (row : ℕ × G). has_id id_of id row.1 ≡ at id row.0) rows kept.rising
        (λ n x is. two_ways (id_of x == id) (at id n)
        (λ h. same_at id n (sym (eqb-true (id_of x) id h) ∙ kept.named n x is))
        (λ h. eq-eqb (id_of x) id (kept.named n x is ∙ sym (at_same id n h))))

    pub found_id : (id : ℕ) → find (has_id id_of id) (members rows) ≡ member_at id rows
    found_id id = find_single (has_id id_of id) id rows (single_id id)

    pub single_pattern : (p : PatternValue) (id : ℕ) → id_at patterns p ≡ Some id → Singles (is_at pattern_of p) id rows
    single_pattern p id here = all_stand (λ (row : ℕ × G). is_at pattern_of p row.1 ≡ at id row.0) rows kept.rising
        (λ n x is. two_ways (is_at pattern_of p x) (at id n)
        (λ h. same_at id n (same_some (sym here ∙ ap (id_at patterns) (sym (the_same (pattern_of x) p h)) ∙ kept.found n x is)))
        (λ h. let it = passes (is_at pattern_of p) (member_at id rows) (kept.told p id here) in
        ap (is_at pattern_of p) (same_some (sym is ∙ ap (λ m. member_at m rows) (sym (at_same id n h)) ∙ it.1)) ∙ it.2))

    pub found_pattern : (p : PatternValue) (id : ℕ) → id_at patterns p ≡ Some id → find (is_at pattern_of p) (members rows) ≡ member_at id rows
    found_pattern p id here = find_single (is_at pattern_of p) id rows (single_pattern p id here)

    pub all_held : All (λ (x : G). is_held sessions_of x ≡ true) (members rows)
    all_held = All-map (λ (x : G). is_held sessions_of x ≡ true) (λ (row : ℕ × G). row.1) rows
        (all_stand (λ (row : ℕ × G). is_held sessions_of row.1 ≡ true) rows kept.rising kept.held)

    pub stands : (p : PatternValue) (id : ℕ) → id_at patterns p ≡ Some id → (x : G) × (member_at id rows ≡ Some x)
    stands p id here = let it = passes (is_at pattern_of p) (member_at id rows) (kept.told p id here) in (it.0, it.1)

    pub no_pattern : (p : PatternValue) → id_at patterns p ≡ None → All (λ (row : ℕ × G). is_at pattern_of p row.1 ≡ false) rows
    no_pattern p none = all_stand (λ (row : ℕ × G). is_at pattern_of p row.1 ≡ false) rows kept.rising
        (λ n x is. go n x is (is_at pattern_of p x) refl)
      where
        go : (n : ℕ) (x : G) → member_at n rows ≡ Some x → (b : Bool) → is_at pattern_of p x ≡ b → is_at pattern_of p x ≡ false
        go n x is false h = h
        go n x is true h =
            absurd (none_some (sym none ∙ ap (id_at patterns) (sym (the_same (pattern_of x) p h)) ∙ kept.found n x is))

    pub none_pattern : (p : PatternValue) → id_at patterns p ≡ None → find (is_at pattern_of p) (members rows) ≡ None
    none_pattern p none = find_none (is_at pattern_of p) rows (no_pattern p none)

    -- a pattern under which no group is found is kept under no id
    pub unkept : (p : PatternValue) → find (is_at pattern_of p) (members rows) ≡ None → id_at patterns p ≡ None
    unkept p none = go (id_at patterns p) refl
      where
        go : (o : Option ℕ) → id_at patterns p ≡ o → id_at patterns p ≡ None
        go None h = h
        go (Some id) h =
            let it = passes (is_at pattern_of p) (member_at id rows) (kept.told p id h) in
            absurd (none_some (sym none ∙ found_pattern p id h ∙ it.1))

    -- ---- the patterns lead where they did

    pub kept_same : (after : List (PatternValue × ℕ)) → AreInOrder after → ((p : PatternValue) → id_at after p ≡ id_at patterns p)
        → Kept rows after last
    kept_same after ordered same = record {
      rising = kept.rising;
      ordered = ordered;
      named = kept.named;
      found = λ n x is. same (pattern_of x) ∙ kept.found n x is;
      told = λ p n is. kept.told p n (sym (same p) ∙ is);
      held = kept.held;
      within = kept.within;
    }

    -- ---- a group comes

    module _ (id : ℕ) (x : G) (after : List (PatternValue × ℕ)) (next : last + 1 ≡ id) (name : id_of x ≡ id)
        (held : is_held sessions_of x ≡ true) (new : id_at patterns (pattern_of x) ≡ None)
        (put : (p : PatternValue) → id_at after p ≡ cond (same_pattern p (pattern_of x)) (Some id) (id_at patterns p)) where
      above : IsAbove id rows
      above = subst (λ n. IsAbove n rows) next kept.within

      look : (n : ℕ) (y : G) → member_at n (rows ++ (id, x) ∷ []) ≡ Some y → cond (at n id) (Some x) (member_at n rows) ≡ Some y
      look n y is = sym (look_pushed n id x rows above) ∙ is

      found_with : (n : ℕ) (y : G) → cond (at n id) (Some x) (member_at n rows) ≡ Some y → id_at after (pattern_of y) ≡ Some n
      found_with n y = cond_both (at n id) (Some x) (member_at n rows) (λ o. o ≡ Some y → id_at after (pattern_of y) ≡ Some n)
          (λ here is.
          put (pattern_of y)
          ∙ cond-true (same_pattern (pattern_of y) (pattern_of x)) (Some id) (id_at patterns (pattern_of y))
          (same_itself (pattern_of y) (pattern_of x) (ap pattern_of (sym (same_some is))))
          ∙ ap Some (sym (at_same n id here)))
          (λ off is. put (pattern_of y)
          ∙ cond_both (same_pattern (pattern_of y) (pattern_of x)) (Some id) (id_at patterns (pattern_of y)) (λ o. o ≡ Some n)
          (λ h. absurd (none_some (sym new ∙ ap (id_at patterns) (sym (the_same (pattern_of y) (pattern_of x) h)) ∙ kept.found n y is)))
          (λ _. kept.found n y is))

      told_with : (p : PatternValue) (n : ℕ) → cond (same_pattern p (pattern_of x)) (Some id) (id_at patterns p) ≡ Some n
          → is_passing (is_at pattern_of p) (cond (at n id) (Some x) (member_at n rows)) ≡ true
      told_with p n = cond_both (same_pattern p (pattern_of x)) (Some id) (id_at patterns p)
          (λ o. o ≡ Some n → is_passing (is_at pattern_of p) (cond (at n id) (Some x) (member_at n rows)) ≡ true)
          (λ h is. ap (is_passing (is_at pattern_of p)) (cond-true (at n id) (Some x) (member_at n rows) (same_at n id (sym (same_some is))))
          ∙ turned_round (pattern_of x) p ∙ h)
          (λ off is. cond_both (at n id) (Some x) (member_at n rows) (λ o. is_passing (is_at pattern_of p) o ≡ true)
          (λ here. let it = passes (is_at pattern_of p) (member_at n rows) (kept.told p n is) in
          absurd (none_some (sym (none_above id rows above) ∙ ap (λ m. member_at m rows) (sym (at_same n id here)) ∙ it.1)))
          (λ _. kept.told p n is))

      pub kept_with : AreRising (rows ++ (id, x) ∷ []) → AreInOrder after → Kept (rows ++ (id, x) ∷ []) after id
      kept_with rising ordered = record {
        rising = rising;
        ordered = ordered;
        named = λ n y is. cond_both (at n id) (Some x) (member_at n rows) (λ o. o ≡ Some y → id_of y ≡ n)
            (λ here h. ap id_of (sym (same_some h)) ∙ name ∙ sym (at_same n id here)) (λ _ h. kept.named n y h) (look n y is);
        found = λ n y is. found_with n y (look n y is);
        told = λ p n is. ap (is_passing (is_at pattern_of p)) (look_pushed n id x rows above) ∙ told_with p n (sym (put p) ∙ is);
        held = λ n y is. cond_both (at n id) (Some x) (member_at n rows) (λ o. o ≡ Some y → is_held sessions_of y ≡ true)
            (λ here h. ap (is_held sessions_of) (sym (same_some h)) ∙ held) (λ _ h. kept.held n y h) (look n y is);
        within = All-push (λ (row : ℕ × G). row.0 < id + 1) rows (id, x)
            (All-weaker (λ (row : ℕ × G). row.0 < last + 1) (λ (row : ℕ × G). row.0 < id + 1) (λ row before. omega (arith, before, next)) rows
            kept.within) (omega arith);
      }

    -- ---- a group changes

    module _ (id : ℕ) (change : G → G) (names : (y : G) → id_of (change y) ≡ id_of y)
        (patterned : (y : G) → pattern_of (change y) ≡ pattern_of y) where
      abbrev changed : List (ℕ × G)
      changed = alter_at id change rows

      -- what is found then is what was, or what it became
      was : (n : ℕ) (y : G) → member_at n changed ≡ Some y
          → (z : G) × (member_at n rows ≡ Some z) × (id_of y ≡ id_of z) × (pattern_of y ≡ pattern_of z)
      was n y is = go (at n id) refl (member_at id rows) refl (sym (look_altered n id change rows) ∙ is)
        where
          go : (b : Bool) → at n id ≡ b → (o : Option G) → member_at id rows ≡ o → cond b (option_map change o) (member_at n rows) ≡ Some y
              → (z : G) × (member_at n rows ≡ Some z) × (id_of y ≡ id_of z) × (pattern_of y ≡ pattern_of z)
          go true here None there h = absurd (none_some h)
          go true here (Some z) there h = (
            z,
            ap (λ m. member_at m rows) (at_same n id here) ∙ there,
            ap id_of (sym (same_some h)) ∙ names z,
            ap pattern_of (sym (same_some h)) ∙ patterned z,
          )
          go false here o there h = (y, h, refl, refl)

      told_altered : (p : PatternValue) (n : ℕ) → is_passing (is_at pattern_of p) (member_at n rows) ≡ true
          → is_passing (is_at pattern_of p) (member_at n changed) ≡ true
      told_altered p n h =
          let it = passes (is_at pattern_of p) (member_at n rows) h in
          ap (is_passing (is_at pattern_of p)) (look_altered n id change rows)
          ∙ cond_both (at n id) (option_map change (member_at id rows)) (member_at n rows) (λ o. is_passing (is_at pattern_of p) o ≡ true)
          (λ here. ap (λ m. is_passing (is_at pattern_of p) (option_map change (member_at m rows))) (sym (at_same n id here))
          ∙ ap (λ o. is_passing (is_at pattern_of p) (option_map change o)) it.1
          ∙ ap (λ q. same_pattern q p) (patterned it.0) ∙ it.2)
          (λ _. h)

      pub kept_altered : ((y : G) → member_at id rows ≡ Some y → is_held sessions_of (change y) ≡ true) → Kept changed patterns last
      kept_altered holds = record {
        rising = subst (IsStrictlySortedBy nat_cmp) (sym (keys_altered id change rows)) kept.rising;
        ordered = kept.ordered;
        named = λ n y is. let z = was n y is in z.2 ∙ kept.named n z.0 z.1;
        found = λ n y is. let z = was n y is in ap (id_at patterns) z.3 ∙ kept.found n z.0 z.1;
        told = λ p n is. told_altered p n (kept.told p n is);
        held = λ n y is. cond_both (at n id) (option_map change (member_at id rows)) (member_at n rows)
            (λ o. o ≡ Some y → is_held sessions_of y ≡ true)
            (λ _ h. mapped (member_at id rows) refl y h) (λ _ h. kept.held n y h) (sym (look_altered n id change rows) ∙ is);
        within = above_altered id change (last + 1) rows kept.within;
      }
        where
          mapped : (o : Option G) → member_at id rows ≡ o → (y : G) → option_map change o ≡ Some y → is_held sessions_of y ≡ true
          mapped None there y h = absurd (none_some h)
          mapped (Some z) there y h = ap (is_held sessions_of) (sym (same_some h)) ∙ holds z there

    -- a group goes

    module _ (id : ℕ) (x : G) (fewer : List (ℕ × G)) (after : List (PatternValue × ℕ)) (there : member_at id rows ≡ Some x)
        (look : (n : ℕ) → member_at n fewer ≡ cond (at n id) None (member_at n rows))
        (removed : (p : PatternValue) → id_at after p ≡ cond (same_pattern (pattern_of x) p) None (id_at patterns p)) where
      stood : (n : ℕ) (y : G) → member_at n fewer ≡ Some y → (at n id ≡ false) × (member_at n rows ≡ Some y)
      stood n y is = go (at n id) refl (sym (look n) ∙ is)
        where
          go : (b : Bool) → at n id ≡ b → cond b None (member_at n rows) ≡ Some y → (at n id ≡ false) × (member_at n rows ≡ Some y)
          go true here h = absurd (none_some h)
          go false here h = (here, h)

      found_gone : (n : ℕ) (y : G) → at n id ≡ false → member_at n rows ≡ Some y → id_at after (pattern_of y) ≡ Some n
      found_gone n y off is =
          removed (pattern_of y)
          ∙ cond_both (same_pattern (pattern_of x) (pattern_of y)) None (id_at patterns (pattern_of y)) (λ o. o ≡ Some n)
          (λ h. absurd (both_ways (at n id) off (same_at n id (same_some (sym (kept.found n y is)
          ∙ ap (id_at patterns) (sym (the_same (pattern_of x) (pattern_of y) h)) ∙ kept.found id x there)))))
          (λ _. kept.found n y is)

      told_gone : (p : PatternValue) (n : ℕ) → cond (same_pattern (pattern_of x) p) None (id_at patterns p) ≡ Some n
          → is_passing (is_at pattern_of p) (cond (at n id) None (member_at n rows)) ≡ true
      told_gone p n = cond_both (same_pattern (pattern_of x) p) None (id_at patterns p)
          (λ o. o ≡ Some n → is_passing (is_at pattern_of p) (cond (at n id) None (member_at n rows)) ≡ true)
          (λ h is. absurd (none_some is))
          (λ off is. cond_both (at n id) None (member_at n rows) (λ o. is_passing (is_at pattern_of p) o ≡ true)
          (λ here. let it = passes (is_at pattern_of p) (member_at n rows) (kept.told p n is) in
          absurd (both_ways (is_at pattern_of p x) off (ap (is_at pattern_of p)
          (same_some (sym there ∙ ap (λ m. member_at m rows) (sym (at_same n id here)) ∙ it.1)) ∙ it.2)))
          (λ _. kept.told p n is))

      pub kept_gone : AreRising fewer → AreInOrder after → IsAbove (last + 1) fewer → Kept fewer after last
      kept_gone rising ordered within = record {
        rising = rising;
        ordered = ordered;
        named = λ n y is. kept.named n y (stood n y is).1;
        found = λ n y is. found_gone n y (stood n y is).0 (stood n y is).1;
        told = λ p n is. ap (is_passing (is_at pattern_of p)) (look n) ∙ told_gone p n (sym (removed p) ∙ is);
        held = λ n y is. kept.held n y (stood n y is).1;
        within = within;
      }
