-- A group that a call has changed, as the map's calls tell it.
use Rattle.std.proofs.Common.{◌≡◌, ℕ, ◌+◌, true, false, cond, List, Option}
use Rattle.std.proofs.Common.{None, Some, Result, Ok, Err, OnOk, OnErr, nat_cmp, option_map}
use Rattle.std.proofs.Common.{refl, sym, ap, ◌∙◌, subst}
use Rattle.std.specs.BTreeMap.{is_at as is_key_at}
use Rattle.std.proofs.lemmas.Bool.{cond-true, cond-false, false≢true}
use Rattle.wamp_ids.specs.Pattern.{PatternValue}
use Rattle.wamp_patterns.specs.Table.{AreInOrder, same_pattern}
use Rattle.realm_lists.specs.OrderedList.{IsAbove, member_at, with_member, without}
use Rattle.realm_lists.specs.Finding.{AreRising}
use Rattle.realm_lists.proofs.Finding.{same_at}
use Rattle.realm_groups.specs.Groups.{after_left, alter_at, id_at, is_held, left_at, stays}
use Rattle.realm_groups.proofs.Sets.{back_same}
use Rattle.realm_groups.proofs.Rows.{above_altered, above_without, at, goes_left, look_altered, look_left}
use Rattle.realm_groups.proofs.Rows.{none_altered, none_left, none_some, none_without, same_some, set_altered, stays_left}
use Rattle.realm_groups.proofs.Keeping.{Kept, kept_gone}

module _ {G : Type 0} where
  -- what was written in its stead is what it became
  pub written : (rows after : List (ℕ × G)) (id : ℕ) (change : G → G) (x w : G) → member_at id rows ≡ Some x → after ≡ with_member id w rows
      → w ≡ change x → after ≡ alter_at id change rows
  written rows after id change x w there put is = put ∙ ap (λ y. with_member id y rows) is ∙ set_altered id change rows x there

  pub written_ok : {A E : Type 0} (result : Result A E) (rows after : List (ℕ × G)) (id : ℕ) (change : G → G) (x w : G)
      → member_at id rows ≡ Some x → after ≡ with_member id w rows → OnOk result (w ≡ change x) → OnOk result (after ≡ alter_at id change rows)
  written_ok (Ok a) rows after id change x w there put is = written rows after id change x w there put is
  written_ok (Err e) rows after id change x w there put is = tt

  pub written_back : {A E : Type 0} (result : Result A E) (rows after : List (ℕ × G)) (id : ℕ) (x w : G)
      → member_at id rows ≡ Some x → after ≡ with_member id w rows → OnErr result (w ≡ x) → OnErr result (after ≡ rows)
  written_back result rows after id x w there put is = back_same result (is_key_at (nat_cmp id)) rows after x w there put is

  pub none_there : (rows after : List (ℕ × G)) (id : ℕ) (change : G → G) → member_at id rows ≡ None → after ≡ rows
      → after ≡ alter_at id change rows
  none_there rows after id change none same = same ∙ sym (none_altered id change rows none)

  module _ (sessions_of : G → List ℕ) (change : G → G) (id : ℕ) (rows : List (ℕ × G)) where
    pub who_stays : stays sessions_of change (member_at id rows) ≡ true → (x : G) × (member_at id rows ≡ Some x)
        × (is_held sessions_of (change x) ≡ true)
    who_stays h = go (member_at id rows) refl h
      where
        go : (o : Option G) → member_at id rows ≡ o → stays sessions_of change o ≡ true → (x : G) × (member_at id rows ≡ Some x)
            × (is_held sessions_of (change x) ≡ true)
        go None is h = absurd (false≢true h)
        go (Some x) is h = (x, is, h)

    pub held_there : stays sessions_of change (member_at id rows) ≡ true → (y : G) → member_at id rows ≡ Some y
        → is_held sessions_of (change y) ≡ true
    held_there h y is =
        let it = who_stays h in ap (λ z. is_held sessions_of (change z)) (same_some (sym is ∙ it.1)) ∙ it.2

    pub stays_rows : stays sessions_of change (member_at id rows) ≡ true → alter_at id change rows ≡ left_at sessions_of id change rows
    stays_rows h = let it = who_stays h in stays_left sessions_of id change rows it.0 it.1 it.2

    pub gone_rows : stays sessions_of change (member_at id rows) ≡ false → without id (alter_at id change rows) ≡ left_at sessions_of id change rows
    gone_rows h = go (member_at id rows) refl h
      where
        go : (o : Option G) → member_at id rows ≡ o → stays sessions_of change o ≡ false
            → without id (alter_at id change rows) ≡ left_at sessions_of id change rows
        go None is h =
            ap (without id) (none_altered id change rows is) ∙ none_without id rows is ∙ sym (none_left sessions_of id change rows is)
        go (Some x) is h = goes_left sessions_of id change rows x is h

    -- if none is taken out, none was there
    pub none_gone : member_at id (alter_at id change rows) ≡ None → without id (alter_at id change rows) ≡ rows
    none_gone h = go (member_at id rows) refl
        (sym (cond-true (at id id) (option_map change (member_at id rows)) (member_at id rows) (same_at id id refl))
        ∙ sym (look_altered id id change rows) ∙ h)
      where
        go : (o : Option G) → member_at id rows ≡ o → option_map change (member_at id rows) ≡ None → without id (alter_at id change rows) ≡ rows
        go None is n = ap (without id) (none_altered id change rows is) ∙ none_without id rows is
        go (Some x) is n = absurd (none_some (sym n ∙ ap (option_map change) is))

    pub who_was : (y : G) → member_at id (alter_at id change rows) ≡ Some y → (x : G) × (member_at id rows ≡ Some x) × (y ≡ change x)
    who_was y h = go (member_at id rows) refl
        (sym (cond-true (at id id) (option_map change (member_at id rows)) (member_at id rows) (same_at id id refl))
        ∙ sym (look_altered id id change rows) ∙ h)
      where
        go : (o : Option G) → member_at id rows ≡ o → option_map change (member_at id rows) ≡ Some y
            → (x : G) × (member_at id rows ≡ Some x) × (y ≡ change x)
        go None is n = absurd (none_some (sym (ap (option_map change) is) ∙ n))
        go (Some x) is n = (x, is, sym (same_some (sym (ap (option_map change) is) ∙ n)))

    look_fewer : (x : G) (n : ℕ) → AreRising rows → member_at id rows ≡ Some x → is_held sessions_of (change x) ≡ false
        → member_at n (left_at sessions_of id change rows) ≡ cond (at n id) None (member_at n rows)
    look_fewer x n rising there off =
        look_left sessions_of n id change rows rising
        ∙ ap (λ o. cond (at n id) o (member_at n rows))
        (ap (after_left sessions_of change) there ∙ cond-false (is_held sessions_of (change x)) (Some (change x)) None off)

  -- groups are kept as one of them goes
  pub kept_left : (id_of : G → ℕ) (pattern_of : G → PatternValue) (sessions_of : G → List ℕ) (change : G → G) (id : ℕ) (rows fewer : List (ℕ × G))
      (patterns after : List (PatternValue × ℕ)) (last : ℕ) (y : G) → ((z : G) → pattern_of (change z) ≡ pattern_of z)
      → stays sessions_of change (member_at id rows) ≡ false → member_at id (alter_at id change rows) ≡ Some y
      → fewer ≡ without id (alter_at id change rows) → AreRising fewer → AreInOrder after
      → ((p : PatternValue) → id_at after p ≡ cond (same_pattern (pattern_of y) p) None (id_at patterns p))
      → Kept id_of pattern_of sessions_of rows patterns last → Kept id_of pattern_of sessions_of fewer after last
  kept_left id_of pattern_of sessions_of change id rows fewer patterns after last y patterned off there is rising ordered removed kept =
      let x = who_was sessions_of change id rows y there in
      let not_held : is_held sessions_of (change x.0) ≡ false = ap (stays sessions_of change) (sym x.1) ∙ off in
      kept_gone id_of pattern_of sessions_of rows patterns last kept id x.0 fewer after x.1
      (λ n. ap (member_at n) (is ∙ gone_rows sessions_of change id rows off) ∙ look_fewer sessions_of change id rows x.0 n kept.rising x.1 not_held)
      (λ p. removed p ∙ ap (λ q. cond (same_pattern q p) None (id_at patterns p)) (ap pattern_of x.2 ∙ patterned x.0))
      rising ordered
      (subst (λ (xs : List (ℕ × G)). IsAbove (last + 1) xs) (sym is)
      (above_without id (last + 1) (alter_at id change rows) (above_altered id change (last + 1) rows kept.within)))
