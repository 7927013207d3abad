-- Groups that are gathered by their ids, which come in any order, are those whose patterns match, by ascending id.
use Rattle.std.proofs.Common.{◌≡◌, ℕ, zero, suc, ◌+◌, ◌<◌, length, get_or, drop, arith, Bool, true}
use Rattle.std.proofs.Common.{false, cond, ◌||◌, List, [], ◌∷◌, map, filter, Option, None, Some, nat_cmp, nat_eq}
use Rattle.std.proofs.Common.{refl, sym, ap, ◌∙◌, subst}
use Rattle.std.specs.Prelude.{option_to_list}
use denote.Ref.{Bor}
use Rattle.std.specs.declared.cmp.Ordering.{Ordering}
use Rattle.std.specs.declared.cmp.Ordering.TheVariants.{Less, Equal, Greater}
use Rattle.std.specs.Ordering.{is_eq, match_ordering}
use Rattle.std.specs.Cmp.{nat_cmp_total}
use Rattle.std.specs.List.{All, list_any}
use Rattle.std.specs.List.Sorted.{IsStrictlySortedBy}
use Rattle.std.specs.BTreeMap.{insert_entry}
use Rattle.std.specs.Map.{keys_of, values_of}
use Rattle.std.proofs.lemmas.Bool.{cond-true, cond-false, eqb-true}
use Rattle.std.proofs.lemmas.List.Elements.{All-head, All-tail}
use Rattle.std.proofs.lemmas.List.Kept.{IsStrictlySortedBy-filter}
use Rattle.std.proofs.lemmas.Map.Entries.{lookup-filter-keys}
use Rattle.wamp_ids.specs.Pattern.{PatternValue}
use Rattle.wamp_patterns.specs.Matching.{matches}
use Rattle.wamp_patterns.specs.Ranking.{matching}
use Rattle.wamp_patterns.proofs.Placing.{sorted_put}
use Rattle.realm_lists.specs.OrderedList.{member_at, members}
use Rattle.realm_lists.specs.Finding.{AreRising}
use Rattle.realm_lists.proofs.Finding.{at_is, at_same, same_at}
use Rattle.realm_lists.proofs.Gathering.{same_rows}
use Rattle.realm_groups.specs.Groups.{gathered, shown, with_found}
use Rattle.realm_groups.proofs.Rows.{all_stand, at, same_some, two_ways}
use Rattle.realm_groups.proofs.Sets.{none_rising}
use Rattle.realm_groups.proofs.Keeping.{Kept}
use Rattle.realm_groups.proofs.Standing.{has_among, has_kept, has_value, kept_has, value_has}
use Rattle.realm_groups.proofs.Serving.{of_table}

module _ {G : Type 0} where
  put_shown_step : (e : ℕ × Bor G) (es rest : List (ℕ × Bor G)) (others : List (ℕ × G)) (k : ℕ) (v : Bor G) (o : Ordering) → shown rest ≡ others
      → shown (match_ordering o ((k, v) ∷ e ∷ es) ((e.0, v) ∷ es) (e ∷ rest))
      ≡ match_ordering o ((k, v.now) ∷ (e.0, e.1.now) ∷ shown es) ((e.0, v.now) ∷ shown es) ((e.0, e.1.now) ∷ others)
  put_shown_step e es rest others k v Less h = refl
  put_shown_step e es rest others k v Equal h = refl
  put_shown_step e es rest others k v Greater h = ap (λ (xs : List (ℕ × G)). (e.0, e.1.now) ∷ xs) h

  pub put_shown : (es : List (ℕ × Bor G)) (k : ℕ) (v : Bor G) → shown (insert_entry nat_cmp es k v) ≡ insert_entry nat_cmp (shown es) k v.now
  put_shown [] k v = refl
  put_shown (e ∷ es) k v =
      put_shown_step e es (insert_entry nat_cmp es k v) (insert_entry nat_cmp (shown es) k v.now) k v (nat_cmp k e.0) (put_shown es k v)

  pub values_shown : (es : List (ℕ × Bor G)) → map (λ v. v.now) (values_of es) ≡ values_of (shown es)
  values_shown [] = refl
  values_shown (e ∷ es) = ap (λ (xs : List G). e.1.now ∷ xs) (values_shown es)

  -- ---- look-ups

  put_step : (e : ℕ × G) (es rest : List (ℕ × G)) (k : ℕ) (v : G) (q : ℕ) (o : Ordering) (b c : Bool) → nat_cmp k e.0 ≡ o → at q k ≡ b → at q e.0 ≡ c
      → member_at q rest ≡ cond (at q k) (Some v) (member_at q es)
      → member_at q (match_ordering o ((k, v) ∷ e ∷ es) ((e.0, v) ∷ es) (e ∷ rest))
      ≡ cond b (Some v) (cond c (Some e.1) (member_at q es))
  put_step e es rest k v q Less true c h here there step = cond-true (at q k) (Some v) (member_at q (e ∷ es)) here
  put_step e es rest k v q Less false c h here there step =
      cond-false (at q k) (Some v) (member_at q (e ∷ es)) here ∙ ap (λ b. cond b (Some e.1) (member_at q es)) there
  put_step e es rest k v q Equal true c h here there step =
      cond-true (at q e.0) (Some v) (member_at q es) (same_at q e.0 (at_same q k here ∙ at_same k e.0 (ap is_eq h)))
  put_step e es rest k v q Equal false true h here there step =
      cc (sym here ∙ same_at q k (at_same q e.0 there ∙ sym (at_same k e.0 (ap is_eq h))))
  put_step e es rest k v q Equal false false h here there step = cond-false (at q e.0) (Some v) (member_at q es) there
  put_step e es rest k v q Greater true true h here there step =
      cc (sym (ap is_eq h) ∙ same_at k e.0 (sym (at_same q k here) ∙ at_same q e.0 there))
  put_step e es rest k v q Greater true false h here there step =
      cond-false (at q e.0) (Some e.1) (member_at q rest) there ∙ step ∙ cond-true (at q k) (Some v) (member_at q es) here
  put_step e es rest k v q Greater false true h here there step = cond-true (at q e.0) (Some e.1) (member_at q rest) there
  put_step e es rest k v q Greater false false h here there step =
      cond-false (at q e.0) (Some e.1) (member_at q rest) there ∙ step ∙ cond-false (at q k) (Some v) (member_at q es) here

  look_put : (q : ℕ) (es : List (ℕ × G)) (k : ℕ) (v : G)
      → member_at q (insert_entry nat_cmp es k v) ≡ cond (at q k) (Some v) (member_at q es)
  look_put q [] k v = refl
  look_put q (e ∷ es) k v =
      put_step e es (insert_entry nat_cmp es k v) k v q (nat_cmp k e.0) (at q k) (at q e.0) refl refl refl (look_put q es k v)

  module _ (rows : List (ℕ × G)) where
    found_step : (q id : ℕ) (found : List (ℕ × G)) (ids : List ℕ) (o : Option G) (b c : Bool) → member_at id rows ≡ o → nat_eq q id ≡ b
        → member_at q found ≡ cond c (member_at q rows) None
        → member_at q (with_found id o found) ≡ cond (c || b) (member_at q rows) None
    found_step q id found ids None true c is here was = was ∙ none c (member_at q rows) (ap (λ n. member_at n rows) (eqb-true q id here) ∙ is)
      where
        none : (c : Bool) (x : Option G) → x ≡ None → cond c x None ≡ cond (c || true) x None
        none true x e = refl
        none false x e = sym e
    found_step q id found ids None false c is here was = was ∙ same c (member_at q rows)
      where
        same : (c : Bool) (x : Option G) → cond c x None ≡ cond (c || false) x None
        same true x = refl
        same false x = refl
    found_step q id found ids (Some x) true c is here was =
        look_put q found id x ∙ cond-true (at q id) (Some x) (member_at q found) (at_is q id ∙ here)
        ∙ sym (one c (member_at q rows) (ap (λ n. member_at n rows) (eqb-true q id here) ∙ is))
      where
        one : (c : Bool) (o : Option G) → o ≡ Some x → cond (c || true) o None ≡ Some x
        one true o e = e
        one false o e = e
    found_step q id found ids (Some x) false c is here was =
        look_put q found id x ∙ cond-false (at q id) (Some x) (member_at q found) (at_is q id ∙ here) ∙ was ∙ same c (member_at q rows)
      where
        same : (c : Bool) (o : Option G) → cond c o None ≡ cond (c || false) o None
        same true o = refl
        same false o = refl

    or_again : (c b d : Bool) → ((c || b) || d) ≡ (c || (b || d))
    or_again true b d = refl
    or_again false b d = refl

    rising_step : (id : ℕ) (found : List (ℕ × G)) (o : Option G) → AreRising found → AreRising (with_found id o found)
    rising_step id found None rising = rising
    rising_step id found (Some x) rising = sorted_put nat_cmp_total id x found rising

    rising_gathered : (ids : List ℕ) (found : List (ℕ × G)) → AreRising found → AreRising (gathered rows found ids)
    rising_gathered [] found rising = rising
    rising_gathered (id ∷ ids) found rising =
        rising_gathered ids (with_found id (member_at id rows) found) (rising_step id found (member_at id rows) rising)

    look_gathered : (q : ℕ) (ids : List ℕ) (found : List (ℕ × G)) (c : Bool) → member_at q found ≡ cond c (member_at q rows) None
        → member_at q (gathered rows found ids) ≡ cond (c || list_any (nat_eq q) ids) (member_at q rows) None
    look_gathered q [] found c was = was ∙ same c (member_at q rows)
      where
        same : (c : Bool) (o : Option G) → cond c o None ≡ cond (c || false) o None
        same true o = refl
        same false o = refl
    look_gathered q (id ∷ ids) found c was =
        look_gathered q ids (with_found id (member_at id rows) found) (c || nat_eq q id)
        (found_step q id found ids (member_at id rows) (nat_eq q id) c refl refl was)
        ∙ ap (λ b. cond b (member_at q rows) None) (or_again c (nat_eq q id) (list_any (nat_eq q) ids))

    kept_look : (q : ℕ) (test : ℕ → Bool) → member_at q (filter (λ row. test row.0) rows) ≡ cond (test q) (member_at q rows) None
    kept_look q test = lookup-filter-keys (λ n. at q n) test (test q) (λ n h. ap test (sym (at_same q n h))) rows

  keys_step : (test : ℕ → Bool) (row : ℕ × G) (rows : List (ℕ × G)) (b : Bool)
      → keys_of (filter (λ row. test row.0) rows) ≡ filter test (keys_of rows)
      → keys_of (cond b (row ∷ filter (λ row. test row.0) rows) (filter (λ row. test row.0) rows))
      ≡ cond b (row.0 ∷ filter test (keys_of rows)) (filter test (keys_of rows))
  keys_step test row rows true rest = ap (λ (keys : List ℕ). row.0 ∷ keys) rest
  keys_step test row rows false rest = rest

  keys_kept : (test : ℕ → Bool) (rows : List (ℕ × G)) → keys_of (filter (λ (row : ℕ × G). test row.0) rows) ≡ filter test (keys_of rows)
  keys_kept test [] = refl
  keys_kept test (row ∷ rows) = keys_step test row rows (test row.0) (keys_kept test rows)

  -- what is gathered is what a walk keeps
  gathered_is : (rows : List (ℕ × G)) (ids : List ℕ) → AreRising rows
      → gathered rows [] ids ≡ filter (λ (row : ℕ × G). list_any (nat_eq row.0) ids) rows
  gathered_is rows ids rising =
      same_rows (gathered rows [] ids) (filter (λ (row : ℕ × G). list_any (nat_eq row.0) ids) rows)
      (rising_gathered rows ids [] none_rising)
      (subst (IsStrictlySortedBy nat_cmp) (sym (keys_kept (λ n. list_any (nat_eq n) ids) rows))
      (IsStrictlySortedBy-filter nat_cmp (λ n. list_any (nat_eq n) ids) (keys_of rows) rising))
      (λ q. look_gathered rows q ids [] false refl ∙ sym (kept_look rows q (λ n. list_any (nat_eq n) ids)))

  walk_step : (p : G → Bool) (row : ℕ × G) (rest : List G) (others : List (ℕ × G)) (b : Bool) → rest ≡ members others
      → cond b (row.1 ∷ rest) rest ≡ members (cond b (row ∷ others) others)
  walk_step p row rest others true h = ap (λ (xs : List G). row.1 ∷ xs) h
  walk_step p row rest others false h = h

  kept_walk : (p : G → Bool) (test : ℕ → Bool) (rows : List (ℕ × G)) → All (λ (row : ℕ × G). p row.1 ≡ test row.0) rows
      → filter p (members rows) ≡ members (filter (λ (row : ℕ × G). test row.0) rows)
  kept_walk p test [] alike = refl
  kept_walk p test (row ∷ rows) alike =
      let Alike : ℕ × G → Type 0 = λ row. p row.1 ≡ test row.0 in
      ap (λ b. cond b (row.1 ∷ filter p (members rows)) (filter p (members rows))) (All-head Alike row rows alike)
      ∙ walk_step p row (filter p (members rows)) (filter (λ (row : ℕ × G). test row.0) rows) (test row.0)
      (kept_walk p test rows (All-tail Alike row rows alike))

module _ {G : Type 0} (id_of : G → ℕ) (pattern_of : G → PatternValue) (sessions_of : G → List ℕ) (rows : List (ℕ × G))
    (patterns : List (PatternValue × ℕ)) (last : ℕ) (kept : Kept id_of pattern_of sessions_of rows patterns last) (uri : List ℕ) where
  abbrev ids : List ℕ
  ids = values_of (matching (λ e. e.0) patterns uri)

  alike : All (λ (row : ℕ × G). matches (pattern_of row.1) uri ≡ list_any (nat_eq row.0) ids) rows
  alike = all_stand (λ (row : ℕ × G). matches (pattern_of row.1) uri ≡ list_any (nat_eq row.0) ids) rows kept.rising
      (λ n x is. two_ways (matches (pattern_of x) uri) (list_any (nat_eq n) ids)
      (λ on. has_value (matching (λ e. e.0) patterns uri) (pattern_of x, n)
      (has_kept (λ (e : PatternValue × ℕ). matches e.0 uri) patterns (pattern_of x, n) (kept_has patterns (pattern_of x) n (kept.found n x is)) on))
      (λ there.
      let e = value_has (matching (λ e. e.0) patterns uri) n there in
      let at = has_among (λ (e : PatternValue × ℕ). matches e.0 uri) patterns (e.0, n) e.1 in
      let it = of_table id_of pattern_of sessions_of rows patterns last kept uri (e.0, n) at.0 in
      ap (λ p. matches p uri) (ap pattern_of (same_some (sym is ∙ it.1)) ∙ it.2) ∙ at.1))

  -- the groups of the ids that the table gives are those that match
  pub gathered_match : values_of (gathered rows [] ids) ≡ matching pattern_of (members rows) uri
  gathered_match =
      ap (λ (xs : List (ℕ × G)). members xs) (gathered_is rows ids kept.rising)
      ∙ sym (kept_walk (λ x. matches (pattern_of x) uri) (λ n. list_any (nat_eq n) ids) rows alike)

-- one step of the gathering, at a place of the ids
pub gathered_next : {G : Type 0} (rows found after : List (ℕ × G)) (ids : List (Bor ℕ)) (i : ℕ) (d : Bor ℕ) → i < length ids
    → after ≡ with_found (get_or ids i d).now (member_at (get_or ids i d).now rows) found
    → gathered rows after (map (λ id. id.now) (drop (i + 1) ids)) ≡ gathered rows found (map (λ id. id.now) (drop i ids))
gathered_next rows found after [] i d within step = absurd (omega arith)
gathered_next rows found after (id ∷ rest) zero d within step = ap (λ xs. gathered rows xs (map (λ id. id.now) rest)) step
gathered_next rows found after (id ∷ rest) (suc i) d within step =
    let next : suc i + 1 ≡ suc (i + 1) = omega arith in
    ap (λ n. gathered rows after (map (λ id. id.now) (drop n (id ∷ rest)))) next ∙ gathered_next rows found after rest i d (omega arith) step

-- what one id gathers
pub one_gathered : {G : Type 0} (rows : List (ℕ × G)) (ids : List (Bor ℕ)) (d : Bor ℕ) (o : Option G) → 0 < length ids → length ids < 2
    → member_at (get_or ids 0 d).now rows ≡ o → values_of (gathered rows [] (map (λ id. id.now) ids)) ≡ option_to_list o
one_gathered rows [] d o some few is = absurd (omega arith)
one_gathered rows (id ∷ []) d None some few is = ap (λ o. values_of (with_found id.now o [])) is
one_gathered rows (id ∷ []) d (Some x) some few is = ap (λ o. values_of (with_found id.now o [])) is
one_gathered rows (id ∷ next ∷ rest) d o some few is = absurd (omega arith)
