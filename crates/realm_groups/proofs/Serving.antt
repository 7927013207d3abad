-- The group that serves is the one whose pattern serves.
use Rattle.std.proofs.Common.{◌≡◌, ℕ, Bool, true, false, not, List}
use Rattle.std.proofs.Common.{Option, None, Some, is_some, option_map, refl, sym, ap, ◌∙◌}
use Rattle.std.specs.List.{list_any}
use Rattle.std.proofs.lemmas.Bool.{false≢true, false_from_ne_true, both_ways}
use Rattle.wamp_ids.specs.Pattern.{PatternValue}
use Rattle.wamp_patterns.specs.Matching.{matches}
use Rattle.wamp_patterns.specs.Ranking.{better, is_unbeaten, matching, serves}
use Rattle.wamp_patterns.proofs.Serving.{one_unbeaten, some_serves}
use Rattle.realm_lists.specs.OrderedList.{member_at, members}
use Rattle.realm_lists.specs.Finding.{is_passing}
use Rattle.realm_groups.specs.Groups.{id_at, is_at}
use Rattle.realm_groups.proofs.Rows.{none_some, same_some}
use Rattle.realm_groups.proofs.Patterns.{the_same}
use Rattle.realm_groups.proofs.Standing.{Has, any_none, found_has, has_among, has_any}
use Rattle.realm_groups.proofs.Standing.{has_kept, has_kept_at, has_member, has_place_of, kept_has, member_has}
use Rattle.realm_groups.proofs.Keeping.{Kept}

some_or_none : {X : Type 0} {P : Type 0} (o : Option X) → (o ≡ None → P) → ((x : X) → o ≡ Some x → P) → P
some_or_none None none some = none refl
some_or_none (Some x) none some = some x refl

not_true : (b : Bool) → not b ≡ true → b ≡ false
not_true true h = absurd (false≢true h)
not_true false h = refl

module _ {X : Type 0} (pattern_of : X → PatternValue) (list : List X) (uri : List ℕ) where
  abbrev fit : List X
  fit = matching pattern_of list uri

  abbrev fits : X → Bool
  fits x = matches (pattern_of x) uri

  pub serves_none : ((x : X) → Has list x → matches (pattern_of x) uri ≡ false) → serves pattern_of list uri ≡ None
  serves_none none = some_or_none (serves pattern_of list uri) (λ is. is)
      (λ x is. absurd (false≢true (sym (any_none fits list none) ∙ sym (some_serves pattern_of list uri) ∙ ap is_some is)))

  pub none_match : serves pattern_of list uri ≡ None → (x : X) → Has list x → matches (pattern_of x) uri ≡ false
  none_match none x there = false_from_ne_true (fits x)
      (λ on. false≢true (ap is_some (sym none) ∙ some_serves pattern_of list uri ∙ has_any fits list x there on))

  -- a server is there, matches, and is beaten by none that matches
  pub server_is : (x : X) → serves pattern_of list uri ≡ Some x
      → Has list x × (matches (pattern_of x) uri ≡ true)
      × ((y : X) → Has list y → matches (pattern_of y) uri ≡ true → better (pattern_of y) (pattern_of x) ≡ false)
  server_is x is =
      let it = found_has (is_unbeaten pattern_of fit) fit x is in
      let at = has_among fits list x it.0 in (
        at.0,
        at.1,
        λ y there on. false_from_ne_true (better (pattern_of y) (pattern_of x))
            (λ bad. both_ways (list_any (λ other. better (pattern_of other) (pattern_of x)) fit)
            (not_true (list_any (λ other. better (pattern_of other) (pattern_of x)) fit) it.1)
            (has_any (λ other. better (pattern_of other) (pattern_of x)) fit y (has_kept fits list y there on) bad)),
      )

  -- a group that is there, matches and is beaten by none serves, if no other has its pattern
  pub serves_is : (x : X) → Has list x → matches (pattern_of x) uri ≡ true
      → ((y : X) → Has list y → matches (pattern_of y) uri ≡ true → better (pattern_of y) (pattern_of x) ≡ false)
      → ((y : X) → Has list y → pattern_of y ≡ pattern_of x → y ≡ x) → serves pattern_of list uri ≡ Some x
  serves_is x there on free one = some_or_none (serves pattern_of list uri)
      (λ is. absurd (both_ways (fits x) (none_match is x there) on))
      (λ y is.
      let it = found_has (is_unbeaten pattern_of fit) fit y is in
      let unbeaten : is_unbeaten pattern_of fit x ≡ true =
      ap not (any_none (λ other. better (pattern_of other) (pattern_of x)) fit
      (λ z among. let at = has_among fits list z among in free z at.0 at.1)) in
      let at_x = has_place_of fit x (has_kept fits list x there on) in
      let at_y = has_place_of fit y it.0 in
      is ∙ ap Some (one y (has_among fits list y it.0).0
      (one_unbeaten pattern_of list uri at_y.0 at_x.0 y x at_y.1 at_x.1 it.1 unbeaten)))

module _ {G : Type 0} (id_of : G → ℕ) (pattern_of : G → PatternValue) (sessions_of : G → List ℕ) (rows : List (ℕ × G))
    (patterns : List (PatternValue × ℕ)) (last : ℕ) (kept : Kept id_of pattern_of sessions_of rows patterns last) (uri : List ℕ) where
  -- each group's pattern is in the table, with its id
  in_table : (x : G) → Has (members rows) x → (n : ℕ) × (member_at n rows ≡ Some x) × Has patterns (pattern_of x, n)
  in_table x there =
      let it = has_member rows x kept.rising there in (it.0, it.1, kept_has patterns (pattern_of x) it.0 (kept.found it.0 x it.1))

  -- and each pattern of the table is a group's
  pub of_table : (e : PatternValue × ℕ) → Has patterns e → (x : G) × (member_at e.1 rows ≡ Some x) × (pattern_of x ≡ e.0)
  of_table e there = go (member_at e.1 rows) refl (kept.told e.0 e.1 (has_kept_at patterns e kept.ordered there))
    where
      go : (o : Option G) → member_at e.1 rows ≡ o → is_passing (is_at pattern_of e.0) o ≡ true
          → (x : G) × (member_at e.1 rows ≡ Some x) × (pattern_of x ≡ e.0)
      go None is h = absurd (false≢true h)
      go (Some x) is h = (x, is, the_same (pattern_of x) e.0 h)

  pub none_serves : serves (λ e. e.0) patterns uri ≡ None → serves pattern_of (members rows) uri ≡ None
  none_serves none = serves_none pattern_of (members rows) uri
      (λ x there. let it = in_table x there in none_match (λ e. e.0) patterns uri none (pattern_of x, it.0) it.2)

  pub one_serves : (e : PatternValue × ℕ) → serves (λ e. e.0) patterns uri ≡ Some e → serves pattern_of (members rows) uri ≡ member_at e.1 rows
  one_serves e is =
      let s = server_is (λ e. e.0) patterns uri e is in
      let it = of_table e s.0 in
      serves_is pattern_of (members rows) uri it.0 (member_has e.1 rows it.0 it.1) (ap (λ p. matches p uri) it.2 ∙ s.1)
      (λ y there on. let at = in_table y there in
      ap (better (pattern_of y)) it.2 ∙ s.2 (pattern_of y, at.0) at.2 on)
      (λ y there same. let at = in_table y there in
      same_some (sym at.1 ∙ ap (λ n. member_at n rows)
      (same_some (sym (kept.found at.0 y at.1) ∙ ap (id_at patterns) same ∙ kept.found e.1 it.0 it.1)) ∙ it.1))
      ∙ sym it.1

  -- by the id that the table gives
  pub best_none : option_map (λ e. e.1) (serves (λ e. e.0) patterns uri) ≡ None → serves pattern_of (members rows) uri ≡ None
  best_none none = some_or_none (serves (λ e. e.0) patterns uri) none_serves
      (λ e is. absurd (none_some (sym none ∙ ap (option_map (λ (e : PatternValue × ℕ). e.1)) is)))

  pub best_some : (n : ℕ) → option_map (λ e. e.1) (serves (λ e. e.0) patterns uri) ≡ Some n → serves pattern_of (members rows) uri ≡ member_at n rows
  best_some n some = some_or_none (serves (λ e. e.0) patterns uri)
      (λ none. absurd (none_some (sym (ap (option_map (λ (e : PatternValue × ℕ). e.1)) none) ∙ some)))
      (λ e is. one_serves e is
      ∙ ap (λ m. member_at m rows) (same_some (sym (ap (option_map (λ (e : PatternValue × ℕ). e.1)) is) ∙ some)))
