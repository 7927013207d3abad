-- Groups that are put in one after the other.
use Rattle.std.proofs.Common.{◌≡◌, ℕ, ◌+◌, ◌<◌, ◌≤◌, nat_lt, Bool, true, false, not, ◌||◌}
use Rattle.std.proofs.Common.{List, [], ◌∷◌, find, Option, None, Some, refl, sym, ap, ◌∙◌, arith, if◌then◌else◌}
use Rattle.std.specs.List.{list_any}
use Rattle.std.proofs.lemmas.Bool.{or_parts, ltb-true, not-false, cond-false}
use Rattle.std.proofs.lemmas.List.Elements.{All-weaker}
use Rattle.std.proofs.lemmas.Option.{none-some}
use Rattle.wamp_ids.specs.Pattern.{PatternValue}
use Rattle.realm_groups.specs.Groups.{AreKept, Listed, has_id, is_at, found_session, put_first, change_first, with_list}
use Rattle.realm_groups.specs.Restoring.{is_refused, joined_at}

none_found : {T : Type 0} (test : T → Bool) (xs : List T) → list_any test xs ≡ false → find test xs ≡ None
none_found test [] none = refl
none_found test (x ∷ xs) none =
    let parts = or_parts (test x) (list_any test xs) none in cond-false (test x) (Some x) (find test xs) parts.0 ∙ none_found test xs parts.1

-- what nothing passes stays as it is
pub none_changed : {T : Type 0} (test : T → Bool) (change : T → Option T) (xs : List T) → find test xs ≡ None → change_first test change xs ≡ xs
none_changed test change [] none = refl
none_changed {T} test change (x ∷ xs) none = step (test x) none (none_changed test change xs)
  where
    step : (b : Bool) → (if b then Some x else find test xs) ≡ None → (find test xs ≡ None → change_first test change xs ≡ xs)
        → (if b then put_first (change x) xs else x ∷ change_first test change xs) ≡ x ∷ xs
    step true h more = absurd (none-some x (sym h))
    step false h more = ap (λ (ys : List T). x ∷ ys) (more h)

-- a higher id was handed out
pub kept_below : {G : Type 0} (id_of : G → ℕ) (pattern_of : G → PatternValue) (sessions_of : G → List ℕ) (rows : List (ℕ × G))
    (patterns : List (PatternValue × ℕ)) (last more : ℕ) → last ≤ more
    → AreKept id_of pattern_of sessions_of rows patterns last → AreKept id_of pattern_of sessions_of rows patterns more
kept_below {G} id_of pattern_of sessions_of rows patterns last more up kept = record {
  rising = kept.rising;
  ordered = kept.ordered;
  named = kept.named;
  found = kept.found;
  told = kept.told;
  held = kept.held;
  within = All-weaker (λ (row : ℕ × G). row.0 < last + 1) (λ (row : ℕ × G). row.0 < more + 1) (λ row h. omega (arith, h, up)) rows kept.within;
}

-- a session that is not in the group joins it, and then the others
pub joined_more : {G : Type 0} (id_of : G → ℕ) (sessions_of : G → List ℕ) (with : ℕ → G → G) (held new : Listed G) (id session : ℕ)
    (rest all : List ℕ) → all ≡ session ∷ rest → false ≡ found_session sessions_of session (find (has_id id_of id) held.list)
    → new ≡ with_list held (change_first (has_id id_of id) (λ group. Some (with session group)) held.list)
    → joined_at id_of sessions_of with new id rest ≡ joined_at id_of sessions_of with held id all
joined_more {G} id_of sessions_of with held new id session rest all are free is =
    let next : Listed G = with_list held (change_first (has_id id_of id) (λ group. Some (with session group)) held.list) in
    ap (λ (groups : Listed G). joined_at id_of sessions_of with groups id rest) is
    ∙ ap (λ b. if b then None else joined_at id_of sessions_of with next id rest) free
    ∙ ap (λ ids. joined_at id_of sessions_of with held id ids) (sym are)

module _ {G : Type 0} (id_of : G → ℕ) (pattern_of : G → PatternValue) where
  -- a group is refused for its id
  pub late_refused : (held : Listed G) (group : G) (id : ℕ) → id_of group ≡ id → nat_lt held.last id ≡ false
      → true ≡ is_refused id_of pattern_of held group
  late_refused held group id is late =
      sym (ap (λ n. not (nat_lt held.last n) || list_any (is_at pattern_of (pattern_of group)) held.list) is
      ∙ ap (λ b. not b || list_any (is_at pattern_of (pattern_of group)) held.list) late)

  -- or else for its pattern
  pub pattern_refused : (held : Listed G) (group : G) (id : ℕ) → id_of group ≡ id → nat_lt held.last id ≡ true
      → list_any (is_at pattern_of (pattern_of group)) held.list ≡ is_refused id_of pattern_of held group
  pattern_refused held group id is next =
      sym (ap (λ n. not (nat_lt held.last n) || list_any (is_at pattern_of (pattern_of group)) held.list) is
      ∙ ap (λ b. not b || list_any (is_at pattern_of (pattern_of group)) held.list) next)

  -- what is not refused has a later id and a new pattern
  pub free_id : (held : Listed G) (group : G) (id : ℕ) → id_of group ≡ id → is_refused id_of pattern_of held group ≡ false → held.last < id
  free_id held group id is free =
      let parts = or_parts (not (nat_lt held.last (id_of group))) (list_any (is_at pattern_of (pattern_of group)) held.list) free in
      ltb-true held.last id (ap (nat_lt held.last) (sym is) ∙ not-false (nat_lt held.last (id_of group)) parts.0)

  pub free_pattern : (held : Listed G) (group : G) → is_refused id_of pattern_of held group ≡ false
      → find (is_at pattern_of (pattern_of group)) held.list ≡ None
  free_pattern held group free =
      let parts = or_parts (not (nat_lt held.last (id_of group))) (list_any (is_at pattern_of (pattern_of group)) held.list) free in
      none_found (is_at pattern_of (pattern_of group)) held.list parts.1
