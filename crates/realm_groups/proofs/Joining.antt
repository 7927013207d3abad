-- Of each session it goes on being told in which groups it is.
use Rattle.std.proofs.Common.{◌≡◌, ℕ, ◌==◌, Bool, true, false, not, ◌&&◌, ◌||◌, cond, List, [], ◌∷◌}
use Rattle.std.proofs.Common.{◌++◌, suc, arith, lt-ltb, map, filter, length, Option, None, Some, nat_cmp, option_map}
use Rattle.std.proofs.Common.{refl, sym, ap, ◌∙◌, subst}
use Rattle.std.specs.declared.cmp.Ordering.TheVariants.{Less}
use Rattle.std.specs.Ordering.{is_eq}
use Rattle.std.specs.List.{All, AllByRecursion}
use Rattle.std.specs.List.Sorted.{IsStrictlySortedBy}
use Rattle.std.specs.Map.{keys_of}
use Rattle.std.proofs.lemmas.Bool.{cond-true, cond-false, cond_both, both_ways, false≢true, eqb-true, eq-eqb, false_from_ne_true}
use Rattle.std.proofs.lemmas.Map.Keys.{sorted_head, sorted_tail}
use Rattle.realm_sessions.specs.Members.{has_member, has_members, joined, others}
use Rattle.realm_lists.specs.OrderedList.{IsAbove, member_at, members}
use Rattle.realm_lists.specs.Finding.{AreRising}
use Rattle.realm_lists.proofs.Finding.{at_same, same_at, rising_tail}
use Rattle.realm_lists.proofs.Gathering.{same_rows}
use Rattle.realm_groups.specs.Groups.{after_left, alter_at, found_session, has_session, if_held, is_held, left_at}
use Rattle.realm_groups.specs.IdSets.{has_id_in, ids_of, is_id}
use Rattle.realm_groups.proofs.Rows.{all_stand, at, look_altered, look_left, look_pushed}
use Rattle.realm_groups.proofs.Rows.{none_above, none_behind, two_ways}

-- ---- among the sessions of one group

pub turned_at : (q id : ℕ) → at q id ≡ at id q
turned_at q id = two_ways (at q id) (at id q) (λ h. same_at id q (sym (at_same q id h))) (λ h. same_at q id (sym (at_same id q h)))

pub joined_member : (session other : ℕ) (xs : List ℕ) → has_member other (joined session xs) ≡ (has_member other xs || (session == other))
joined_member session other [] = last (session == other)
  where
    last : (b : Bool) → (b || false) ≡ b
    last true = refl
    last false = refl
joined_member session other (x ∷ xs) = go (x == other) (joined_member session other xs)
  where
    go : (b : Bool) → has_member other (joined session xs) ≡ (has_member other xs || (session == other))
        → (b || has_member other (joined session xs)) ≡ ((b || has_member other xs) || (session == other))
    go true h = refl
    go false h = h

pub joined_held : (session : ℕ) (xs : List ℕ) → has_members (joined session xs) ≡ true
joined_held session [] = lt-ltb 0 (length (joined session [])) (omega arith)
joined_held session (x ∷ xs) = lt-ltb 0 (length (joined session (x ∷ xs))) (omega arith)

pub gone_member : (session : ℕ) (xs : List ℕ) → has_member session (others session xs) ≡ false
gone_member session [] = refl
gone_member session (x ∷ xs) = go (x == session) refl (gone_member session xs)
  where
    go : (b : Bool) → (x == session) ≡ b → has_member session (others session xs) ≡ false
        → has_member session (cond (not b) (x ∷ others session xs) (others session xs)) ≡ false
    go true h rest = rest
    go false h rest = ap (λ b. b || has_member session (others session xs)) h ∙ rest

pub other_member : (session other : ℕ) (xs : List ℕ) → (other ≡ session → ⊥) → has_member other (others session xs) ≡ has_member other xs
other_member session other [] apart = refl
other_member session other (x ∷ xs) apart = go (x == session) refl (other_member session other xs apart)
  where
    go : (b : Bool) → (x == session) ≡ b → has_member other (others session xs) ≡ has_member other xs
        → has_member other (cond (not b) (x ∷ others session xs) (others session xs)) ≡ ((x == other) || has_member other xs)
    go true h rest =
        rest ∙ sym (ap (λ b. b || has_member other xs) (false_from_ne_true (x == other)
        (λ k. apart (sym (eqb-true x other k) ∙ eqb-true x session h))))
    go false h rest = ap (λ b. (x == other) || b) rest

pub none_member : (session : ℕ) (xs : List ℕ) → has_members xs ≡ false → has_member session xs ≡ false
none_member session [] h = refl
none_member session (x ∷ xs) h = absurd (false≢true (sym h ∙ long))
  where
    long : has_members (x ∷ xs) ≡ true
    long = lt-ltb 0 (length (x ∷ xs)) (omega arith)

-- ---- ids that rise

none_less : (id : ℕ) (rest : List ℕ) → AllByRecursion (λ other. nat_cmp id other ≡ Less) rest → has_id_in rest id ≡ false
none_less id [] all = refl
none_less id (x ∷ xs) all = ap (λ o. is_eq o || has_id_in xs id) all.0 ∙ none_less id xs all.1

not_behind : (id : ℕ) (rest : List ℕ) (q : ℕ) → IsStrictlySortedBy nat_cmp (id ∷ rest) → q ≡ id → has_id_in rest q ≡ false
not_behind id rest q sorted same = ap (has_id_in rest) same ∙ none_less id rest (sorted_head nat_cmp id rest sorted)

pub behind_sorted : (id : ℕ) (rest : List ℕ) → IsStrictlySortedBy nat_cmp (id ∷ rest) → IsStrictlySortedBy nat_cmp rest
behind_sorted id rest sorted = sorted_tail nat_cmp id rest sorted

abbrev marked : List ℕ → List (ℕ × Bool)
marked ids = map (λ id. (id, true)) ids

keys_marked : (ids : List ℕ) → keys_of (marked ids) ≡ ids
keys_marked [] = refl
keys_marked (id ∷ ids) = ap (λ (xs : List ℕ). id ∷ xs) (keys_marked ids)

look_marked : (ids : List ℕ) (q : ℕ) → member_at q (marked ids) ≡ cond (has_id_in ids q) (Some true) None
look_marked [] q = refl
look_marked (id ∷ ids) q = go (at q id) (look_marked ids q)
  where
    go : (b : Bool) → member_at q (marked ids) ≡ cond (has_id_in ids q) (Some true) None
        → cond b (Some true) (member_at q (marked ids)) ≡ cond (b || has_id_in ids q) (Some true) None
    go true h = refl
    go false h = h

-- rising lists of the same ids are equal
same_ids : (ids more : List ℕ) → IsStrictlySortedBy nat_cmp ids → IsStrictlySortedBy nat_cmp more
    → ((q : ℕ) → has_id_in ids q ≡ has_id_in more q) → ids ≡ more
same_ids ids more sorted sorted_more same =
    sym (keys_marked ids)
    ∙ ap (λ (xs : List (ℕ × Bool)). keys_of xs) (same_rows (marked ids) (marked more)
    (subst (IsStrictlySortedBy nat_cmp) (sym (keys_marked ids)) sorted)
    (subst (IsStrictlySortedBy nat_cmp) (sym (keys_marked more)) sorted_more)
    (λ q. look_marked ids q ∙ ap (λ b. cond b (Some true) None) (same q) ∙ sym (look_marked more q)))
    ∙ keys_marked more

-- ---- as groups come, change and go

-- a session has no ids any more
abbrev pub Taken : ℕ → List (ℕ × List ℕ) → List (ℕ × List ℕ) → Type 0
Taken session sets after = (other : ℕ) → ids_of after other ≡ cond (session == other) [] (ids_of sets other)

-- the keys of some of the rows
some_keys : {G : Type 0} (p : ℕ × G → Bool) (P : ℕ → Type 0) (rows : List (ℕ × G)) → AllByRecursion P (keys_of rows)
    → AllByRecursion P (keys_of (filter p rows))
some_keys p P [] all = tt
some_keys {G} p P (row ∷ rows) all = go (p row) (some_keys p P rows all.1)
  where
    go : (b : Bool) → AllByRecursion P (keys_of (filter p rows)) → AllByRecursion P (keys_of (cond b (row ∷ filter p rows) (filter p rows)))
    go true rest = (all.0, rest)
    go false rest = rest

keys_sorted : {G : Type 0} (p : ℕ × G → Bool) (rows : List (ℕ × G)) → IsStrictlySortedBy nat_cmp (keys_of rows)
    → IsStrictlySortedBy nat_cmp (keys_of (filter p rows))
unfolding IsStrictlySortedBy
keys_sorted p [] s = tt
keys_sorted {G} p (row ∷ rows) s = go (p row) (keys_sorted p rows s.1)
  where
    go : (b : Bool) → IsStrictlySortedBy nat_cmp (keys_of (filter p rows))
        → IsStrictlySortedBy nat_cmp (keys_of (cond b (row ∷ filter p rows) (filter p rows)))
    go true rest = (some_keys p (λ other. nat_cmp row.0 other ≡ Less) rows s.0, rest)
    go false rest = rest

module _ {G : Type 0} (sessions_of : G → List ℕ) where
  abbrev found : ℕ → Option G → Bool
  found session o = found_session sessions_of session o

  -- the sets of the sessions have these groups
  abbrev pub Told : List (ℕ × List ℕ) → List (ℕ × G) → Type 0
  Told sets rows = (session id : ℕ) → has_id_in (ids_of sets session) id ≡ found session (member_at id rows)

  -- a session got an id, or lost one
  abbrev pub Told_more : ℕ → ℕ → Bool → List (ℕ × List ℕ) → List (ℕ × List ℕ) → Type 0
  Told_more session id value sets after = (other q : ℕ) → has_id_in (ids_of after other) q
      ≡ cond ((session == other) && is_id id q) value (has_id_in (ids_of sets other) q)

  and_false : (b : Bool) → (b && false) ≡ false
  and_false true = refl
  and_false false = refl

  -- back again
  pub told_back : (sets between after : List (ℕ × List ℕ)) (rows : List (ℕ × G)) (session id : ℕ)
      → Told_more session id true sets between → Told_more session id false between after
      → found session (member_at id rows) ≡ false → Told sets rows → Told after rows
  told_back sets between after rows session id put removed none told other q =
      removed other q ∙ go (session == other) refl (is_id id q) refl
    where
      go : (a : Bool) → (session == other) ≡ a → (b : Bool) → is_id id q ≡ b
          → cond (a && b) false (has_id_in (ids_of between other) q) ≡ found other (member_at q rows)
      go true same true here =
          sym none ∙ ap (λ s. found s (member_at id rows)) (eqb-true session other same)
          ∙ ap (λ n. found other (member_at n rows)) (at_same id q here)
      go true same false here =
          put other q ∙ ap (λ b. cond ((session == other) && b) true (has_id_in (ids_of sets other) q)) here
          ∙ ap (λ b. cond b true (has_id_in (ids_of sets other) q)) (and_false (session == other)) ∙ told other q
      go false same b here =
          put other q ∙ ap (λ b. cond (b && is_id id q) true (has_id_in (ids_of sets other) q)) same ∙ told other q

  -- what the sets have if the group of one id has become another one
  told_at : (sets after : List (ℕ × List ℕ)) (rows new : List (ℕ × G)) (session id : ℕ) (value : Bool) (o : Option G)
      → Told_more session id value sets after → ((q : ℕ) → member_at q new ≡ cond (at q id) o (member_at q rows))
      → found session o ≡ value → ((other : ℕ) → (other ≡ session → ⊥) → found other o ≡ found other (member_at id rows))
      → Told sets rows → Told after new
  told_at sets after rows new session id value o more look here_is others_are told other q =
      more other q ∙ go (session == other) refl (is_id id q) refl ∙ sym (ap (found other) (look q))
    where
      go : (a : Bool) → (session == other) ≡ a → (b : Bool) → is_id id q ≡ b
          → cond (a && b) value (has_id_in (ids_of sets other) q) ≡ found other (cond (at q id) o (member_at q rows))
      go true same true here =
          sym here_is ∙ ap (λ s. found s o) (eqb-true session other same)
          ∙ ap (found other) (sym (cond-true (at q id) o (member_at q rows) (turned_at q id ∙ here)))
      go true same false here =
          told other q ∙ ap (found other) (sym (cond-false (at q id) o (member_at q rows) (turned_at q id ∙ here)))
      go false same true here =
          told other q ∙ ap (λ n. found other (member_at n rows)) (sym (at_same id q here))
          ∙ sym (others_are other (λ e. both_ways (session == other) same (eq-eqb session other (sym e))))
          ∙ ap (found other) (sym (cond-true (at q id) o (member_at q rows) (turned_at q id ∙ here)))
      go false same false here =
          told other q ∙ ap (found other) (sym (cond-false (at q id) o (member_at q rows) (turned_at q id ∙ here)))

  alone : (session other : ℕ) → (other ≡ session → ⊥) → has_member other (session ∷ []) ≡ false
  alone session other apart =
      ap (λ b. b || false) (false_from_ne_true (session == other) (λ h. apart (sym (eqb-true session other h))))

  -- a group of this session alone comes
  pub told_pushed : (sets after : List (ℕ × List ℕ)) (rows : List (ℕ × G)) (session id : ℕ) (x : G)
      → Told_more session id true sets after → IsAbove id rows → sessions_of x ≡ session ∷ [] → Told sets rows
      → Told after (rows ++ (id, x) ∷ [])
  told_pushed sets after rows session id x more above one told =
      told_at sets after rows (rows ++ (id, x) ∷ []) session id true (Some x) more (λ q. look_pushed q id x rows above)
      (ap (has_member session) one ∙ ap (λ b. b || false) (eq-eqb session session refl))
      (λ other apart. ap (has_member other) one ∙ alone session other apart ∙ ap (found other) (sym (none_above id rows above))) told

  -- the session comes to a group
  pub told_joined : (sets after : List (ℕ × List ℕ)) (rows : List (ℕ × G)) (session id : ℕ) (with : G → G) (x : G)
      → Told_more session id true sets after → member_at id rows ≡ Some x → sessions_of (with x) ≡ joined session (sessions_of x)
      → Told sets rows → Told after (alter_at id with rows)
  told_joined sets after rows session id with x more there one told =
      told_at sets after rows (alter_at id with rows) session id true (option_map with (member_at id rows)) more
      (λ q. look_altered q id with rows)
      (ap (λ o. found session (option_map with o)) there ∙ ap (has_member session) one ∙ joined_member session session (sessions_of x)
      ∙ ap (λ b. has_member session (sessions_of x) || b) (eq-eqb session session refl) ∙ last (has_member session (sessions_of x)))
      (λ other apart.
      ap (λ o. found other (option_map with o)) there ∙ ap (has_member other) one ∙ joined_member session other (sessions_of x)
      ∙ ap (λ b. has_member other (sessions_of x) || b)
      (false_from_ne_true (session == other) (λ h. apart (sym (eqb-true session other h))))
      ∙ first (has_member other (sessions_of x)) ∙ ap (found other) (sym there)) told
    where
      last : (b : Bool) → (b || true) ≡ true
      last true = refl
      last false = refl

      first : (b : Bool) → (b || false) ≡ b
      first true = refl
      first false = refl

  -- which sessions are in a group that a session has left
  left_found : (session other : ℕ) (left : G → G) (x : G) → sessions_of (left x) ≡ others session (sessions_of x)
      → found other (if_held sessions_of (left x)) ≡ has_member other (others session (sessions_of x))
  left_found session other left x one = go (is_held sessions_of (left x)) refl
    where
      go : (b : Bool) → is_held sessions_of (left x) ≡ b
          → found other (cond b (Some (left x)) None) ≡ has_member other (others session (sessions_of x))
      go true h = ap (has_member other) one
      go false h = sym (none_member other (others session (sessions_of x)) (sym (ap has_members one) ∙ h))

  after_is : (session : ℕ) (left : G → G) (rows : List (ℕ × G)) (id : ℕ) → ((x : G) → sessions_of (left x) ≡ others session (sessions_of x))
      → found session (after_left sessions_of left (member_at id rows)) ≡ false
  after_is session left rows id one = go (member_at id rows)
    where
      go : (o : Option G) → found session (after_left sessions_of left o) ≡ false
      go None = refl
      go (Some x) = left_found session session left x (one x) ∙ gone_member session (sessions_of x)

  pub after_others : (session other : ℕ) (left : G → G) (rows : List (ℕ × G)) (id : ℕ)
      → ((x : G) → sessions_of (left x) ≡ others session (sessions_of x)) → (other ≡ session → ⊥)
      → found other (after_left sessions_of left (member_at id rows)) ≡ found other (member_at id rows)
  after_others session other left rows id one apart = go (member_at id rows)
    where
      go : (o : Option G) → found other (after_left sessions_of left o) ≡ found other o
      go None = refl
      go (Some x) = left_found session other left x (one x) ∙ other_member session other (sessions_of x) apart

  -- the session leaves a group
  pub told_left : (sets after : List (ℕ × List ℕ)) (rows : List (ℕ × G)) (session id : ℕ) (left : G → G) → AreRising rows
      → Told_more session id false sets after → ((x : G) → sessions_of (left x) ≡ others session (sessions_of x))
      → Told sets rows → Told after (left_at sessions_of id left rows)
  told_left sets after rows session id left rising more one told =
      told_at sets after rows (left_at sessions_of id left rows) session id false (after_left sessions_of left (member_at id rows)) more
      (λ q. look_left sessions_of q id left rows rising) (after_is session left rows id one)
      (λ other apart. after_others session other left rows id one apart) told

  -- a group whose sessions stay changes
  pub told_turned : (sets : List (ℕ × List ℕ)) (rows : List (ℕ × G)) (id : ℕ) (change : G → G)
      → ((session : ℕ) (x : G) → has_session sessions_of session (change x) ≡ has_session sessions_of session x)
      → Told sets rows → Told sets (alter_at id change rows)
  told_turned sets rows id change stay told session q =
      told session q ∙ sym (ap (found session) (look_altered q id change rows)
      ∙ cond_both (at q id) (option_map change (member_at id rows)) (member_at q rows) (λ o. found session o ≡ found session (member_at q rows))
      (λ here. same (member_at id rows) ∙ ap (λ n. found session (member_at n rows)) (sym (at_same q id here))) (λ _. refl))
    where
      same : (o : Option G) → found session (option_map change o) ≡ found session o
      same None = refl
      same (Some x) = stay session x

  -- ---- one session leaves all of its groups, one after the other

  pub rest_told : (session id : ℕ) (left : G → G) (rest : List ℕ) (rows : List (ℕ × G)) → AreRising rows
      → IsStrictlySortedBy nat_cmp (id ∷ rest) → ((x : G) → sessions_of (left x) ≡ others session (sessions_of x))
      → ((q : ℕ) → has_id_in (id ∷ rest) q ≡ found session (member_at q rows))
      → (q : ℕ) → has_id_in rest q ≡ found session (member_at q (left_at sessions_of id left rows))
  rest_told session id left rest rows rising sorted one told q =
      go (at q id) refl ∙ sym (ap (found session) (look_left sessions_of q id left rows rising))
    where
      go : (b : Bool) → at q id ≡ b
          → has_id_in rest q ≡ found session (cond b (after_left sessions_of left (member_at id rows)) (member_at q rows))
      go true here = not_behind id rest q sorted (at_same q id here) ∙ sym (after_is session left rows id one)
      go false here = sym (ap (λ b. b || has_id_in rest q) here) ∙ told q

  pub others_left : (session other : ℕ) (left : G → G) (id q : ℕ) (rows : List (ℕ × G)) → AreRising rows
      → ((x : G) → sessions_of (left x) ≡ others session (sessions_of x)) → (other ≡ session → ⊥)
      → found other (member_at q (left_at sessions_of id left rows)) ≡ found other (member_at q rows)
  others_left session other left id q rows rising one apart =
      ap (found other) (look_left sessions_of q id left rows rising)
      ∙ cond_both (at q id) (after_left sessions_of left (member_at id rows)) (member_at q rows)
      (λ o. found other o ≡ found other (member_at q rows))
      (λ here. after_others session other left rows id one apart ∙ ap (λ n. found other (member_at n rows)) (sym (at_same q id here)))
      (λ _. refl)

  -- the first of the ids that are left is a group's that the session is in
  pub is_in_first : (session id : ℕ) (rest : List ℕ) (rows : List (ℕ × G))
      → ((q : ℕ) → has_id_in (id ∷ rest) q ≡ found session (member_at q rows))
      → (x : G) → member_at id rows ≡ Some x → has_session sessions_of session x ≡ true
  is_in_first session id rest rows told x is =
      sym (ap (found session) is) ∙ sym (told id) ∙ ap (λ b. b || has_id_in rest id) (same_at id id refl)

  pub is_in_none : (session : ℕ) (rows : List (ℕ × G)) → AreRising rows → ((q : ℕ) → found session (member_at q rows) ≡ false)
      → All (λ (row : ℕ × G). has_session sessions_of session row.1 ≡ false) rows
  is_in_none session rows rising none = all_stand (λ (row : ℕ × G). has_session sessions_of session row.1 ≡ false) rows rising
      (λ n x is. sym (ap (found session) is) ∙ none n)

  -- the session has left them all
  pub told_all : (sets after : List (ℕ × List ℕ)) (rows new : List (ℕ × G)) (session : ℕ)
      → Taken session sets after
      → ((q : ℕ) → found session (member_at q new) ≡ false)
      → ((other q : ℕ) → (other ≡ session → ⊥) → found other (member_at q new) ≡ found other (member_at q rows))
      → Told sets rows → Told after new
  told_all sets after rows new session taken none others_are told other q =
      ap (λ ids. has_id_in ids q) (taken other) ∙ go (session == other) refl
    where
      go : (b : Bool) → (session == other) ≡ b → has_id_in (cond b [] (ids_of sets other)) q ≡ found other (member_at q new)
      go true same = sym (none q) ∙ ap (λ s. found s (member_at q new)) (eqb-true session other same)
      go false same =
          told other q ∙ sym (others_are other q (λ e. both_ways (session == other) same (eq-eqb session other (sym e))))

  -- ---- how many

  abbrev ids_with : ℕ → List (ℕ × G) → List ℕ
  ids_with session rows = keys_of (filter (λ row. has_session sessions_of session row.1) rows)

  with_step : (row : ℕ × G) (ids : List ℕ) (session q : ℕ) (o : Option G) (b : Bool) → at q row.0 ≡ b → (b ≡ true → has_id_in ids q ≡ false)
      → has_id_in ids q ≡ found session o → (c : Bool) → has_session sessions_of session row.1 ≡ c
      → has_id_in (cond c (row.0 ∷ ids) ids) q ≡ found session (cond b (Some row.1) o)
  with_step row ids session q o true here none rest true on = ap (λ b. b || has_id_in ids q) here ∙ sym on
  with_step row ids session q o true here none rest false off = none refl ∙ sym off
  with_step row ids session q o false here none rest true on = ap (λ b. b || has_id_in ids q) here ∙ rest
  with_step row ids session q o false here none rest false off = rest

  keys_cond : (row : ℕ × G) (kept : List (ℕ × G)) (c : Bool) → keys_of (cond c (row ∷ kept) kept) ≡ cond c (row.0 ∷ keys_of kept) (keys_of kept)
  keys_cond row kept true = refl
  keys_cond row kept false = refl

  with_is : (session : ℕ) (rows : List (ℕ × G)) (q : ℕ) → AreRising rows
      → has_id_in (ids_with session rows) q ≡ found session (member_at q rows)
  with_is session [] q rising = refl
  with_is session (row ∷ rows) q rising =
      let kept = filter (λ row. has_session sessions_of session row.1) rows in
      let rest = with_is session rows q (rising_tail row rows rising) in
      ap (λ ids. has_id_in ids q) (keys_cond row kept (has_session sessions_of session row.1))
      ∙ with_step row (ids_with session rows) session q (member_at q rows) (at q row.0) refl
      (λ here. rest ∙ ap (found session) (none_behind row rows q rising (at_same q row.0 here))) rest
      (has_session sessions_of session row.1) refl

  long_step : (p : G → Bool) (row : ℕ × G) (kept : List (ℕ × G)) (list : List G) (c : Bool) → length (keys_of kept) ≡ length list
      → length (keys_of (cond c (row ∷ kept) kept)) ≡ length (cond c (row.1 ∷ list) list)
  long_step p row kept list true h = ap suc h
  long_step p row kept list false h = h

  long_as : (p : G → Bool) (rows : List (ℕ × G)) → length (keys_of (filter (λ (row : ℕ × G). p row.1) rows)) ≡ length (filter p (members rows))
  long_as p [] = refl
  long_as p (row ∷ rows) = long_step p row (filter (λ (row : ℕ × G). p row.1) rows) (filter p (members rows)) (p row.1) (long_as p rows)

  sorted_with : (session : ℕ) (rows : List (ℕ × G)) → AreRising rows → IsStrictlySortedBy nat_cmp (ids_with session rows)
  sorted_with session rows rising = keys_sorted (λ row. has_session sessions_of session row.1) rows rising

  pub count_is : (sets : List (ℕ × List ℕ)) (rows : List (ℕ × G)) (session : ℕ) → AreRising rows
      → IsStrictlySortedBy nat_cmp (ids_of sets session) → Told sets rows
      → length (ids_of sets session) ≡ length (filter (has_session sessions_of session) (members rows))
  count_is sets rows session rising sorted told =
      ap (λ (xs : List ℕ). length xs) (same_ids (ids_of sets session) (ids_with session rows) sorted (sorted_with session rows rising)
      (λ q. told session q ∙ sym (with_is session rows q rising)))
      ∙ long_as (has_session sessions_of session) rows
