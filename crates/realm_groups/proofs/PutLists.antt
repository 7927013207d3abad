-- Groups of a list that are put in one after the other are those of the list, exactly if none is damaged, ids rise and patterns differ.
use Rattle.std.proofs.Common.{◌≡◌, ℕ, ◌<◌, ◌≤◌, ◌==◌, nat_lt, Bool, true, false, not, ◌&&◌, ◌||◌, List, [], ◌∷◌, ◌++◌, map}
use Rattle.std.proofs.Common.{Option, None, Some, option_map, refl, sym, ap, ◌∙◌, arith, if◌then◌else◌}
use Rattle.std.specs.List.{All, list_any}
use Rattle.std.proofs.lemmas.Bool.{or_parts, or_from, or_left, or_right, and_parts, cond-true}
use Rattle.std.proofs.lemmas.Bool.{cond-false, ltb-true, lt-ltb, le-ltb, ne_eqb, eq-eqb}
use Rattle.std.proofs.lemmas.Bool.{true≢false}
use Rattle.std.proofs.lemmas.List.{append_assoc, append-nil}
use Rattle.std.proofs.lemmas.List.Elements.{All-head, All-tail, All-nil, All-push, All-weaker}
use Rattle.wamp_ids.specs.Pattern.{PatternValue}
use Rattle.realm_sessions.specs.Apart.{has_two, put_all}
use Rattle.realm_sessions.proofs.Apart.{put_all_is}
use Rattle.realm_sessions.proofs.PutLinks.{any_none, find_last}
use Rattle.realm_groups.specs.Groups.{Listed, nothing, has_id, has_session, found_session, is_at, change_first}
use Rattle.realm_groups.specs.Restoring.{is_refused, put_at, joined_at, put_group, ended_at, and_put, put_list, rise_from, same_at}
use Rattle.realm_groups.specs.Restoring.{are_damaged}
use Rattle.wamp_ids.specs.Id.{last_id}

yes_from : (b : Bool) → not b ≡ false → b ≡ true
yes_from true h = refl
yes_from false h = cc

or_none : (b : Bool) → (b || false) ≡ b
or_none true = refl
or_none false = refl

none_if : {T : Type 0} (b : Bool) (x : T) → (if b then None else Some x) ≡ None → b ≡ true
none_if true x h = refl
none_if false x h = cc

some_if : {T : Type 0} (b : Bool) (x : T) → (if b then None else Some x) ≡ Some x → b ≡ false
some_if true x h = cc
some_if false x h = refl

-- of a list no two clash, and one more comes: it clashes with one of them, or with none
two_here : {T : Type 0} (clash : T → T → Bool) (held rest : List T) (next : T) → has_two clash held ≡ false
    → list_any (λ member. clash member next) held ≡ true → has_two clash (held ++ next ∷ rest) ≡ true
two_here {T} clash held rest next apart h =
    let all : List T = held ++ next ∷ rest in
    none_if (has_two clash all) all
    (ap (λ b. if b || has_two clash all then None else Some all) (sym (any_none (next ∷ rest)))
    ∙ sym (put_all_is (λ x. false) clash held (next ∷ rest) apart)
    ∙ ap (λ b. if b then None else put_all (λ x. false) clash (held ++ next ∷ []) rest) h)

still_apart : {T : Type 0} (clash : T → T → Bool) (held : List T) (next : T) → has_two clash held ≡ false
    → list_any (λ member. clash member next) held ≡ false → has_two clash (held ++ next ∷ []) ≡ false
still_apart {T} clash held next apart h =
    let all : List T = held ++ next ∷ [] in
    some_if (has_two clash all) all
    (ap (λ b. if b || has_two clash all then None else Some all) (sym (any_none (next ∷ [])))
    ∙ sym (put_all_is (λ x. false) clash held (next ∷ []) apart)
    ∙ ap (λ b. if b then None else Some all) h)

change_last : {G : Type 0} (test : G → Bool) (change : G → G) (xs : List G) (x : G) → list_any test xs ≡ false → test x ≡ true
    → change_first test (λ group. Some (change group)) (xs ++ x ∷ []) ≡ xs ++ change x ∷ []
change_last test change [] x none is = cond-true (test x) (change x ∷ []) (x ∷ []) is
change_last {G} test change (y ∷ ys) x none is =
    let parts = or_parts (test y) (list_any test ys) none in
    cond-false (test y) (change y ∷ (ys ++ x ∷ [])) (y ∷ change_first test (λ group. Some (change group)) (ys ++ x ∷ [])) parts.0
    ∙ ap (λ (list : List G). y ∷ list) (change_last test change ys x parts.1 is)

-- a later id is none of theirs
none_later : {G : Type 0} (id_of : G → ℕ) (list : List G) (last id : ℕ) → last < id → All (λ group. id_of group ≤ last) list
    → list_any (has_id id_of id) list ≡ false
none_later id_of [] last id late below = refl
none_later {G} id_of (x ∷ xs) last id late below =
    let Below : G → Type 0 = λ group. id_of group ≤ last in
    let here = All-head Below x xs below in
    or_from (id_of x == id) (list_any (has_id id_of id) xs) (ne_eqb (id_of x) id (λ same. omega (arith, here, late, same)))
    (none_later id_of xs last id late (All-tail Below x xs below))

-- ---- the sessions of one group

-- the group with these sessions as its last ones, none if one of them is in it already
abbrev pub with_all : {G : Type 0} → (G → List ℕ) → (ℕ → G → G) → G → List ℕ → Option G
with_all sessions_of with group [] = Some group
with_all sessions_of with group (session ∷ rest) =
    if has_session sessions_of session group then None else with_all sessions_of with (with session group) rest

abbrev pub came : {G : Type 0} → List G → ℕ → G → Listed G
came list last group = record { list = list ++ group ∷ []; last = last }

module _ {G : Type 0} (id_of : G → ℕ) (pattern_of : G → PatternValue) (sessions_of : G → List ℕ) (with : ℕ → G → G)
    (with_id : (session : ℕ) (group : G) → id_of (with session group) ≡ id_of group) where
  joined_last : (list : List G) (last id : ℕ) (group : G) (more : List ℕ) → list_any (has_id id_of id) list ≡ false → id_of group ≡ id
      → joined_at id_of sessions_of with (came list last group) id more ≡ option_map (came list last) (with_all sessions_of with group more)
  joined_last list last id group [] none is = refl
  joined_last list last id group (session ∷ rest) none is =
      ap (λ o. if found_session sessions_of session o then None
      else joined_at id_of sessions_of with (record {
        list = change_first (has_id id_of id) (λ g. Some (with session g)) (list ++ group ∷ []);
        last = last;
      }) id rest)
      (find_last (has_id id_of id) list group none (eq-eqb (id_of group) id is))
      ∙ ap (λ (l : List G). if has_session sessions_of session group then None
      else joined_at id_of sessions_of with (record { list = l; last = last }) id rest)
      (change_last (has_id id_of id) (with session) list group none (eq-eqb (id_of group) id is))
      ∙ step (has_session sessions_of session group) (joined_last list last id (with session group) rest none (with_id session group ∙ is))
    where
      step : (b : Bool)
          → joined_at id_of sessions_of with (came list last (with session group)) id rest
          ≡ option_map (came list last) (with_all sessions_of with (with session group) rest)
          → (if b then None else joined_at id_of sessions_of with (came list last (with session group)) id rest)
          ≡ option_map (came list last) (if b then None else with_all sessions_of with (with session group) rest)
      step true same = refl
      step false same = same

  pub put_group_is : (held : Listed G) (group : G) (more : List ℕ) → All (λ g. id_of g ≤ held.last) held.list
      → put_group id_of pattern_of sessions_of with held group more
      ≡ (if is_refused id_of pattern_of held group then None else option_map (came held.list (id_of group)) (with_all sessions_of with group more))
  put_group_is held group more below = step (is_refused id_of pattern_of held group) refl
    where
      step : (b : Bool) → is_refused id_of pattern_of held group ≡ b
          → (if b then None else joined_at id_of sessions_of with (put_at id_of held group) (id_of group) more)
          ≡ (if b then None else option_map (came held.list (id_of group)) (with_all sessions_of with group more))
      step true is = refl
      step false is =
          let parts = or_parts (not (nat_lt held.last (id_of group))) (list_any (is_at pattern_of (pattern_of group)) held.list) is in
          joined_last held.list (id_of group) (id_of group) group more
          (none_later id_of held.list held.last (id_of group) (ltb-true held.last (id_of group) (yes_from (nat_lt held.last (id_of group)) parts.0)) below)
          refl

-- ---- all groups of a list

-- the last of these ids, or this one
abbrev pub last_of : ℕ → List ℕ → ℕ
last_of last [] = last
last_of last (id ∷ ids) = last_of id ids

module _ {G : Type 0} (id_of : G → ℕ) (pattern_of : G → PatternValue) (damaged : G → Bool) (put : Listed G → G → Option (Listed G)) where
  -- a group is damaged, ids do not rise, or two have one pattern
  abbrev are_wrong : Listed G → List G → Bool
  are_wrong held list =
      (list_any damaged list || not (rise_from held.last (map id_of list))) || has_two (same_at pattern_of) (held.list ++ list)

  abbrev whole : Listed G → List G → Listed G
  whole held list = record { list = held.list ++ list; last = last_of held.last (map id_of list) }

  -- one group is put in, unless it is damaged or refused
  abbrev Puts : Type 0
  Puts = (held : Listed G) (group : G) → All (λ g. id_of g ≤ held.last) held.list
      → put held group ≡ (if damaged group || is_refused id_of pattern_of held group then None else Some (put_at id_of held group))

  wrong_here : (held : Listed G) (group : G) (rest : List G) → has_two (same_at pattern_of) held.list ≡ false
      → (damaged group || is_refused id_of pattern_of held group) ≡ true → are_wrong held (group ∷ rest) ≡ true
  wrong_here held group rest apart h = first (damaged group) refl h
    where
      second : (b : Bool) → nat_lt held.last (id_of group) ≡ b → (not b || list_any (is_at pattern_of (pattern_of group)) held.list) ≡ true
          → are_wrong held (group ∷ rest) ≡ true
      second true is h =
          or_right (list_any damaged (group ∷ rest) || not (rise_from held.last (map id_of (group ∷ rest))))
          (has_two (same_at pattern_of) (held.list ++ group ∷ rest)) (two_here (same_at pattern_of) held.list rest group apart h)
      second false is h =
          or_left (list_any damaged (group ∷ rest) || not (rise_from held.last (map id_of (group ∷ rest))))
          (has_two (same_at pattern_of) (held.list ++ group ∷ rest))
          (or_right (list_any damaged (group ∷ rest)) (not (rise_from held.last (map id_of (group ∷ rest))))
          (ap (λ b. not (b && rise_from (id_of group) (map id_of rest))) is))

      first : (b : Bool) → damaged group ≡ b → (b || is_refused id_of pattern_of held group) ≡ true → are_wrong held (group ∷ rest) ≡ true
      first true is h =
          or_left (list_any damaged (group ∷ rest) || not (rise_from held.last (map id_of (group ∷ rest))))
          (has_two (same_at pattern_of) (held.list ++ group ∷ rest))
          (or_left (list_any damaged (group ∷ rest)) (not (rise_from held.last (map id_of (group ∷ rest))))
          (or_left (damaged group) (list_any damaged rest) is))
      first false is h = second (nat_lt held.last (id_of group)) refl h

  pub put_list_is : Puts → (held : Listed G) (list : List G) → All (λ g. id_of g ≤ held.last) held.list
      → has_two (same_at pattern_of) held.list ≡ false
      → put_list put held list ≡ (if are_wrong held list then None else Some (whole held list))
  put_list_is puts held [] below apart =
      sym (cond-false (has_two (same_at pattern_of) (held.list ++ [])) None (Some (whole held []))
      (ap (has_two (same_at pattern_of)) (append-nil held.list) ∙ apart)
      ∙ ap (λ (l : List G). Some (record { list = l; last = held.last })) (append-nil held.list))
  put_list_is puts held (group ∷ rest) below apart =
      ap (λ o. and_put o (λ held. put_list put held rest)) (puts held group below)
      ∙ step (damaged group || is_refused id_of pattern_of held group) refl
      (λ below apart. put_list_is puts (put_at id_of held group) rest below apart)
    where
      step : (b : Bool) → (damaged group || is_refused id_of pattern_of held group) ≡ b
          → (All (λ g. id_of g ≤ id_of group) (held.list ++ group ∷ []) → has_two (same_at pattern_of) (held.list ++ group ∷ []) ≡ false
          → put_list put (put_at id_of held group) rest
          ≡ (if are_wrong (put_at id_of held group) rest then None else Some (whole (put_at id_of held group) rest)))
          → and_put (if b then None else Some (put_at id_of held group)) (λ held. put_list put held rest)
          ≡ (if are_wrong held (group ∷ rest) then None else Some (whole held (group ∷ rest)))
      step true is more =
          sym (cond-true (are_wrong held (group ∷ rest)) None (Some (whole held (group ∷ rest))) (wrong_here held group rest apart is))
      step false is more =
          let parts = or_parts (damaged group) (is_refused id_of pattern_of held group) is in
          let free = or_parts (not (nat_lt held.last (id_of group))) (list_any (is_at pattern_of (pattern_of group)) held.list) parts.1 in
          let next = yes_from (nat_lt held.last (id_of group)) free.0 in
          let later = ltb-true held.last (id_of group) next in
          let Below : ℕ → G → Type 0 = λ n g. id_of g ≤ n in
          let all = All-push (Below (id_of group)) held.list group
          (All-weaker (Below held.last) (Below (id_of group)) (λ g h. omega (arith, h, later)) held.list below) (omega arith) in
          let apart_all = still_apart (same_at pattern_of) held.list group apart free.1 in
          let rise = rise_from (id_of group) (map id_of rest) in
          let two = has_two (same_at pattern_of) (held.list ++ group ∷ rest) in
          more all apart_all
          ∙ ap (λ (l : List G). if (list_any damaged rest || not rise) || has_two (same_at pattern_of) l then None
          else Some (record { list = l; last = last_of (id_of group) (map id_of rest) })) (append_assoc held.list (group ∷ []) rest)
          ∙ ap (λ b. if ((b || list_any damaged rest) || not rise) || two then None else Some (whole held (group ∷ rest))) (sym parts.0)
          ∙ ap (λ b. if (list_any damaged (group ∷ rest) || not (b && rise)) || two then None else Some (whole held (group ∷ rest))) (sym next)

  -- ---- and the last id

  -- of rising ids one is above a number if the last one is
  above_last : (last n : ℕ) (ids : List ℕ) → rise_from n ids ≡ true
      → (list_any (λ id. nat_lt last id) ids || nat_lt last n) ≡ nat_lt last (last_of n ids)
  above_last last n [] rise = refl
  above_last last n (id ∷ ids) rise =
      let parts = and_parts (nat_lt n id) (rise_from id ids) rise in
      let up = ltb-true n id parts.0 in
      turn (nat_lt last id) (list_any (λ i. nat_lt last i) ids) (nat_lt last n)
      (λ low. lt-ltb last id (let more = ltb-true last n low in omega (arith, more, up)))
      ∙ above_last last id ids parts.1
    where
      turn : (a b c : Bool) → (c ≡ true → a ≡ true) → ((a || b) || c) ≡ (b || a)
      turn true true c h = refl
      turn true false c h = refl
      turn false b true h = absurd (true≢false (sym (h refl)))
      turn false true false h = refl
      turn false false false h = refl

  any_mapped : (last : ℕ) (list : List G) → list_any (λ group. nat_lt last (id_of group)) list ≡ list_any (λ id. nat_lt last id) (map id_of list)
  any_mapped last [] = refl
  any_mapped last (group ∷ rest) = ap (λ b. nat_lt last (id_of group) || b) (any_mapped last rest)

  above_is : (last : ℕ) (list : List G) → rise_from 0 (map id_of list) ≡ true
      → list_any (λ group. nat_lt last (id_of group)) list ≡ nat_lt last (last_of 0 (map id_of list))
  above_is last list rise =
      any_mapped last list ∙ sym (or_none (list_any (λ id. nat_lt last id) (map id_of list)))
      ∙ ap (λ b. list_any (λ id. nat_lt last id) (map id_of list) || b) (sym (le-ltb last 0 (omega arith)))
      ∙ above_last last 0 (map id_of list) rise

  pick : {X : Type 0} (w : X) (d r t a b c : Bool) → (r ≡ true → c ≡ b)
      → ◌≡◌ {A = Option X} (if (d || not r) || t then None else (if a || b then None else Some w))
      (if (a || (not r || (c || t))) || d then None else Some w)
  pick w true r t a b c h = sym (cond-true ((a || (not r || (c || t))) || true) None (Some w) (or_right (a || (not r || (c || t))) true refl))
  pick w false false t true b c h = refl
  pick w false false t false b c h = refl
  pick w false true true true b c h = refl
  pick w false true true false b true h = refl
  pick w false true true false b false h = refl
  pick w false true false true b c h = refl
  pick w false true false false true true h = refl
  pick w false true false false false false h = refl
  pick w false true false false true false h = absurd (true≢false (sym (h refl)))
  pick w false true false false false true h = absurd (true≢false (h refl))

  pub ended_is : Puts → (list : List G) (last : ℕ)
      → and_put (put_list put nothing list) (λ held. ended_at held last)
      ≡ (if are_damaged id_of pattern_of list last || list_any damaged list then None else Some (record { list = list; last = last }))
  ended_is puts list last =
      ap (λ o. and_put o (λ held. ended_at held last)) (put_list_is puts nothing list (All-nil (λ (g : G). id_of g ≤ 0)) refl)
      ∙ out (are_wrong nothing list)
      ∙ pick (record { list = list; last = last }) (list_any damaged list) (rise_from 0 (map id_of list)) (has_two (same_at pattern_of) list)
      (nat_lt last_id last) (nat_lt last (last_of 0 (map id_of list))) (list_any (λ group. nat_lt last (id_of group)) list) (above_is last list)
    where
      out : (b : Bool) → and_put (if b then None else Some (whole nothing list)) (λ held. ended_at held last)
          ≡ (if b then None else ended_at (whole nothing list) last)
      out true = refl
      out false = refl
