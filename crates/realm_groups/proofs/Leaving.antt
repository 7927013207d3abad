-- A session leaves one group, or all of its groups.
use Rattle.std.proofs.Common.{◌≡◌, ℕ, Bool, true, false, ◌&&◌, ◌||◌, cond, List}
use Rattle.std.proofs.Common.{[], ◌∷◌, Option, None, Some, refl, sym, ap, ◌∙◌}
use Rattle.std.specs.List.{All, list_any}
use Rattle.std.proofs.lemmas.Bool.{cond-true, cond-false}
use Rattle.std.proofs.lemmas.List.Elements.{All-head, All-tail}
use Rattle.realm_lists.specs.OrderedList.{member_at, members}
use Rattle.realm_lists.specs.Finding.{AreRising}
use Rattle.realm_lists.proofs.Finding.{at_same, rising_tail}
use Rattle.realm_groups.specs.Groups.{change_first, departed, each, found_session, has_session}
use Rattle.realm_groups.specs.Groups.{if_held, is_held, left_at, put_first, row_if_held}
use Rattle.realm_groups.proofs.Rows.{Singles, at, none_behind}

module _ {G : Type 0} (sessions_of : G → List ℕ) (left : ℕ → G → G) (session : ℕ) where
  abbrev pub gone : G → Option G
  gone group = departed sessions_of left session group

  abbrev pub is_in : G → Bool
  is_in group = has_session sessions_of session group

  any_step : (test : G → Bool) (row : ℕ × G) (rest : Bool) (b : Bool) (o : Option G) → (b ≡ true → rest ≡ false)
      → (b ≡ false → rest ≡ found_session sessions_of session o)
      → ((b && is_in row.1) || rest) ≡ found_session sessions_of session (cond b (Some row.1) o)
  any_step test row rest true o none same = ap (λ r. is_in row.1 || r) (none refl) ∙ last (is_in row.1)
    where
      last : (b : Bool) → (b || false) ≡ b
      last true = refl
      last false = refl
  any_step test row rest false o none same = same refl

  -- the session is in some group that passes the test of an id exactly if it is in the one that is found
  pub any_single : (test : G → Bool) (id : ℕ) (rows : List (ℕ × G)) → AreRising rows → Singles test id rows
      → list_any (λ group. test group && is_in group) (members rows) ≡ found_session sessions_of session (member_at id rows)
  any_single test id [] rising single = refl
  any_single test id (row ∷ rows) rising single =
      let Single : ℕ × G → Type 0 = λ row. test row.1 ≡ at id row.0 in
      let rest = any_single test id rows (rising_tail row rows rising) (All-tail Single row rows single) in
      ap (λ b. (b && is_in row.1) || list_any (λ group. test group && is_in group) (members rows)) (All-head Single row rows single)
      ∙ any_step test row (list_any (λ group. test group && is_in group) (members rows)) (at id row.0) (member_at id rows)
      (λ h. rest ∙ ap (found_session sessions_of session) (none_behind row rows id rising (at_same id row.0 h))) (λ _. rest)

  put_held : (list : List G) (row : ℕ × G) (x : G) (rows : List (ℕ × G)) (b : Bool) → list ≡ members rows
      → put_first (cond b (Some x) None) list ≡ members (cond b ((row.0, x) ∷ rows) rows)
  put_held list row x rows true same = ap (λ (xs : List G). x ∷ xs) same
  put_held list row x rows false same = same

  left_step : (row : ℕ × G) (rows : List (ℕ × G)) (list : List G) (others : List (ℕ × G)) (b : Bool) → (b ≡ true → is_in row.1 ≡ true)
      → (b ≡ false → list ≡ members others)
      → cond b (put_first (gone row.1) (members rows)) (row.1 ∷ list)
      ≡ members (cond b (row_if_held sessions_of row.0 (left session row.1) rows) (row ∷ others))
  left_step row rows list others true here rest =
      ap (λ o. put_first o (members rows)) (cond-true (is_in row.1) (if_held sessions_of (left session row.1)) (Some row.1) (here refl))
      ∙ put_held (members rows) row (left session row.1) rows (is_held sessions_of (left session row.1)) refl
  left_step row rows list others false here rest = ap (λ (xs : List G). row.1 ∷ xs) (rest refl)

  -- the group of this id, in which the session is
  pub left_single : (test : G → Bool) (id : ℕ) (rows : List (ℕ × G)) → Singles test id rows
      → ((x : G) → member_at id rows ≡ Some x → is_in x ≡ true)
      → change_first test gone (members rows) ≡ members (left_at sessions_of id (left session) rows)
  left_single test id [] single here = refl
  left_single test id (row ∷ rows) single here =
      let Single : ℕ × G → Type 0 = λ row. test row.1 ≡ at id row.0 in
      ap (λ b. cond b (put_first (gone row.1) (members rows)) (row.1 ∷ change_first test gone (members rows))) (All-head Single row rows single)
      ∙ left_step row rows (change_first test gone (members rows)) (left_at sessions_of id (left session) rows) (at id row.0)
      (λ h. here row.1 (cond-true (at id row.0) (Some row.1) (member_at id rows) h))
      (λ h. left_single test id rows (All-tail Single row rows single)
      (λ x is. here x (cond-false (at id row.0) (Some row.1) (member_at id rows) h ∙ is)))

  stays_step : (row : ℕ × G) (rows : List (ℕ × G)) (list : List G) (b : Bool) → (b ≡ true → is_in row.1 ≡ false)
      → (b ≡ false → list ≡ members rows) → cond b (put_first (gone row.1) (members rows)) (row.1 ∷ list) ≡ members (row ∷ rows)
  stays_step row rows list true here rest =
      ap (λ o. put_first o (members rows)) (cond-false (is_in row.1) (if_held sessions_of (left session row.1)) (Some row.1) (here refl))
  stays_step row rows list false here rest = ap (λ (xs : List G). row.1 ∷ xs) (rest refl)

  -- the group of this id, if the session is not in it
  pub stays_single : (test : G → Bool) (id : ℕ) (rows : List (ℕ × G)) → Singles test id rows
      → ((x : G) → member_at id rows ≡ Some x → is_in x ≡ false) → change_first test gone (members rows) ≡ members rows
  stays_single test id [] single here = refl
  stays_single test id (row ∷ rows) single here =
      let Single : ℕ × G → Type 0 = λ row. test row.1 ≡ at id row.0 in
      ap (λ b. cond b (put_first (gone row.1) (members rows)) (row.1 ∷ change_first test gone (members rows))) (All-head Single row rows single)
      ∙ stays_step row rows (change_first test gone (members rows)) (at id row.0)
      (λ h. here row.1 (cond-true (at id row.0) (Some row.1) (member_at id rows) h))
      (λ h. stays_single test id rows (All-tail Single row rows single)
      (λ x is. here x (cond-false (at id row.0) (Some row.1) (member_at id rows) h ∙ is)))

  -- a session that is in none of the groups leaves them as they are
  pub each_none : (rows : List (ℕ × G)) → All (λ (row : ℕ × G). is_in row.1 ≡ false) rows → each gone (members rows) ≡ members rows
  each_none [] none = refl
  each_none (row ∷ rows) none =
      let Off : ℕ × G → Type 0 = λ row. is_in row.1 ≡ false in
      ap (λ o. put_first o (each gone (members rows)))
      (cond-false (is_in row.1) (if_held sessions_of (left session row.1)) (Some row.1) (All-head Off row rows none))
      ∙ ap (λ (xs : List G). row.1 ∷ xs) (each_none rows (All-tail Off row rows none))

  each_held : (x : G) (row : ℕ × G) (rows : List (ℕ × G)) (b : Bool) → is_in x ≡ false
      → each gone (members (cond b ((row.0, x) ∷ rows) rows)) ≡ put_first (cond b (Some x) None) (each gone (members rows))
  each_held x row rows true off =
      ap (λ o. put_first o (each gone (members rows))) (cond-false (is_in x) (if_held sessions_of (left session x)) (Some x) off)
  each_held x row rows false off = refl

  each_step : (row : ℕ × G) (rows others : List (ℕ × G)) (b : Bool) → (b ≡ true → is_in row.1 ≡ true)
      → is_in (left session row.1) ≡ false
      → (b ≡ false → each gone (members others) ≡ each gone (members rows))
      → each gone (members (cond b (row_if_held sessions_of row.0 (left session row.1) rows) (row ∷ others)))
      ≡ put_first (gone row.1) (each gone (members rows))
  each_step row rows others true here off rest =
      each_held (left session row.1) row rows (is_held sessions_of (left session row.1)) off
      ∙ ap (λ o. put_first o (each gone (members rows)))
      (sym (cond-true (is_in row.1) (if_held sessions_of (left session row.1)) (Some row.1) (here refl)))
  each_step row rows others false here off rest = ap (λ (xs : List G). put_first (gone row.1) xs) (rest refl)

  -- a session that has left one group has the others still to leave
  pub each_left : (id : ℕ) (rows : List (ℕ × G)) → ((x : G) → member_at id rows ≡ Some x → is_in x ≡ true)
      → ((x : G) → is_in (left session x) ≡ false)
      → each gone (members (left_at sessions_of id (left session) rows)) ≡ each gone (members rows)
  each_left id [] here off = refl
  each_left id (row ∷ rows) here off =
      each_step row rows (left_at sessions_of id (left session) rows) (at id row.0)
      (λ h. here row.1 (cond-true (at id row.0) (Some row.1) (member_at id rows) h)) (off row.1)
      (λ h. each_left id rows (λ x is. here x (cond-false (at id row.0) (Some row.1) (member_at id rows) h ∙ is)) off)
