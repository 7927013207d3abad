-- Groups of sessions by ascending id, each with a pattern. Functions give a group's id, its pattern and its sessions.
use Rattle.std.specs.Prelude.{◌≡◌, ℕ, ◌==◌, ◌+◌, ◌≤◌, Bool, false, true, List}
use Rattle.std.specs.Prelude.{[], ◌∷◌, ◌++◌, map, Option, None, Some, if◌then◌else◌}
use denote.Ref.{Bor}
use Rattle.std.specs.Ordering.{nat_cmp}
use Rattle.std.specs.BTreeMap.{insert_entry, is_at as is_key_at}
use Rattle.std.specs.Map.{lookup}
use Rattle.wamp_ids.specs.Id.{last_id}
use Rattle.wamp_ids.specs.Pattern.{PatternValue}
use Rattle.wamp_patterns.specs.Table.{AreInOrder, same_pattern}
use Rattle.realm_sessions.specs.Members.{has_member, has_members}
use Rattle.realm_lists.specs.OrderedList.{IsAbove, member_at}
use Rattle.realm_lists.specs.Finding.{AreRising, is_passing}
use Rattle.realm_groups.specs.IdSets.{has_id_in, ids_of}

pub record Listed (G : Type 0) : Type 0 where
  -- by ascending id
  pub list : List G
  -- the greatest id that was handed out, 0 before the first
  pub last : ℕ

abbrev pub nothing : {G : Type 0} → Listed G
nothing = record { list = []; last = 0 }

abbrev pub with_list : {G : Type 0} → Listed G → List G → Listed G
with_list groups list = record { list = list; last = groups.last }

-- the group comes as the last one, with the next id
abbrev pub with_group : {G : Type 0} → Listed G → G → Listed G
with_group groups group = record { list = groups.list ++ group ∷ []; last = groups.last + 1 }

abbrev pub has_id : {G : Type 0} → (G → ℕ) → ℕ → G → Bool
has_id id_of id group = id_of group == id

-- it has this text and match
abbrev pub is_at : {G : Type 0} → (G → PatternValue) → PatternValue → G → Bool
is_at pattern_of pattern group = same_pattern (pattern_of group) pattern

abbrev pub has_session : {G : Type 0} → (G → List ℕ) → ℕ → G → Bool
has_session sessions_of session group = has_member session (sessions_of group)

-- the session is one of the found group's
abbrev pub found_session : {G : Type 0} → (G → List ℕ) → ℕ → Option G → Bool
found_session sessions_of session None = false
found_session sessions_of session (Some group) = has_member session (sessions_of group)

-- it has sessions
abbrev pub is_held : {G : Type 0} → (G → List ℕ) → G → Bool
is_held sessions_of group = has_members (sessions_of group)

abbrev pub if_held : {G : Type 0} → (G → List ℕ) → G → Option G
if_held sessions_of group = if is_held sessions_of group then Some group else None

-- in place of the first: what it became, or nothing
abbrev pub put_first : {G : Type 0} → Option G → List G → List G
put_first None rest = rest
put_first (Some changed) rest = changed ∷ rest

-- the first that passes the test becomes what `change` makes of it, or is taken out
abbrev pub change_first : {G : Type 0} → (G → Bool) → (G → Option G) → List G → List G
change_first test change [] = []
change_first test change (first ∷ rest) = if test first then put_first (change first) rest else first ∷ change_first test change rest

-- without the session, if it is one of the group's; a group without sessions is no more
abbrev pub departed : {G : Type 0} → (G → List ℕ) → (ℕ → G → G) → ℕ → G → Option G
departed sessions_of left session group =
    if has_session sessions_of session group then if_held sessions_of (left session group) else Some group

abbrev pub each : {G : Type 0} → (G → Option G) → List G → List G
each change [] = []
each change (first ∷ rest) = put_first (change first) (each change rest)

-- ---- how they are stored

-- the group of this id, changed
abbrev pub alter_at : {G : Type 0} → ℕ → (G → G) → List (ℕ × G) → List (ℕ × G)
alter_at id change [] = []
alter_at id change (row ∷ rows) = if is_key_at (nat_cmp id) row.0 then (row.0, change row.1) ∷ rows else row ∷ alter_at id change rows

abbrev pub row_if_held : {G : Type 0} → (G → List ℕ) → ℕ → G → List (ℕ × G) → List (ℕ × G)
row_if_held sessions_of id group rows = if is_held sessions_of group then (id, group) ∷ rows else rows

-- the group of this id, changed, which is no more if it has no sessions then
abbrev pub left_at : {G : Type 0} → (G → List ℕ) → ℕ → (G → G) → List (ℕ × G) → List (ℕ × G)
left_at sessions_of id change [] = []
left_at sessions_of id change (row ∷ rows) =
    if is_key_at (nat_cmp id) row.0 then row_if_held sessions_of row.0 (change row.1) rows
    else row ∷ left_at sessions_of id change rows

abbrev pub after_left : {G : Type 0} → (G → List ℕ) → (G → G) → Option G → Option G
after_left sessions_of change None = None
after_left sessions_of change (Some group) = if_held sessions_of (change group)

-- the changed one has sessions
abbrev pub stays : {G : Type 0} → (G → List ℕ) → (G → G) → Option G → Bool
stays sessions_of change None = false
stays sessions_of change (Some group) = is_held sessions_of (change group)

-- the id under which a pattern is kept
abbrev pub id_at : List (PatternValue × ℕ) → PatternValue → Option ℕ
id_at patterns pattern = lookup (same_pattern pattern) patterns

-- each group is at its id, which no other has, and under its pattern; and it has sessions
pub record AreKept {G : Type 0} (id_of : G → ℕ) (pattern_of : G → PatternValue) (sessions_of : G → List ℕ) (rows : List (ℕ × G))
    (patterns : List (PatternValue × ℕ)) (last : ℕ) : Type 0 where
  pub rising : AreRising rows
  pub ordered : AreInOrder patterns
  pub named : (id : ℕ) (group : G) → member_at id rows ≡ Some group → id_of group ≡ id
  pub found : (id : ℕ) (group : G) → member_at id rows ≡ Some group → id_at patterns (pattern_of group) ≡ Some id
  pub told : (pattern : PatternValue) (id : ℕ) → id_at patterns pattern ≡ Some id
      → is_passing (is_at pattern_of pattern) (member_at id rows) ≡ true
  pub held : (id : ℕ) (group : G) → member_at id rows ≡ Some group → is_held sessions_of group ≡ true
  pub within : IsAbove (last + 1) rows

-- and each session's set has the groups that it is in
pub record AreGrouped {G : Type 0} (id_of : G → ℕ) (pattern_of : G → PatternValue) (sessions_of : G → List ℕ) (rows : List (ℕ × G))
    (patterns : List (PatternValue × ℕ)) (sets : List (ℕ × List ℕ)) (last : ℕ) : Type 0 where
  pub kept : AreKept id_of pattern_of sessions_of rows patterns last
  pub joined : (session id : ℕ) → has_id_in (ids_of sets session) id ≡ found_session sessions_of session (member_at id rows)
  pub last_is_id : last ≤ last_id

-- groups that were kept are kept still
abbrev pub StayKept : {G : Type 0} → (G → ℕ) → (G → PatternValue) → (G → List ℕ) → List (ℕ × G) → List (PatternValue × ℕ)
    → List (ℕ × G) → List (PatternValue × ℕ) → Type 0
StayKept id_of pattern_of sessions_of rows patterns new_rows new_patterns = (last : ℕ)
    → AreKept id_of pattern_of sessions_of rows patterns last → AreKept id_of pattern_of sessions_of new_rows new_patterns last

-- ---- gathering what matches

-- rows whose groups are lent
abbrev pub shown : {G : Type 0} → List (ℕ × Bor G) → List (ℕ × G)
shown rows = map (λ row. (row.0, row.1.now)) rows

abbrev pub with_found : {G : Type 0} → ℕ → Option G → List (ℕ × G) → List (ℕ × G)
with_found id None found = found
with_found id (Some group) found = insert_entry nat_cmp found id group

-- what was found, with the groups of these ids at their places
abbrev pub gathered : {G : Type 0} → List (ℕ × G) → List (ℕ × G) → List ℕ → List (ℕ × G)
gathered rows found [] = found
gathered rows found (id ∷ ids) = gathered rows (with_found id (member_at id rows) found) ids
