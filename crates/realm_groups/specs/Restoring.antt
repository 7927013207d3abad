-- Groups out of a list, as a snapshot has it (docs/PROTOCOL.md, "Snapshots"), and what no list has.
use Rattle.std.specs.Prelude.{ℕ, Bool, true, not, ◌&&◌, ◌||◌, nat_lt, List, [], ◌∷◌, ◌++◌, map, find, Option, None, Some}
use Rattle.std.specs.Prelude.{if◌then◌else◌}
use Rattle.std.specs.List.{list_any}
use Rattle.wamp_ids.specs.Id.{last_id}
use Rattle.wamp_ids.specs.Pattern.{PatternValue}
use Rattle.wamp_patterns.specs.Table.{same_pattern}
use Rattle.realm_sessions.specs.Apart.{has_two}
use Rattle.realm_groups.specs.Groups.{Listed, with_list, has_id, found_session, is_at, change_first}

-- ---- step by step

-- it may not come after these: its id is not after the last one, or its pattern has a group
abbrev pub is_refused : {G : Type 0} → (G → ℕ) → (G → PatternValue) → Listed G → G → Bool
is_refused id_of pattern_of held group =
    not (nat_lt held.last (id_of group)) || list_any (is_at pattern_of (pattern_of group)) held.list

-- the group comes as the last one, under its own id
abbrev pub put_at : {G : Type 0} → (G → ℕ) → Listed G → G → Listed G
put_at id_of held group = record { list = held.list ++ group ∷ []; last = id_of group }

-- the sessions join the group of this id, one after the other; none if one of them is in it already
abbrev pub joined_at : {G : Type 0} → (G → ℕ) → (G → List ℕ) → (ℕ → G → G) → Listed G → ℕ → List ℕ → Option (Listed G)
joined_at id_of sessions_of with groups id [] = Some groups
joined_at id_of sessions_of with groups id (session ∷ rest) =
    if found_session sessions_of session (find (has_id id_of id) groups.list) then None
    else joined_at id_of sessions_of with (with_list groups (change_first (has_id id_of id) (λ group. Some (with session group)) groups.list)) id rest

-- the group comes as the last one, and then these sessions join it
abbrev pub put_group : {G : Type 0} → (G → ℕ) → (G → PatternValue) → (G → List ℕ) → (ℕ → G → G) → Listed G → G → List ℕ → Option (Listed G)
put_group id_of pattern_of sessions_of with held group more =
    if is_refused id_of pattern_of held group then None
    else joined_at id_of sessions_of with (put_at id_of held group) (id_of group) more

abbrev pub and_put : {G : Type 0} → Option (Listed G) → (Listed G → Option (Listed G)) → Option (Listed G)
and_put None next = None
and_put (Some held) next = next held

-- the groups come one after the other
abbrev pub put_list : {G : Type 0} → (Listed G → G → Option (Listed G)) → Listed G → List G → Option (Listed G)
put_list put held [] = Some held
put_list put held (group ∷ rest) = and_put (put held group) (λ held. put_list put held rest)

-- this is the greatest id that was handed out, unless it is above the ids, or a group's id is above it
abbrev pub ended_at : {G : Type 0} → Listed G → ℕ → Option (Listed G)
ended_at groups last =
    if nat_lt last_id last || nat_lt last groups.last then None else Some (record { list = groups.list; last = last })

-- ---- of a whole list

-- the ids rise, each above the one before
abbrev pub rise_from : ℕ → List ℕ → Bool
rise_from last [] = true
rise_from last (id ∷ ids) = nat_lt last id && rise_from id ids

-- two groups of one pattern
abbrev pub same_at : {G : Type 0} → (G → PatternValue) → G → G → Bool
same_at pattern_of a b = same_pattern (pattern_of a) (pattern_of b)

-- no realm has these groups with this last id: that is above the ids, the ids do not rise, one is above the last one, or two are of one
-- pattern
abbrev pub are_damaged : {G : Type 0} → (G → ℕ) → (G → PatternValue) → List G → ℕ → Bool
are_damaged id_of pattern_of list last =
    nat_lt last_id last || (not (rise_from 0 (map id_of list))
    || (list_any (λ group. nat_lt last (id_of group)) list || has_two (same_at pattern_of) list))
