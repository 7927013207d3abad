-- Ids (WAMP specification, "IDs").
use Rattle.std.specs.Prelude.{ℕ, ◌+◌, Bool, ◌&&◌, nat_lt, nat_le, if◌then◌else◌}

-- the greatest id, 2^53
abbrev pub last_id : ℕ
last_id = 9007199254740992

-- an id is a whole number from 1 to 2^53
abbrev pub is_id : ℕ → Bool
is_id number = nat_le 1 number && nat_le number last_id

-- ids go round: after the greatest comes 1
abbrev pub id_after : ℕ → ℕ
id_after id = if nat_lt id last_id then id + 1 else 1
