use Rattle.realm_sessions.proofs.FreeIds.{free_id_found, open_where_room, limit_where_full}
use Rattle.realm_sessions.proofs.laws.session_ids_are_found.Goals as goal

pub returns : goal.returns
returns c = record { found = free_id_found; opens = open_where_room; limit = limit_where_full }
