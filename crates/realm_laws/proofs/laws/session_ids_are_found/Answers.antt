use Rattle.realm_laws.proofs.SoundSteps.{open_where_room}
use Rattle.realm_laws.proofs.laws.session_ids_are_found.Goals as goal

pub returns : goal.returns
returns c = open_where_room
