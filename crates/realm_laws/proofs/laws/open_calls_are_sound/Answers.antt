use Rattle.realm_laws.proofs.Steps.{open_calls_sound}
use Rattle.realm_laws.proofs.laws.open_calls_are_sound.Goals as goal

pub returns : goal.returns
returns c = open_calls_sound
