use Rattle.realm_laws.proofs.SoundSteps.{empty_sound, input_sound, realm_sound}
use Rattle.realm_laws.proofs.laws.realms_are_sound.Goals as goal

pub returns : goal.returns
returns c = record { empty = empty_sound; each_input = input_sound; all_inputs = realm_sound }
