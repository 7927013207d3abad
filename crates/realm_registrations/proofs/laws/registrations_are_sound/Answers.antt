use Rattle.realm_registrations.proofs.SoundRegistrations.{nothing_sound, register_sound, unregister_sound, leave_sound, turn_sound}
use Rattle.realm_registrations.proofs.SoundRegistrations.{every_sound}
use Rattle.realm_registrations.proofs.laws.registrations_are_sound.Goals as goal

pub returns : goal.returns
returns c = record {
  none = nothing_sound;
  register = register_sound;
  unregister = unregister_sound;
  leave = leave_sound;
  turn = turn_sound;
  every = every_sound;
}
