use Rattle.realm_calls.proofs.SoundCalls.{nothing_sound, opened_sound, answered_sound, canceled_sound, callee_sound, caller_sound}
use Rattle.realm_calls.proofs.laws.open_calls_are_sound.Goals as goal

pub returns : goal.returns
returns c = record {
  none = nothing_sound;
  opened = opened_sound;
  answered = answered_sound;
  canceled = canceled_sound;
  callee = callee_sound;
  caller = caller_sound;
}
