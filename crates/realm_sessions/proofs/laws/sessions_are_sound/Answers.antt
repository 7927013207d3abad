use Rattle.realm_sessions.proofs.SoundLinks.{nothing_sound, connected_sound, closed_sound, removed_sound}
use Rattle.realm_sessions.proofs.FreeIds.{open_sound}
use Rattle.realm_sessions.proofs.Invoking.{invoke_sound}
use Rattle.realm_sessions.proofs.laws.sessions_are_sound.Goals as goal

pub returns : goal.returns
returns c = record {
  none = nothing_sound;
  connect = connected_sound;
  opened = open_sound;
  close = closed_sound;
  remove = removed_sound;
  invoke = invoke_sound;
}
