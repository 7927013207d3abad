use Rattle.realm_laws.proofs.LogLaws.{registrations_sound_in_logs, realm_sound_in_logs, open_calls_sound_in_logs}
use Rattle.realm_laws.proofs.laws.realms_are_sound_in_logs.Goals as goal

pub returns : goal.returns
returns c = record {
  registrations = registrations_sound_in_logs;
  realm = realm_sound_in_logs;
  calls = open_calls_sound_in_logs;
}
