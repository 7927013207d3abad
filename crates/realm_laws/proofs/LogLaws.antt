-- The laws over lists of inputs, of those that a log gives a realm.
use Rattle.std.specs.Prelude.{take}
use Rattle.replica_machine.specs.Replay.{inputs}
use Rattle.realm_laws.specs.Logs.{RegistrationsAreSoundInLogs, RealmIsSoundInLogs, OpenCallsAreSoundInLogs}
use Rattle.realm_laws.specs.Logs.{RepliesAnswerCallsInLogs}
use Rattle.realm_laws.proofs.SoundSteps.{realm_sound}
use Rattle.realm_laws.proofs.Steps.{replies_answer, open_calls_sound}

pub realm_sound_in_logs : RealmIsSoundInLogs
realm_sound_in_logs config log n = realm_sound config (inputs (take n log))

pub registrations_sound_in_logs : RegistrationsAreSoundInLogs
registrations_sound_in_logs config log n = (realm_sound_in_logs config log n).registrations

pub open_calls_sound_in_logs : OpenCallsAreSoundInLogs
open_calls_sound_in_logs config log n = open_calls_sound config (inputs (take n log))

pub replies_answer_in_logs : RepliesAnswerCallsInLogs
replies_answer_in_logs config log t r = replies_answer config (inputs log) t r
