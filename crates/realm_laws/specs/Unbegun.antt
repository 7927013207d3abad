-- Nothing is said to a boot's transports before the boot begins.
use Rattle.std.specs.Prelude.{◌≡◌, false, List, [], All}
use Rattle.paxos_packets.specs.declared.entry.Entry.{Entry}
use Rattle.paxos_packets.specs.declared.transport.Transport.{Transport}
use Rattle.replica_machine.specs.Effects.{is_boot}
use Rattle.replica_machine.specs.Replay.{said}
use Rattle.realm_acts.specs.declared.act.Act.{Act}
use Rattle.realm_machine.specs.Config.{Config}
use Rattle.realm_machine.specs.Machine.{realm_of}

-- no Boot of the transport's node and boot is in the log
abbrev pub IsUnbegun : Transport → List (Entry Act) → Type 0
IsUnbegun t log = All (λ (e : Entry Act). is_boot t.node t.boot e ≡ false) log

-- over every log a new realm says nothing to a transport whose boot has not begun in it
abbrev pub UnbegunAreToldNothing : Type 0
UnbegunAreToldNothing = (config : Config) (log : List (Entry Act)) (t : Transport) → IsUnbegun t log → said (realm_of config) t log ≡ []
