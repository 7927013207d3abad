-- Laws of the realm's step, and of a realm along a log (docs/PROTOCOL.md, "The realm").
use Rattle.std.specs.Prelude.{◌≡◌, false, List, All}
use Rattle.paxos_packets.specs.declared.entry.Entry.{Entry}
use Rattle.paxos_packets.specs.declared.transport.Transport.{Transport}
use Rattle.paxos_packets.specs.Transport.{same_transport}
use Rattle.replica_machine.specs.Log.{machine_from}
use Rattle.replica_machine.specs.Replay.{Machine, state, sayings}
use Rattle.realm_acts.specs.declared.act.Act.{Act}
use Rattle.realm_acts.specs.declared.act.Act.TheVariants.{Hung}
use Rattle.realm_machine.specs.declared.sayings.say.Say.{Say}
use Rattle.realm_machine.specs.Config.{Config}
use Rattle.realm_machine.specs.Content.{Content}
use Rattle.realm_machine.specs.Step.{says}
use Rattle.realm_machine.specs.Machine.{Live, realm_of, begun, to, live_steps}

-- nothing is said to a transport that hangs up, whatever ends with its session
abbrev pub HungUpIsToldNothing : Type 0
HungUpIsToldNothing = (config : Config) (c : Content) (t : Transport)
    → All (λ (it : Say). same_transport it.transport t ≡ false) (says config c t Hung)

-- ---- along a log

-- the machine that `Realm` is, begun with this configuration
abbrev pub live_realm : Config → Machine Act Live Say
live_realm config = machine_from live_steps (begun config)

-- it has the content of the realm of that configuration, and says the same
abbrev pub FollowsAsItsRealm : Type 0
FollowsAsItsRealm = (config : Config) (log : List (Entry Act))
    → state (live_realm config) log ≡ record { config = config; content = state (realm_of config) log }

abbrev pub SaysAsItsRealm : Type 0
SaysAsItsRealm = (config : Config) (log : List (Entry Act)) → sayings (live_realm config) log ≡ sayings (realm_of config) log
