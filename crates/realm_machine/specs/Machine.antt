-- The realm as a machine that follows a log (Lamport 2001, section 3: the state machine).
use Rattle.std.specs.Prelude.{Bool, true, false, List, Option, None, Some}
use Rattle.paxos_packets.specs.declared.transport.Transport.{Transport}
use Rattle.replica_machine.specs.declared.input.Input.{Input}
use Rattle.replica_machine.specs.Replay.{Machine, Steps}
use Rattle.realm_acts.specs.declared.act.Act.{Act}
use Rattle.realm_machine.specs.declared.sayings.say.Say.{Say}
use Rattle.realm_machine.specs.Config.{Config}
use Rattle.realm_machine.specs.Content.{Content, empty}
use Rattle.realm_machine.specs.Step.{after_input, said_at}
use Rattle.realm_machine.specs.Realm.{State}

-- whom a saying is for
abbrev pub to : Say → Transport
to it = it.transport

-- the realm of this configuration: with no transport at first, and each input takes its step
abbrev pub realm_of : Config → Machine Act Content Say
realm_of config = record { first = empty config.limits; next = after_input config; says = said_at config; to = to }

-- ---- a realm that carries its configuration

-- what it is made with, and its content
pub record Live : Type 0 where
  pub config : Config
  pub content : Content

-- at first
abbrev pub begun : Config → Live
begun config = record { config = config; content = (realm_of config).first }

-- it goes on as the realm of its configuration, and says what that says
abbrev pub next_live : Live → Input Act → Live
next_live live input = record { config = live.config; content = (realm_of live.config).next live.content input }

abbrev pub said_live : Live → Input Act → List Say
said_live live input = (realm_of live.config).says live.content input

abbrev pub live_steps : Steps Act Live Say
live_steps = record { next = next_live; says = said_live; to = to }

-- of a failed realm the content is of no meaning
abbrev pub known : Config → Option Content → Content
known config None = empty config.limits
known config (Some c) = c

abbrev pub live_of : State → Live
live_of realm = record { config = realm.config; content = known realm.config realm.content }

abbrev pub is_unknown : Option Content → Bool
is_unknown None = true
is_unknown (Some c) = false

abbrev pub has_failed : State → Bool
has_failed realm = is_unknown realm.content
