-- The world that the lines of a script lead to (docs/SCRIPTS.md).
use Rattle.std.specs.Prelude.{◌≡◌, ℕ, zero, suc, None, List, [], ◌∷◌}
use Rattle.std.specs.List.{flat_map}
use Rattle.paxos_packets.specs.declared.transport.Transport.{Transport}
use Rattle.paxos_node.specs.declared.event.Event.{Event}
use Rattle.paxos_node.specs.declared.event.Event.TheVariants.{Take, Tick, Start, Suspect, Cut, Crash, Restart}
use Rattle.realm_acts.specs.declared.act.Act.{Act}
use Rattle.realm_acts.specs.Act.{same_act}
use Rattle.realm_machine.specs.declared.sayings.say.Say.{Say}
use Rattle.realm_machine.specs.Config.{Config}
use Rattle.realm_machine.specs.Realm.{State}
use Rattle.realm_machine.specs.Machine.{live_of, realm_of}
use Rattle.realm_machine.specs.Laws.{live_realm}
use Rattle.script_program.specs.declared.lines.line.Line.{Line}
use Rattle.script_program.specs.declared.lines.line.Line.TheVariants as line
use Rattle.cluster_world.specs.Scripts as scripts
use Rattle.realm_snapshot.specs.Snapshot.{loaded}
use Rattle.realm_snapshot.specs.Writing.{saved}
use Rattle.cluster_world.specs.Saving.{played_of}
use Rattle.cluster_world.specs.StandsAt.{Held, StandsAt}
use Rattle.cluster_world.specs.World.{World, handed}

-- what a line is in a script of the world; there is no packet 0, and no line that a text spells names it. What a node keeps at a cut is its
-- realm's to say
abbrev pub in_script : Line → List (scripts.Line Act)
in_script (line.Take n t act) = scripts.Happens (Take n t act) ∷ []
in_script (line.Tick n) = scripts.Happens (Tick n) ∷ []
in_script (line.Start n) = scripts.Happens (Start n) ∷ []
in_script (line.Suspect n k) = scripts.Happens (Suspect n k) ∷ []
in_script (line.Deliver zero) = []
in_script (line.Deliver (suc k)) = scripts.Packet_no (suc k) ∷ []
in_script (line.Cut n) = scripts.Happens (Cut n None) ∷ []
in_script (line.Crash n) = scripts.Happens (Crash n) ∷ []
in_script (line.Restart n) = scripts.Happens (Restart n) ∷ []
in_script (line.Flush among) = scripts.Flush among ∷ []

abbrev pub script_of : List Line → List (scripts.Line Act)
script_of lines = flat_map in_script lines

-- ---- a cluster whose machines are realms of this configuration: a Cut has what such a realm saves

-- an event, and lines, from a stage on

abbrev pub happen : Config → ℕ → Event Act → scripts.Stage Act → scripts.Stage Act
happen config members e s = scripts.happen saved (live_realm config) same_act members e s

abbrev pub stage_behind : Config → ℕ → List (scripts.Line Act) → scripts.Stage Act → scripts.Stage Act
stage_behind config members lines s = scripts.stage_behind saved (live_realm config) same_act members lines s

-- the world to which events lead
abbrev pub world_behind : Config → ℕ → List (Event Act) → World Act
world_behind config members events = played_of saved (live_realm config) same_act members events

-- and it is this one
abbrev pub IsBehind : Config → Held Act State Say → List (Event Act) → Type 0
IsBehind config w events = StandsAt same_act live_of saved loaded (live_realm config) w events

-- the events of the lines, each flush written out
abbrev pub events_of : Config → ℕ → List Line → List (Event Act)
events_of config members lines = (stage_behind config members (script_of lines) (scripts.first_stage members)).events

-- it is the world that these lines lead to
abbrev pub IsPlayed : Config → ℕ → List Line → Held Act State Say → Type 0
IsPlayed config members lines w = IsBehind config w (events_of config members lines)

-- transports are handed what the realm says
abbrev pub HandsOutAsRealm : Type 0
HandsOutAsRealm = (config : Config) (t : Transport) (w : World Act) → handed (live_realm config) t w ≡ handed (realm_of config) t w
