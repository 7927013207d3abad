-- The text of a world (docs/SCRIPTS.md, "What is printed").
use Rattle.std.specs.Prelude.{◌≡◌, ℕ, zero, suc, ◌+◌, List, [], ◌++◌, map}
use Rattle.std.specs.List.{flat_map}
use Rattle.paxos_packets.specs.declared.transport.Transport.{Transport}
use Rattle.realm_machine.specs.declared.sayings.say.Say.{Say}
use Rattle.realm_acts.specs.declared.act.Act.{Act}
use Rattle.realm_machine.specs.Config.{Config}
use Rattle.realm_machine.specs.Machine.{realm_of}
use Rattle.cluster_world.specs.Told.{WereHanded}
use Rattle.cluster_world.specs.World.{World, node_at, floor_of, log_of}
use Rattle.script_program.specs.declared.lines.line.Line.{Line}
use Rattle.script_program.specs.Playing.{events_of, world_behind}
use Rattle.script_program.specs.Text.{node_text, handed_text}

-- a node with its log, of which the entries above its floor are written
abbrev pub text_in : {B : Type 0} → World B → ℕ → List ℕ
text_in w n = node_text n (node_at w.nodes n).up (floor_of w n) (log_of w n)

-- this many nodes, from node n on
abbrev pub nodes_from : {B : Type 0} → World B → ℕ → ℕ → List ℕ
nodes_from w n zero = []
nodes_from w n (suc more) = text_in w n ++ nodes_from w (n + 1) more

abbrev pub nodes_text : {B : Type 0} → ℕ → World B → List ℕ
nodes_text members w = nodes_from w 1 members

-- what transports were handed, one after the other
abbrev pub told_text : List (Transport × List Say) → List ℕ
told_text told = flat_map (λ p. handed_text p.0 (map (λ say. say.out) p.1)) told

-- the nodes of a world, and then what its transports were handed
abbrev pub world_text : {B : Type 0} → ℕ → World B → List (Transport × List Say) → List ℕ
world_text members w told = nodes_text members w ++ told_text told

-- the world that the events of these lines lead to, each flush written out, if the realm of each node has this configuration
abbrev pub world_of : Config → ℕ → List Line → World Act
world_of config members lines = world_behind config members (events_of config members lines)

-- it is the text of that world
pub record IsTextOf (config : Config) (members : ℕ) (lines : List Line) (text : List ℕ) : Type 0 where
  pub told : List (Transport × List Say)
  pub were_handed : WereHanded (realm_of config) (world_of config members lines) told
  pub is_text : text ≡ world_text members (world_of config members lines) told
