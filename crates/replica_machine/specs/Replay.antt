-- What a machine that follows a log has become, and what it has said (Lamport 2001, section 3: the state machine).
use Rattle.std.specs.Prelude.{Option, Some, None, List, [], ◌∷◌, ◌++◌, filter, fold}
use Rattle.std.specs.List.{filter_map}
use Rattle.paxos_packets.specs.declared.entry.Entry.{Entry}
use Rattle.paxos_packets.specs.declared.entry.Entry.TheVariants.{Noop, Boot, Lost, Item}
use Rattle.paxos_packets.specs.Transport.{same_transport}
use Rattle.paxos_packets.specs.declared.transport.Transport.{Transport}
use Rattle.replica_machine.specs.declared.input.Input.{Input}
use Rattle.replica_machine.specs.declared.input.Input.TheVariants as Given
use Rattle.replica_machine.specs.Effects.{effective}
use Rattle.replica_machine.specs.Roll.{effective_behind}

-- what a machine does at an input: the next content, what it says, and to whom
pub record Steps (B S Y : Type 0) : Type 0 where
  pub next : S → Input B → S
  pub says : S → Input B → List Y
  pub to : Y → Transport

-- a machine: its content at first, the next content, what it says, and to whom
pub record Machine (B S Y : Type 0) : Type 0 where
  pub first : S
  pub next : S → Input B → S
  pub says : S → Input B → List Y
  pub to : Y → Transport

-- what an entry gives a machine: an Item's transport is of the Item's node and boot
abbrev pub input_of : {B : Type 0} → Entry B → Option (Input B)
input_of Noop = None
input_of (Boot n b) = Some (Given.Boot n b)
input_of (Lost n b) = Some (Given.Lost n b)
input_of (Item n b q t x) = Some (Given.Item (record { node = n; boot = b; number = t }) x)

-- what a log gives a machine
abbrev pub inputs : {B : Type 0} → List (Entry B) → List (Input B)
inputs log = filter_map input_of (effective log)

-- the content that a log leads to
abbrev pub state : {B S Y : Type 0} → Machine B S Y → List (Entry B) → S
state m log = fold m.next m.first (inputs log)

abbrev pub sayings_from : {B S Y : Type 0} → Machine B S Y → S → List (Input B) → List Y
sayings_from m s [] = []
sayings_from m s (i ∷ is) = m.says s i ++ sayings_from m (m.next s i) is

-- all that is said along a log
abbrev pub sayings : {B S Y : Type 0} → Machine B S Y → List (Entry B) → List Y
sayings m log = sayings_from m m.first (inputs log)

-- what is said to the transport along a log, in order
abbrev pub said : {B S Y : Type 0} → Machine B S Y → Transport → List (Entry B) → List Y
said m t log = filter (λ y. same_transport (m.to y) t) (sayings m log)

-- what the entries of `es` give a machine after a log, and what it says at them
abbrev pub inputs_behind : {B : Type 0} → List (Entry B) → List (Entry B) → List (Input B)
inputs_behind log es = filter_map input_of (effective_behind log es)

abbrev pub sayings_behind : {B S Y : Type 0} → Machine B S Y → List (Entry B) → List (Entry B) → List Y
sayings_behind m log es = sayings_from m (state m log) (inputs_behind log es)

-- what it says at each of them, entry by entry
abbrev pub sayings_by_slot : {B S Y : Type 0} → Machine B S Y → List (Entry B) → List (Entry B) → List (List Y)
sayings_by_slot m log [] = []
sayings_by_slot m log (e ∷ es) = sayings_behind m log (e ∷ []) ∷ sayings_by_slot m (log ++ e ∷ []) es
