-- A log as octets: its length, where each node stands after it, and the machine's octets (docs/PROTOCOL.md, "Snapshots"). The entries are
-- not kept.
use Rattle.std.specs.Prelude.{◌≡◌, ℕ, ◌+◌, ◌<◌, false, ◌==◌, Option, Some, None, option_map, List, [], ◌∷◌, ◌++◌, length}
use Rattle.std.specs.Prelude.{Ok, Err, if◌then◌else◌}
use Rattle.std.specs.Int.{bytes_high_first}
use Rattle.command_codec.specs.declared.fault.CodecFault.TheVariants.{Range}
use Rattle.command_codec.specs.declared.number.Form.{Form}
use Rattle.command_codec.specs.Coder.{and_then}
use Rattle.command_codec.specs.Number.{Reading, number_reading}
use Rattle.paxos_packets.specs.declared.entry.Entry.{Entry}
use Rattle.replica_machine.specs.declared.roll.Standing.{Standing}
use Rattle.replica_machine.specs.declared.roll.Standing.TheVariants.{Unknown, Live, Gone}
use Rattle.replica_machine.specs.declared.head.Head.{Head}
use Rattle.replica_machine.specs.Roll.{standing_in, standings}
use Rattle.replica_machine.specs.Log.{LogState, length_in}
use Rattle.replica_machine.specs.Replay.{Machine, state}

-- ---- numbers, the highest octet first

-- up to which slot the log is kept so
abbrev pub floor_form : Form
floor_form = record { width = 8; low = 0; high = 1099511627775 }

-- a boot, or 0 for none; how many Items of a boot took effect
abbrev pub count_form : Form
count_form = record { width = 8; low = 0; high = 281474976710655 }

-- no or yes
abbrev pub flag_form : Form
flag_form = record { width = 1; low = 0; high = 1 }

-- ---- where a node stands

-- its greatest boot, whether that is live, and how many of its Items took effect
abbrev pub numbers_octets : ℕ → ℕ → ℕ → List ℕ
numbers_octets boot live taken = bytes_high_first 8 boot ++ (bytes_high_first 1 live ++ bytes_high_first 8 taken)

abbrev pub standing_octets : Standing → List ℕ
standing_octets Unknown = numbers_octets 0 0 0
standing_octets (Live boot taken) = numbers_octets boot 1 taken
standing_octets (Gone boot) = numbers_octets boot 0 0

-- the standing of these numbers: no boot is live at 0, and a boot that is not live counts no Items
abbrev pub standing_by : ℕ → ℕ → ℕ → Option Standing
standing_by boot live taken =
    if live == 1 then (if boot == 0 then None else Some (Live boot taken))
    else (if taken == 0 then Some (if boot == 0 then Unknown else Gone boot) else None)

abbrev pub unless_none : Option Standing → List ℕ → Reading Standing
unless_none None rest = Err Range
unless_none (Some standing) rest = Ok (standing, rest)

abbrev pub standing_reading : List ℕ → Reading Standing
standing_reading octets =
    and_then (number_reading count_form octets) (λ boot rest.
    and_then (number_reading flag_form rest) (λ live rest.
    and_then (number_reading count_form rest) (λ taken rest. unless_none (standing_by boot live taken) rest)))

-- ---- where the nodes stand, from node 1 to node 7

abbrev pub standings_octets : List Standing → List ℕ
standings_octets [] = []
standings_octets (standing ∷ standings) = standing_octets standing ++ standings_octets standings

abbrev pub seven_reading : List ℕ → Reading (List Standing)
seven_reading octets =
    and_then (standing_reading octets) (λ a rest.
    and_then (standing_reading rest) (λ b rest.
    and_then (standing_reading rest) (λ c rest.
    and_then (standing_reading rest) (λ d rest.
    and_then (standing_reading rest) (λ e rest.
    and_then (standing_reading rest) (λ f rest.
    and_then (standing_reading rest) (λ g rest. Ok (a ∷ b ∷ c ∷ d ∷ e ∷ f ∷ g ∷ [], rest))))))))

-- where nodes 1 to 7 stand
abbrev pub seven_of : (ℕ → Standing) → List Standing
seven_of stands = stands 1 ∷ stands 2 ∷ stands 3 ∷ stands 4 ∷ stands 5 ∷ stands 6 ∷ stands 7 ∷ []

-- those of a roll
abbrev pub seven : List Standing → List Standing
seven roll = seven_of (standing_in roll)

-- the node's standing in a list that begins with the standing of node `first`
abbrev pub standing_from_node : ℕ → ℕ → List Standing → Standing
standing_from_node first n [] = Unknown
standing_from_node first n (standing ∷ standings) = if first == n then standing else standing_from_node (first + 1) n standings

-- ---- a log

abbrev pub head_octets : ℕ → List Standing → List ℕ
head_octets floor standings = bytes_high_first 8 floor ++ standings_octets standings

abbrev pub head_reading : List ℕ → Reading Head
head_reading octets =
    and_then (number_reading floor_form octets) (λ floor rest.
    and_then (seven_reading rest) (λ standings rest. Ok (record { floor = floor; standings = standings }, rest)))

-- the head that octets begin with, unless they are no log's
abbrev pub head_in : Reading Head → Option Head
head_in (Ok read) = Some read.0
head_in (Err fault) = None

abbrev pub head_at : List ℕ → Option Head
head_at octets = head_in (head_reading octets)

-- what is kept of a log: its length, where nodes 1 to 7 stand after it, and its machine's content
pub record Kept (S : Type 0) : Type 0 where
  pub floor : ℕ
  pub standings : List Standing
  pub content : S

-- the same of a log that the machine follows from its content at first
abbrev pub kept_after : {B S Y : Type 0} → Machine B S Y → List (Entry B) → Kept S
kept_after m log = record { floor = length log; standings = seven_of (standings log); content = state m log }

abbrev pub with_content : {S : Type 0} → Head → Option S → Option (Kept S)
with_content head content = option_map (λ c. record { floor = head.floor; standings = head.standings; content = c }) content

abbrev pub of_head : {S : Type 0} → (List ℕ → Option S) → Reading Head → Option (Kept S)
of_head loaded (Ok read) = with_content read.0 (loaded read.1)
of_head loaded (Err fault) = None

-- what these octets keep, unless they are no log's
abbrev pub loaded_log : {S : Type 0} → (List ℕ → Option S) → List ℕ → Option (Kept S)
loaded_log loaded octets = of_head loaded (head_reading octets)

abbrev pub kept_octets : {S : Type 0} → (S → List ℕ) → Kept S → List ℕ
kept_octets saved kept = head_octets kept.floor kept.standings ++ saved kept.content

module _ {B M S : Type 0} (content : M → S) where
  -- what is kept of the log
  abbrev pub kept_of : LogState B M → Kept S
  kept_of log = record { floor = length_in log; standings = seven log.roll; content = content log.machine }

  -- a log of which just this is known
  pub record IsLoaded (kept : Kept S) (log : LogState B M) : Type 0 where
    pub floor : log.floor ≡ kept.floor
    pub applied : log.applied ≡ []
    pub ahead : log.ahead ≡ []
    pub alive : log.failed ≡ false
    pub machine : content log.machine ≡ kept.content
    pub roll : (n : ℕ) → n < 256 → standing_in log.roll n ≡ standing_from_node 1 n kept.standings
