-- A log that a machine follows: what is learned of its slots, and what it has applied.
use Rattle.std.specs.Prelude.{◌≡◌, ◌≢◌, ℕ, ◌+◌, ◌-◌, ◌^◌, Bool, false, ◌&&◌, ◌==◌, nat_lt, nat_le, Option, Some, None, IsSomeAnd, List}
use Rattle.std.specs.Prelude.{[], ◌∷◌, ◌++◌, length, slice_get, replicate, if◌then◌else◌}
use Rattle.std.specs.Map.{lookup}
use Rattle.std.specs.Option.{option_map_or}
use Rattle.paxos_packets.specs.declared.entry.Entry.{Entry}
use Rattle.replica_machine.specs.declared.log.LearnFault.{LearnFault}
use Rattle.replica_machine.specs.declared.log.LearnFault.TheVariants.{Disagree, Memory, Failed}
use Rattle.replica_machine.specs.declared.roll.Standing.{Standing}
use Rattle.replica_machine.specs.declared.roll.Standing.TheVariants.{Unknown}
use Rattle.replica_machine.specs.Effects.{is_effective}
use Rattle.replica_machine.specs.Roll.{IsRollOf}
use Rattle.replica_machine.specs.Replay.{Machine, state, sayings_behind, Steps}

-- the number of a fault
abbrev pub learn_fault_number : LearnFault → ℕ
learn_fault_number Disagree = 46
learn_fault_number Memory = 47
learn_fault_number Failed = 48

-- the slot up to which the entries are forgotten; the entries applied after it, in the order of their slots; those learned after them,
-- with their slots; where each node stands after the entries applied; the machine; whether the log has failed
pub record LogState (B M : Type 0) : Type 0 where
  pub floor : ℕ
  pub applied : List (Entry B)
  pub ahead : List (ℕ × Entry B)
  pub roll : List Standing
  pub machine : M
  pub failed : Bool

-- the roll of the empty log
unfoldable pub first_roll : List Standing
first_roll = replicate 256 Unknown

-- a log in which nothing is learned
abbrev pub first_log : {B M : Type 0} → M → LogState B M
first_log machine = record { floor = 0; applied = []; ahead = []; roll = first_roll; machine = machine; failed = false }

-- it is the number of a slot
abbrev pub is_slot : ℕ → Bool
is_slot n = nat_le 1 n && nat_lt n (2 ^ 40)

-- the machine that takes these steps, by its first content
abbrev pub machine_from : {B S Y : Type 0} → Steps B S Y → S → Machine B S Y
machine_from steps first = record { first = first; next = steps.next; says = steps.says; to = steps.to }

-- the steps of a machine
abbrev pub steps_of : {B S Y : Type 0} → Machine B S Y → Steps B S Y
steps_of m = record { next = m.next; says = m.says; to = m.to }

-- the next content, and what is said, at an input if it counts
abbrev pub next_by : {S I : Type 0} → (S → I → S) → Bool → S → Option I → S
next_by next counts s input = if counts then option_map_or (λ i. next s i) input s else s

abbrev pub says_by : {S I Y : Type 0} → (S → I → List Y) → Bool → S → Option I → List Y
says_by says counts s input = if counts then option_map_or (λ i. says s i) input [] else []

-- these entries are the first of those
abbrev pub Begins : {B : Type 0} → List (Entry B) → List (Entry B) → Type 0
Begins {B} log longer = (rest : List (Entry B)) × (log ++ rest ≡ longer)

module _ {B M : Type 0} where
  -- the entry that is learned in the slot: an applied one, or one ahead of these; none up to the floor
  abbrev pub learned_in : ℕ → LogState B M → Option (Entry B)
  learned_in slot log =
      if is_slot slot
      then (if nat_le slot log.floor then None
      else (if nat_le slot (log.floor + length log.applied) then slice_get log.applied (slot - log.floor - 1)
      else lookup (λ s. slot == s) log.ahead))
      else None

  -- how many slots are applied, with those up to the floor
  abbrev pub length_in : LogState B M → ℕ
  length_in log = log.floor + length log.applied

  -- the slot that is applied next
  abbrev pub next_slot : LogState B M → ℕ
  next_slot log = length_in log + 1

  -- the log without the entries applied, unless it is longer than there are slots
  abbrev pub cut_log : LogState B M → LogState B M
  cut_log log = if nat_lt (length_in log) (2 ^ 40) then record log { floor = length_in log; applied = [] } else log

  -- another entry is learned in the slot
  abbrev pub Disagrees : ℕ → Entry B → LogState B M → Type 0
  Disagrees slot entry log = IsSomeAnd (learned_in slot log) (λ learned. learned ≢ entry)

  -- the entry is learned in the slot, and nothing else has changed
  pub record Learns (slot : ℕ) (entry : Entry B) (old new : LogState B M) : Type 0 where
    pub learned : learned_in slot new ≡ Some entry
    pub others : (other : ℕ) → other ≢ slot → learned_in other new ≡ learned_in other old
    pub floor : new.floor ≡ old.floor
    pub applied : new.applied ≡ old.applied
    pub roll : new.roll ≡ old.roll
    pub machine : new.machine ≡ old.machine
    pub failed : new.failed ≡ old.failed

  module _ {S Y : Type 0} (steps : Steps B S Y) (content : M → S) where
    -- a machine and a roll stand where this log leads to
    abbrev pub IsAt : S → List (Entry B) → List Standing → M → Type 0
    IsAt first log roll machine = (content machine ≡ state (machine_from steps first) log) × IsRollOf log roll

    -- this is a log whose entries up to the floor are these: its machine has the content, and its roll the standings, that all lead to
    pub record IsLogOf (first : S) (under : List (Entry B)) (log : LogState B M) : Type 0 where
      pub below : length under ≡ log.floor
      pub stands : IsAt first (under ++ log.applied) log.roll log.machine

    -- this is a log of which nothing is forgotten
    abbrev pub Follows : S → LogState B M → Type 0
    Follows first log = IsLogOf first [] log

    -- the entry that is learned in the next slot is applied there: whether it takes effect goes by its place, what is said is its
    -- part of the sayings, the machine goes on from whatever content it began with, and nothing learned is lost
    pub record Applies (old new : LogState B M) (slot : ℕ) (took : Bool) (says : List Y) : Type 0 where
      pub entry : Entry B
      pub slot_is : slot ≡ next_slot old
      pub learned : learned_in slot old ≡ Some entry
      pub floor : new.floor ≡ old.floor
      pub applied : new.applied ≡ old.applied ++ entry ∷ []
      pub others : (other : ℕ) → learned_in other new ≡ learned_in other old
      pub failed : new.failed ≡ false
      pub took_is : (under : List (Entry B)) → IsRollOf (under ++ old.applied) old.roll → took ≡ is_effective (under ++ old.applied) entry
      pub says_is : (first : S) (under : List (Entry B)) → IsLogOf first under old
          → says ≡ sayings_behind (machine_from steps first) (under ++ old.applied) (entry ∷ [])
      pub follows : (first : S) (under : List (Entry B)) → IsLogOf first under old → IsLogOf first under new
