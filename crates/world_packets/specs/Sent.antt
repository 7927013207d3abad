-- What callers see of the packets ever sent, and how they are found.
use Rattle.std.specs.Prelude.{◌≡◌, ◌<◌, ◌≤◌, ℕ, suc, Bool, true, false, Option, Some, None, IsSome, List, length, slice_get}
use Rattle.std.specs.List.{list_any}
use Rattle.std.specs.Map.{lookup}
use Rattle.paxos_packets.specs.Packet.{same_packet}
use Rattle.paxos_packets.specs.declared.packet.Packet.{Packet}
use Rattle.world_packets.specs.declared.numbers.Key.{Key}
use Rattle.world_packets.specs.declared.numbers.Numbers.{Numbers}
use Rattle.world_packets.specs.Numbers.{same_key, numbers_of}

-- the packets, oldest first, and for how many more there is memory
pub record Sent (B : Type 0) : Type 0 where
  pub packets : List (Packet B)
  pub room : ℕ

-- an equal packet was sent
abbrev pub is_among : {B : Type 0} → (B → B → Bool) → Packet B → List (Packet B) → Bool
is_among same p sent = list_any (λ q. same_packet same q p) sent

-- the place that is kept under these numbers and this ordinal
abbrev pub place_in : List (Key × ℕ) → Numbers → ℕ → Option ℕ
place_in table numbers ordinal = lookup (same_key (record { numbers = numbers; ordinal = ordinal })) table

-- the packet, or an equal one, is at an index that is kept under its numbers
pub record IsListed {B : Type 0} (table : List (Key × ℕ)) (packets : List (Packet B)) (p : Packet B) : Type 0 where
  pub ordinal : ℕ
  pub place : ℕ
  pub kept : place_in table (numbers_of p) ordinal ≡ Some place
  pub there : slice_get packets place ≡ Some p

-- each packet is listed; under the same numbers ordinals follow one another from 0 on; and there are no more of them than packets
pub record IsIndex {B : Type 0} (table : List (Key × ℕ)) (packets : List (Packet B)) : Type 0 where
  pub each : (i : ℕ) (p : Packet B) → slice_get packets i ≡ Some p → IsListed table packets p
  pub below : (n : Numbers) (ordinal place : ℕ) → place_in table n (suc ordinal) ≡ Some place → IsSome (place_in table n ordinal)
  pub within : (n : Numbers) (ordinal place : ℕ) → place_in table n ordinal ≡ Some place → (ordinal < length packets) × (place < length packets)

-- a packet is found: an equal one was sent, or this is the first ordinal under which nothing is kept for its numbers
abbrev pub Seeks : {B : Type 0} → (B → B → Bool) → Packet B → List (Packet B) → List (Key × ℕ) → Option ℕ → Type 0
Seeks same p packets table None = is_among same p packets ≡ true
Seeks same p packets table (Some ordinal) =
    (is_among same p packets ≡ false) × (ordinal ≤ length packets) × (place_in table (numbers_of p) ordinal ≡ None)
    × ((k : ℕ) → k < ordinal → IsSome (place_in table (numbers_of p) k))
