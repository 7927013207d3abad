-- Snapshots: octets that stand for a log up to a slot, their floor, which they begin with (docs/PROTOCOL.md, "Snapshots").
use Rattle.std.proofs.Common.{◌≡◌, ℕ, Bool, true, ◌&&◌, eqb, List, Option, Some, None}
use Rattle.std.specs.Prelude.{◌==◌, ◌++◌, nat_lt, nat_le, length, take, drop, option_map, if◌then◌else◌}
use Rattle.std.specs.Int.{w64, from_be_bytes, bytes_high_first}
use Rattle.std.specs.Cmp.Lexicographic.{pointwise}
use Rattle.std.proofs.lemmas.Bool.{eqb-true, and_from}
use Rattle.paxos_packets.specs.Body.{IsEquality, number_same, numbers_joined}
use Rattle.paxos_packets.specs.List.{list_equality}

-- what callers see of a snapshot
pub record Snapshot : Type 0 where
  pub floor : ℕ
  pub octets : List ℕ

-- floors are slots: they are below this number
unfoldable pub floor_end : ℕ
floor_end = 1099511627776

-- the number that eight octets spell, the highest first
unfoldable pub number_at : List ℕ → ℕ
number_at octets = from_be_bytes w64 (take 8 octets)

abbrev pub is_floor : ℕ → Bool
is_floor number = nat_le 1 number && nat_lt number floor_end

-- the floor that octets begin with
abbrev pub floor_at : List ℕ → Option ℕ
floor_at octets = if nat_le 8 (length octets) && is_floor (number_at octets) then Some (number_at octets) else None

abbrev pub snapshot_of : List ℕ → Option Snapshot
snapshot_of octets = option_map (λ floor. record { floor = floor; octets = octets }) (floor_at octets)

-- the octets begin with this floor, its highest octet first
abbrev pub Begins : ℕ → List ℕ → Type 0
Begins floor octets = octets ≡ bytes_high_first 8 floor ++ drop 8 octets

-- up to which slot the log is given by a snapshot: none of it without one
abbrev pub floor_in : Option Snapshot → ℕ
floor_in None = 0
floor_in (Some s) = s.floor

-- equality of snapshots

abbrev pub same_snapshot : Snapshot → Snapshot → Bool
same_snapshot s t = (s.floor == t.floor) && pointwise eqb s.octets t.octets

-- the test is equality
pub octets_equality : IsEquality (pointwise eqb)
octets_equality = list_equality eqb (record { reflexive = number_same; sound = eqb-true })

pub snapshot_same : (s : Snapshot) → same_snapshot s s ≡ true
snapshot_same s = and_from _ _ (number_same s.floor) (octets_equality.reflexive s.octets)

pub snapshot_sound : (s t : Snapshot) → same_snapshot s t ≡ true → s ≡ t
snapshot_sound s t h =
    let k = numbers_joined s.floor t.floor (pointwise eqb s.octets t.octets) h in
    let p = octets_equality.sound s.octets t.octets k.1 in
    λ i. record { floor = k.0 i; octets = p i }
