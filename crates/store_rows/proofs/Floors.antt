-- A snapshot begins with its floor.
use Rattle.std.proofs.Common.{◌≡◌, ℕ, ◌<◌, ◌≤◌, ◌^◌, ◌+◌, ◌&&◌, true, List, length, take, drop, Option, Some, refl, ap, ◌∙◌, arith, length-append}
use Rattle.std.specs.Prelude.{nat_le, nat_lt}
use Rattle.std.specs.Int.{w64, from_be_bytes, bytes_high_first}
use Rattle.std.proofs.lemmas.Bool.{le-leb, lt-ltb, eq-eqb, and_from}
use Rattle.std.proofs.lemmas.List.{take_at}
use Rattle.std.proofs.lemmas.Nat.{from_be_bytes-to_be_bytes_8}
use Rattle.paxos_packets.specs.Snapshot.{Snapshot, floor_end, number_at, is_floor, floor_at, Begins}
use Rattle.store_rows.specs.Rows.{is_number}
use Rattle.store_rows.specs.Changes.{floor_after}

eight : (n : ℕ) → length (bytes_high_first 8 n) ≡ 8
eight n = refl

-- the number that octets begin with is the floor
pub number_is : (floor : ℕ) (octets : List ℕ) → floor < 2 ^ 40 → Begins floor octets → number_at octets ≡ floor
unfolding number_at
number_is floor octets low begins =
    ap (λ os. from_be_bytes w64 (take 8 os)) begins ∙ ap (from_be_bytes w64) (take_at (bytes_high_first 8 floor) (drop 8 octets) 8 (eight floor))
    ∙ from_be_bytes-to_be_bytes_8 floor (omega arith)

long_enough : (floor : ℕ) (octets : List ℕ) → Begins floor octets → 8 ≤ length octets
long_enough floor octets begins =
    let long : length octets ≡ 8 + length (drop 8 octets) = ap length begins ∙ length-append (bytes_high_first 8 floor) (drop 8 octets) in omega arith

pub begun : (floor : ℕ) (octets : List ℕ) → 1 ≤ floor → floor < 2 ^ 40 → Begins floor octets → floor_at octets ≡ Some floor
unfolding floor_end
begun floor octets least low begins =
    let number : number_at octets ≡ floor = number_is floor octets low begins in
    let is : is_floor (number_at octets) ≡ true = rw number (and_from (nat_le 1 floor) (nat_lt floor 1099511627776) (le-leb 1 floor least) (lt-ltb floor 1099511627776 (omega arith))) in
    let long : nat_le 8 (length octets) ≡ true = le-leb 8 (length octets) (long_enough floor octets begins) in
    rw (long, is, number) refl

pub begins_with : (floor : ℕ) (octets : List ℕ) → 1 ≤ floor → floor < 2 ^ 40 → Begins floor octets → is_number floor (floor_at octets) ≡ true
begins_with floor octets least low begins = rw (begun floor octets least low begins) (eq-eqb floor floor refl)

-- a snapshot above the floor that is known raises it
pub raised : (floor known next at : ℕ) (s : Snapshot) (o : Option Snapshot) → o ≡ Some s → next ≡ s.floor → known ≡ floor → 1 ≤ next → next < 2 ^ 40
    → known < next → Begins s.floor s.octets → at ≡ s.floor → Some at ≡ floor_after floor o
raised floor known next at s o is same known_is least low above begins put =
    let test : nat_lt floor s.floor && is_number s.floor (floor_at s.octets) ≡ true =
    and_from (nat_lt floor s.floor) (is_number s.floor (floor_at s.octets)) (lt-ltb floor s.floor (omega arith))
    (begins_with s.floor s.octets (omega arith) (omega arith) begins) in
    rw (is, test) (ap Some put)
