-- The rows of an acceptor that rows of the three tables read as (docs/CONSENSUS.md, "The store").
use Rattle.std.specs.Prelude.{ℕ, pos, negsuc, Bool, false, not, ◌&&◌, ◌||◌, ◌==◌, nat_le, length, List, [], ◌∷◌, if◌then◌else◌}
use Rattle.std.specs.Prelude.{Option, Some, None, option_map, option_and_then, is_some, Result, Ok, Err}
use Rattle.sqlite_value.specs.declared.value.Value.{Value}
use Rattle.sqlite_value.specs.declared.value.Value.TheVariants.{Null, Int, Real, Text, Blob}
use Rattle.sqlite_value.specs.Order.{Row, column}
use Rattle.paxos_packets.specs.Ballot.{below}
use Rattle.paxos_packets.specs.Rows.{bare_rows}
use Rattle.paxos_packets.specs.Snapshot.{Snapshot, snapshot_of, floor_in}
use Rattle.paxos_packets.specs.Vote.{vote_in, put_vote}
use Rattle.paxos_packets.specs.declared.ballot.Ballot.{Ballot}
use Rattle.paxos_packets.specs.declared.entry.Entry.{Entry}
use Rattle.paxos_packets.specs.declared.vote.Vote.{Vote}
use Rattle.paxos_packets.specs.declared.rows.Rows.{Rows}
use Rattle.command_codec.specs.declared.fault.CodecFault.{CodecFault}
use Rattle.command_codec.specs.Number.{Reading}
use Rattle.command_codec.specs.Entry.{entry_reading}
use Rattle.store_keeper.specs.declared.fault.KeeperFault.{KeeperFault}
use Rattle.store_keeper.specs.declared.fault.KeeperFault.TheVariants.{Damaged, Version}
use Rattle.store_rows.specs.declared.rows.Numbers.{Numbers}

-- the natural number that a value is
abbrev pub number : Value → Option ℕ
number Null = None
number (Int (pos n)) = Some n
number (Int (negsuc n)) = None
number (Real x) = None
number (Text t) = None
number (Blob b) = None

abbrev pub octets : Value → Option (List ℕ)
octets Null = None
octets (Int n) = None
octets (Real x) = None
octets (Text t) = None
octets (Blob b) = Some b

abbrev pub is_number : ℕ → Option ℕ → Bool
is_number n None = false
is_number n (Some m) = m == n

abbrev pub if_within : ℕ → ℕ → ℕ → Option ℕ
if_within low high n = if nat_le low n && nat_le n high then Some n else None

-- the number that a value is, if it is from `low` to `high`
abbrev pub within : ℕ → ℕ → Value → Option ℕ
within low high v = option_and_then (if_within low high) (number v)

-- a slot is from 1 to 2^40 - 1, a floor at most that, a boot number and a round at most 2^48 - 1, a node from 1 to 7
abbrev pub slot_in : Value → Option ℕ
slot_in = within 1 1099511627775

abbrev pub floor_of : Value → Option ℕ
floor_of = within 0 1099511627775

abbrev pub boot_in : Value → Option ℕ
boot_in = within 0 281474976710655

abbrev pub round_in : Value → Option ℕ
round_in = within 1 281474976710655

abbrev pub node_in : Value → Option ℕ
node_in = within 1 7

abbrev pub ballot_in : Value → Value → Option Ballot
ballot_in round node =
    option_and_then (λ r. option_map (λ n. record { round = r; node = n }) (node_in node)) (round_in round)

-- round 0 and node 0 are no promise
abbrev pub promise_in : Value → Value → Option (Option Ballot)
promise_in round node =
    if is_number 0 (number round) && is_number 0 (number node) then Some None else option_map Some (ballot_in round node)

abbrev pub taken : {B : Type 0} → Result (Entry B) CodecFault → Option (Entry B)
taken (Ok entry) = Some entry
taken (Err fault) = None

abbrev pub entry_in : {B : Type 0} → (List ℕ → Reading B) → Value → Option (Entry B)
entry_in reading v = option_and_then (λ os. taken (entry_reading reading os)) (octets v)

-- the vote that a row of `vote` shows: slot, round, node, entry
abbrev pub vote_of : {B : Type 0} → (List ℕ → Reading B) → Row → Option (Vote B)
vote_of reading row =
    option_and_then (λ slot.
    option_and_then (λ ballot.
    option_map (λ entry. record { slot = slot; ballot = ballot; entry = entry }) (entry_in reading (column row 3)))
    (ballot_in (column row 1) (column row 2))) (slot_in (column row 0))

-- a vote is cast in a promised ballot, or below it
abbrev pub is_promised : Option Ballot → Ballot → Bool
is_promised None b = false
is_promised (Some p) b = not (below p b)

-- the votes so far and that of one row more: none if its slot has one, or if it is above the promise, or not above the floor
abbrev pub with_row : {B : Type 0} → Option Ballot → ℕ → List (Vote B) → Vote B → Option (List (Vote B))
with_row promised floor votes v =
    if is_some (vote_in v.slot votes) || (not (is_promised promised v.ballot) || nat_le v.slot floor) then None else Some (put_vote v votes)

-- the votes that the rows show, beside those that were read before
abbrev pub votes_after : {B : Type 0} → (List ℕ → Reading B) → Option Ballot → ℕ → List (Vote B) → List Row → Option (List (Vote B))
votes_after reading promised floor votes [] = Some votes
votes_after reading promised floor votes (row ∷ rows) =
    option_and_then (λ more. votes_after reading promised floor more rows)
    (option_and_then (with_row promised floor votes) (vote_of reading row))

abbrev pub or_damaged : {A : Type 0} → Option A → Result A KeeperFault
or_damaged None = Err Damaged
or_damaged (Some x) = Ok x

-- `meta` has one row, of k 1 and of a version that is neither this one nor the one before it
abbrev pub is_other_version : List Row → Bool
is_other_version [] = false
is_other_version (row ∷ []) = is_number 1 (number (column row 0)) && not (is_number 1 (number (column row 1)) || is_number 2 (number (column row 1)))
is_other_version (row ∷ other ∷ rows) = false

-- the numbers that a row of `meta` of a version shows beside a floor: k, version, boot, round, node
abbrev pub numbers_of : ℕ → ℕ → Row → Option Numbers
numbers_of version floor row =
    if not (is_number 1 (number (column row 0))) || not (is_number version (number (column row 1))) then None
    else option_and_then (λ boot. option_map (λ promised. record { boot = boot; promised = promised; floor = floor })
    (promise_in (column row 3) (column row 4))) (boot_in (column row 2))

-- `meta` has one row
abbrev pub numbers_in : ℕ → ℕ → List Row → Option Numbers
numbers_in version floor [] = None
numbers_in version floor (row ∷ []) = numbers_of version floor row
numbers_in version floor (row ∷ other ∷ rows) = None

-- the snapshot, if it is that of this floor
abbrev pub at_floor : ℕ → Option Snapshot → Option (Option Snapshot)
at_floor floor None = None
at_floor floor (Some s) = if s.floor == floor then Some (Some s) else None

-- at floor 0 there are no octets, and at another floor they begin with it
abbrev pub snapshot_at : ℕ → List ℕ → Option (Option Snapshot)
snapshot_at floor octets =
    if floor == 0 then (if length octets == 0 then Some None else None)
    else at_floor floor (snapshot_of octets)

-- the snapshot that a row of `snapshot` shows, or none: k, floor, octets
abbrev pub snapshot_shown : Row → Option (Option Snapshot)
snapshot_shown row =
    if not (is_number 1 (number (column row 0))) then None
    else option_and_then (λ floor. option_and_then (snapshot_at floor) (octets (column row 2))) (floor_of (column row 1))

-- `snapshot` has one row
abbrev pub snapshot_in : List Row → Option (Option Snapshot)
snapshot_in [] = None
snapshot_in (row ∷ []) = snapshot_shown row
snapshot_in (row ∷ other ∷ rows) = None

abbrev pub rows_with : {B : Type 0} → Numbers → Option Snapshot → List (Vote B) → Rows B
rows_with {B} numbers snapshot votes =
    record (bare_rows {B = B} numbers.boot) { promised = numbers.promised; snapshot = snapshot; votes = votes }

-- the rows of each table, as a query shows them
pub record TableRows : Type 0 where
  pub metas : List Row
  pub votes : List Row
  pub snapshots : List Row

-- what the votes read as beside the numbers and the snapshot
abbrev pub votes_with : {B : Type 0} → (List ℕ → Reading B) → List Row → Option Snapshot → Numbers → Option (Rows B)
votes_with reading votes snapshot numbers =
    option_map (rows_with numbers snapshot) (votes_after reading numbers.promised numbers.floor [] votes)

-- and the numbers and the votes beside the snapshot
abbrev pub numbers_with : {B : Type 0} → (List ℕ → Reading B) → TableRows → Option Snapshot → Option (Rows B)
numbers_with reading rows snapshot = option_and_then (votes_with reading rows.votes snapshot) (numbers_in 2 (floor_in snapshot) rows.metas)

-- what the rows of the tables read as: another version before any damage
abbrev pub rows_of : {B : Type 0} → (List ℕ → Reading B) → TableRows → Result (Rows B) KeeperFault
rows_of reading rows =
    if is_other_version rows.metas then Err Version
    else or_damaged (option_and_then (numbers_with reading rows) (snapshot_in rows.snapshots))
