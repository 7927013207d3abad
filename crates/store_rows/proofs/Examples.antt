-- What rows of a store's tables read as: examples.
use Rattle.std.proofs.Common.{◌≡◌, ℕ, pos, List, [], ◌∷◌, false, Option, Some, None, Ok, Err, refl}
use Rattle.sqlite_value.specs.declared.value.Value.TheVariants.{Int, Blob}
use Rattle.sqlite_value.specs.Order.{Row}
use Rattle.paxos_packets.specs.Rows.{bare_rows, no_change, snapshot_change}
use Rattle.paxos_packets.specs.Snapshot.{Snapshot, floor_end, number_at}
use Rattle.paxos_packets.specs.declared.ballot.Ballot.{Ballot}
use Rattle.paxos_packets.specs.declared.entry.Entry.{Entry}
use Rattle.paxos_packets.specs.declared.vote.Vote.{Vote}
use Rattle.command_codec.specs.Number.{Reading}
use Rattle.store_keeper.specs.declared.fault.KeeperFault.TheVariants.{Damaged, Version}
use Rattle.store_rows.specs.declared.rows.Numbers.{Numbers}
use Rattle.store_rows.specs.Rows.{is_other_version, numbers_in, with_row, rows_of}
use Rattle.store_rows.specs.Changes.{numbers_after}

-- a row of `meta` of a version, with boot 3 and the promise of ballot (2, 1), and a row of `snapshot`
abbrev meta : ℕ → Row
meta version = Int (pos 1) ∷ Int (pos version) ∷ Int (pos 3) ∷ Int (pos 2) ∷ Int (pos 1) ∷ []

abbrev kept : ℕ → List ℕ → Row
kept floor octets = Int (pos 1) ∷ Int (pos floor) ∷ Blob octets ∷ []

abbrev two : Option Ballot
two = Some (record { round = 2; node = 1 })

abbrev at_five : Snapshot
at_five = record { floor = 5; octets = 0 ∷ 0 ∷ 0 ∷ 0 ∷ 0 ∷ 0 ∷ 0 ∷ 5 ∷ 9 ∷ [] }

-- version 1 is read with floor 0, and is no other version
old_is : numbers_in 1 0 (meta 1 ∷ []) ≡ Some (record { boot = 3; promised = two; floor = 0 })
old_is = refl

old_is_known : is_other_version (meta 1 ∷ []) ≡ false
old_is_known = refl

module _ {B : Type 0} (reading : List ℕ → Reading B) where
  -- version 3, whatever else there is
  version_three : (votes snapshots : List Row) → rows_of reading (record { metas = meta 3 ∷ []; votes = votes; snapshots = snapshots }) ≡ Err Version
  version_three votes snapshots = refl

  -- no votes, floor 0
  bare : rows_of reading (record { metas = meta 2 ∷ []; votes = []; snapshots = kept 0 [] ∷ [] }) ≡ Ok (record (bare_rows {B = B} 3) { promised = two })
  bare = refl

  -- no votes, floor 5
  at_a_floor : rows_of reading (record { metas = meta 2 ∷ []; votes = []; snapshots = kept 5 at_five.octets ∷ [] })
      ≡ Ok (record (bare_rows {B = B} 3) { promised = two; snapshot = Some at_five })
  unfolding number_at floor_end
  at_a_floor = refl

  no_row : rows_of reading (record { metas = meta 2 ∷ []; votes = []; snapshots = [] }) ≡ Err Damaged
  no_row = refl

  two_rows : rows_of reading (record { metas = meta 2 ∷ []; votes = []; snapshots = kept 0 [] ∷ kept 0 [] ∷ [] }) ≡ Err Damaged
  two_rows = refl

  floor_too_great : rows_of reading (record { metas = meta 2 ∷ []; votes = []; snapshots = kept 1099511627776 [] ∷ [] }) ≡ Err Damaged
  floor_too_great = refl

  octets_at_none : rows_of reading (record { metas = meta 2 ∷ []; votes = []; snapshots = kept 0 (0 ∷ []) ∷ [] }) ≡ Err Damaged
  octets_at_none = refl

  another_floor : rows_of reading (record { metas = meta 2 ∷ []; votes = []; snapshots = kept 4 at_five.octets ∷ [] }) ≡ Err Damaged
  unfolding number_at floor_end
  another_floor = refl

  -- version 1 in the tables of version 2
  old_version : rows_of reading (record { metas = meta 1 ∷ []; votes = []; snapshots = kept 0 [] ∷ [] }) ≡ Err Damaged
  old_version = refl

-- a vote is above the floor
abbrev cast : {B : Type 0} → ℕ → Entry B → Vote B
cast slot entry = record { slot = slot; ballot = record { round = 2; node = 1 }; entry = entry }

at_the_floor : {B : Type 0} (entry : Entry B) → with_row two 5 [] (cast 5 entry) ≡ None
at_the_floor entry = refl

above_the_floor : {B : Type 0} (entry : Entry B) → with_row two 5 [] (cast 6 entry) ≡ Some (cast 6 entry ∷ [])
above_the_floor entry = refl

-- a change with a snapshot raises the floor; one that repeats or lowers it has no place
abbrev known : ℕ → Numbers
known floor = record { boot = 3; promised = two; floor = floor }

raised : (B : Type 0) → numbers_after (known 0) (snapshot_change {B = B} at_five) ≡ Some (known 5)
unfolding number_at floor_end
raised B = refl

repeated : (B : Type 0) → numbers_after (known 5) (snapshot_change {B = B} at_five) ≡ None
unfolding number_at floor_end
repeated B = refl

lowered : (B : Type 0) → numbers_after (known 6) (snapshot_change {B = B} at_five) ≡ None
unfolding number_at floor_end
lowered B = refl

nothing : (B : Type 0) → numbers_after (known 5) (no_change {B = B}) ≡ Some (known 5)
nothing B = refl
