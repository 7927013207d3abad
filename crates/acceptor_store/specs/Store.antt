-- What the trees of a store stand for (docs/CONSENSUS.md, "The store"; Lamport 2001, section 2.5), and what a keeper over them holds and
-- finds.
use Rattle.std.specs.Prelude.{◌≡◌, ◌⊎◌, ◌<◌, ◌≤◌, ℕ, Bool, true, false, IsTrue, ◌==◌, List, [], ◌∷◌, map, Option, Some, None, ⊤}
use Rattle.std.specs.Prelude.{refl}
use Rattle.std.specs.Coded.{Coded, code_by, coded×, coded_ℕ, coded_bool, coded_option}
use Rattle.std.specs.List.{AllByRecursion, IsDistinct}
use Rattle.std.specs.Option.{option_or}
use Rattle.sqlite_value.specs.Order.{Row}
use Rattle.sqlite_rules.specs.Lists.{Has}
use Rattle.sqlite_trees.specs.Tree.{Trees}
use Rattle.sqlite_trees.specs.View.{doubt}
use Rattle.sqlite_trees.specs.declared.store.Store.{Ghosts}
use Rattle.sqlite_catalog.specs.Listing.{IsSound}
use Rattle.sqlite.specs.Effect.{Database}
use Rattle.sqlite.specs.State.{State, HasCleanDisk}
use Rattle.sqlite.specs.Held.{Held, held_code, state}
use Rattle.paxos_packets.specs.Rows.{kept_votes}
use Rattle.paxos_packets.specs.Snapshot.{Snapshot, floor_in}
use Rattle.paxos_packets.specs.Vote.{put_votes}
use Rattle.paxos_packets.specs.declared.ballot.Ballot.{Ballot}
use Rattle.paxos_packets.specs.declared.vote.Vote.{Vote}
use Rattle.paxos_packets.specs.declared.rows.Rows.{Rows}
use Rattle.command_codec.specs.Number.{Reading}
use Rattle.store_rows.specs.declared.rows.Numbers.{Numbers}
use Rattle.store_rows.specs.contracts.rows.Numbers as numbers
use Rattle.acceptor_store.specs.Tables.{store_schema, old_schema, meta_columns, vote_columns, snapshot_columns}
use Rattle.acceptor_store.specs.Statements.{key_of}
use Rattle.store_rows.specs.Numbers.{numbers_in_rows}
use Rattle.store_rows.specs.Rows.{vote_of, is_promised, numbers_of, snapshot_shown}
use Rattle.store_rows.specs.Changes.{is_placed, floor_after}

-- the slots ascend from above `low`
abbrev pub AscendFrom : {B : Type 0} → ℕ → List (Vote B) → Type 0
AscendFrom low [] = ⊤
AscendFrom low (v ∷ vs) = (low < v.slot) × AscendFrom v.slot vs

-- the vote that a row of the tree is
abbrev pub IsVote : {B : Type 0} → (List ℕ → Reading B) → Row → Vote B → Type 0
IsVote reading row v = vote_of reading (vote_columns row) ≡ Some v

-- the rows of the tree are these votes, by ascending slot from above the floor: each is one of them and each of them is there, none comes
-- twice, and none is above the promise
pub record AreVotes {B : Type 0} (reading : List ℕ → Reading B) (promised : Option Ballot) (floor : ℕ) (tree : List Row) (votes : List (Vote B)) : Type 0 where
  pub each : AllByRecursion (λ row. (v : Vote B) × IsVote reading row v × Has votes v) tree
  pub all : AllByRecursion (λ v. (row : Row) × Has tree row × IsVote reading row v) votes
  pub once : IsDistinct (λ m n. m == n) (map key_of tree)
  pub promised_all : AllByRecursion (λ v. is_promised promised v.ballot ≡ true) votes
  pub ascend : AscendFrom floor votes

-- the one row of `meta` has this version and these numbers
abbrev pub HasNumbers : ℕ → List Row → Numbers → Type 0
HasNumbers version tree numbers = (row : Row) × (tree ≡ row ∷ []) × (numbers_of version numbers.floor (meta_columns row) ≡ Some numbers)

-- the one row of `snapshot` has this snapshot, or none
abbrev pub HasSnapshot : List Row → Option Snapshot → Type 0
HasSnapshot tree snapshot = (row : Row) × (tree ≡ row ∷ []) × (snapshot_shown (snapshot_columns row) ≡ Some snapshot)

-- the trees have these rows, whatever tables they list
pub record StandsFor {B : Type 0} (reading : List ℕ → Reading B) (trees : Trees) (rows : Rows B) : Type 0 where
  pub meta : HasNumbers 2 (trees 0) (numbers_in_rows rows)
  pub votes : AreVotes reading rows.promised (floor_in rows.snapshot) (trees 1) rows.votes
  pub snapshot : HasSnapshot (trees 2) rows.snapshot

-- the trees are a store that has these rows
pub record Stores {B : Type 0} (reading : List ℕ → Reading B) (trees : Trees) (rows : Rows B) : Type 0 where
  pub sound : IsSound store_schema trees
  pub has : StandsFor reading trees rows

-- the trees are a store of version 1, which has no place for a snapshot, that has these rows
pub record StoresOld {B : Type 0} (reading : List ℕ → Reading B) (trees : Trees) (rows : Rows B) : Type 0 where
  pub sound : IsSound old_schema trees
  pub meta : HasNumbers 1 (trees 0) (numbers_in_rows rows)
  pub votes : AreVotes reading rows.promised 0 (trees 1) rows.votes
  pub plain : rows.snapshot ≡ None

-- the trees are a store of this version or the one before it, that has these rows
abbrev pub HasStored : {B : Type 0} → (List ℕ → Reading B) → Trees → Rows B → Type 0
HasStored reading trees rows = Stores reading trees rows ⊎ StoresOld reading trees rows

-- the database is a store that has these rows
abbrev pub Reads : {B : Type 0} → (List ℕ → Reading B) → Database → Rows B → Type 0
Reads reading db rows = (db.schema ≡ store_schema) × Stores reading db.trees rows

-- the rows with these numbers, this snapshot, if it is a new one, and these votes
abbrev pub written : {B : Type 0} → Numbers → Option Snapshot → List (Vote B) → Rows B → Rows B
written numbers snapshot votes rows = record rows {
  boot = numbers.boot;
  promised = numbers.promised;
  snapshot = option_or snapshot rows.snapshot;
  votes = put_votes votes (kept_votes snapshot rows.votes);
}

-- the promise is not lowered
abbrev pub NotLowered : Option Ballot → Option Ballot → Type 0
NotLowered old new = (b : Ballot) → is_promised old b ≡ true → is_promised new b ≡ true

-- the boot number and the promise are those of the rows, or are put in their place and lower no promise; the snapshot, if there is a new
-- one, raises the floor to that of the numbers, and is read again
pub record Follows {B : Type 0} (puts : Bool) (rows : Rows B) (numbers : Numbers) (snapshot : Option Snapshot) : Type 0 where
  pub same : puts ≡ false → (numbers.boot ≡ rows.boot) × (numbers.promised ≡ rows.promised)
  pub up : NotLowered rows.promised numbers.promised
  pub floor : floor_after (floor_in rows.snapshot) snapshot ≡ Some numbers.floor

-- the numbers, the snapshot and the votes are written over any rows that the database may have had
abbrev pub Wrote : {B : Type 0} → (List ℕ → Reading B) → Bool → Numbers → Option Snapshot → List (Vote B) → Database → Database → Type 0
Wrote {B} reading puts numbers snapshot votes old new =
    (rows : Rows B) → Reads reading old rows → Follows puts rows numbers snapshot
    → AllByRecursion (λ v. is_placed numbers.promised numbers.floor v ≡ true) votes → Reads reading new (written numbers snapshot votes rows)

-- the transaction goes on, and what was done in it, if anything, shows that the connection was open
abbrev pub GoesOn : Type 0 → State → State → Type 0
GoesOn Something old new = IsTrue new.in_transaction × (Something → IsTrue old.is_open)

-- whatever a crash leaves is a store that has these rows
abbrev pub Leaves : {B : Type 0} → (List ℕ → Reading B) → State → Rows B → Type 0
Leaves reading s rows = (trees : Trees) → s.may_leave trees → Stores reading trees rows

-- what callers see of a keeper: its connection, and the numbers that it has read or written
pub record Kept (S : Type 0) : Type 0 where
  pub conn : Held S
  pub known : Option Numbers
  pub is_failed : Bool
  -- how often the connection refused a call for another cause than memory
  pub failures : ℕ

abbrev pub kept_code : {S : Type 0} → Coded S → Coded (Kept S)
kept_code {S} store =
    code_by (Held S × (Option Numbers × (Bool × ℕ)))
    (coded× (held_code store) (coded× (coded_option numbers.the_row.coded) (coded× coded_bool coded_ℕ)))
    (λ k. (k.conn, (k.known, (k.is_failed, k.failures))))
    (λ p. record { conn = p.0; known = p.1.0; is_failed = p.1.1.0; failures = p.1.1.1 })
    (λ _. refl)

abbrev pub Agrees : {B : Type 0} → Option Numbers → Rows B → Type 0
Agrees None rows = ⊤
Agrees (Some numbers) rows = numbers ≡ numbers_in_rows rows

module _ {S : Type 0} (g : Ghosts S) {B : Type 0} (reading : List ℕ → Reading B) where
  -- whatever is found when the store is opened again is these rows, if the disk has returned what was written
  abbrev pub Holds : Kept S → Rows B → Type 0
  Holds k rows =
      HasCleanDisk (state g k.conn) → Leaves reading (state g k.conn) rows × Agrees k.known rows

  -- stopped at this moment, a store that is opened again may find these rows
  abbrev pub Finds : Kept S → Rows B → Type 0
  Finds k rows = HasCleanDisk (state g k.conn) × ((trees : Trees) × (state g k.conn).may_leave trees × Stores reading trees rows)

  -- stopped at this moment, a store that is opened again finds rows, if the disk has returned what was written
  abbrev pub LeavesRows : Kept S → Type 0
  LeavesRows k = HasCleanDisk (state g k.conn) → (trees : Trees) → (state g k.conn).may_leave trees → (rows : Rows B) × Stores reading trees rows

  -- a crash leaves what it left before, or a store that has these rows
  pub record LeavesOr (old new : Held S) (next : Rows B) : Type 0 where
    pub clean : doubt (state g old).is_clean ≤ doubt (state g new).is_clean
    pub crash : HasCleanDisk (state g new) → (trees : Trees) → (state g new).may_leave trees → (state g old).may_leave trees ⊎ Stores reading trees next
