-- What the statements of the store make of a database.
use Rattle.std.specs.Prelude.{◌≡◌, ◌≢◌, ◌⊎◌, ℕ, pos, nat_lt, Bool, List, [], ◌∷◌, ◌++◌, map, filter, Option, Some, None, unwrap_or, IsPermutation}
use Rattle.sqlite_value.specs.declared.value.Value.TheVariants.{Int}
use Rattle.sqlite_value.specs.Order.{Row}
use Rattle.sqlite_trees.specs.Tree.{Trees, rowid}
use Rattle.sqlite_schema.specs.declared.schema.Table.{Table}
use Rattle.sqlite_schema.specs.declared.schema.Schema.{Schema}
use Rattle.sqlite_catalog.specs.Listing.{IsSound}
use Rattle.sqlite_catalog.specs.Change.{KeepsRows}
use Rattle.sqlite.specs.Effect.{Database}
use Rattle.paxos_packets.specs.declared.ballot.Ballot.{Ballot}
use Rattle.store_rows.specs.Rows.{TableRows, number}
use Rattle.acceptor_store.specs.Tables.{schema_of, store_schema, meta_row, snapshot_row, meta_columns, vote_columns, snapshot_columns}

-- no promise is round 0 and node 0
abbrev pub round_of : Option Ballot → ℕ
round_of None = 0
round_of (Some b) = b.round

abbrev pub node_of : Option Ballot → ℕ
node_of None = 0
node_of (Some b) = b.node

-- the number that a row goes by
abbrev pub key_of : Row → ℕ
key_of row = unwrap_or (number (rowid row)) 0

-- no row, or one row with this rowid
abbrev pub HasAtMost : ℕ → List Row → Type 0
HasAtMost k tree = (tree ≡ []) ⊎ ((row : Row) × (tree ≡ row ∷ []) × (rowid row ≡ Int (pos k)))

-- a table is made after these, and is empty
pub record Makes (tables : List Table) (table : Table) (old new : Database) : Type 0 where
  pub schema : new.schema ≡ schema_of (tables ++ table ∷ [])
  pub empty : new.trees table.tree ≡ []
  pub others : KeepsRows tables old.trees new.trees

-- the schema is this one, and each tree but one is as it was
pub record Edits (known : Schema) (tree : ℕ) (old new : Database) : Type 0 where
  pub schema : new.schema ≡ known
  pub sound : IsSound known new.trees
  pub others : (other : ℕ) → other ≢ tree → new.trees other ≡ old.trees other

-- and that one has this row alone
pub record PutsAlone (known : Schema) (tree : ℕ) (row : Row) (old new : Database) : Type 0 where
  pub edits : Edits known tree old new
  pub alone : new.trees tree ≡ row ∷ []

-- the rows of the trees as they are shown, and rows that are these in any order
abbrev pub shown_in : Trees → TableRows
shown_in trees = record {
  metas = map meta_columns (trees 0);
  votes = map vote_columns (trees 1);
  snapshots = map snapshot_columns (trees 2);
}

pub record AreShown (trees : Trees) (rows : TableRows) : Type 0 where
  pub metas : IsPermutation (shown_in trees).metas rows.metas
  pub votes : IsPermutation (shown_in trees).votes rows.votes
  pub snapshots : IsPermutation (shown_in trees).snapshots rows.snapshots

-- the rows of a tree that pass a test are left
pub record Keeps (known : Schema) (tree : ℕ) (test : Row → Bool) (old new : Database) : Type 0 where
  pub edits : Edits known tree old new
  pub left : new.trees tree ≡ filter test (old.trees tree)

-- the row's number is above this one
abbrev pub is_above : ℕ → Row → Bool
is_above floor row = nat_lt floor (key_of row)

-- the store of a node that was never started
pub record IsFounded (db : Database) : Type 0 where
  pub schema : db.schema ≡ store_schema
  pub sound : IsSound store_schema db.trees
  pub meta : db.trees 0 ≡ meta_row 0 0 0 ∷ []
  pub votes : db.trees 1 ≡ []
  pub snapshot : db.trees 2 ≡ snapshot_row 0 [] ∷ []
