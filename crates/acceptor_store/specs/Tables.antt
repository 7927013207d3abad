-- The tables of the store, version 2 (docs/CONSENSUS.md, "The store"), those of version 1, and the statements on them.
use Rattle.std.specs.Prelude.{ℕ, pos, Bool, true, false, List, [], ◌∷◌, Some, codes}
use Rattle.sqlite_value.specs.declared.keys.Collation.TheVariants.{Binary}
use Rattle.sqlite_value.specs.declared.value.Value.TheVariants.{Null, Int, Blob as Octets}
use Rattle.sqlite_value.specs.Order.{Row, column}
use Rattle.sqlite_schema.specs.declared.schema.Kind.{Kind}
use Rattle.sqlite_schema.specs.declared.schema.Kind.TheVariants.{Integer, Blob}
use Rattle.sqlite_schema.specs.declared.schema.Column.{Column}
use Rattle.sqlite_schema.specs.declared.schema.Table.{Table}
use Rattle.sqlite_schema.specs.declared.schema.Schema.{Schema}

-- a column of a STRICT table
abbrev pub column_of : List ℕ → Kind → Bool → Column
column_of name kind not_null =
    record { name = name; kind = kind; is_strict = true; not_null = not_null; default = Null; collation = Binary }

-- a table whose first column is the rowid, and which has no other rule
abbrev pub table_of : List ℕ → ℕ → List Column → Table
table_of name tree columns = record {
  name = name;
  tree = tree;
  columns = columns;
  key = Some 0;
  primary = 0 ∷ [];
  uniques = [];
  orders = [];
  checks = [];
  references = [];
  computed = [];
  stamps = record { places = []; terms = []; formats = [] };
  is_counted = false;
}

-- one row: the store's version, the boot number, and the promise
abbrev pub meta_table : Table
meta_table = table_of (codes "meta") 0
    (column_of (codes "k") Integer false ∷ column_of (codes "version") Integer true ∷ column_of (codes "boot") Integer true
    ∷ column_of (codes "round") Integer true ∷ column_of (codes "node") Integer true ∷ [])

-- a row for each vote
abbrev pub vote_table : Table
vote_table = table_of (codes "vote") 1
    (column_of (codes "slot") Integer false ∷ column_of (codes "round") Integer true ∷ column_of (codes "node") Integer true
    ∷ column_of (codes "entry") Blob true ∷ [])

-- one row: the floor, and the octets of the snapshot at it
abbrev pub snapshot_table : Table
snapshot_table = table_of (codes "snapshot") 2
    (column_of (codes "k") Integer false ∷ column_of (codes "floor") Integer true ∷ column_of (codes "bytes") Blob true ∷ [])

-- the tables of version 1
abbrev pub old_tables : List Table
old_tables = meta_table ∷ vote_table ∷ []

abbrev pub store_tables : List Table
store_tables = meta_table ∷ vote_table ∷ snapshot_table ∷ []

-- a schema that has these tables, and nothing else
abbrev pub schema_of : List Table → Schema
schema_of tables = record { tables = tables; indexes = []; views = [] }

abbrev pub store_schema : Schema
store_schema = schema_of store_tables

-- that of version 1
abbrev pub old_schema : Schema
old_schema = schema_of old_tables

abbrev pub empty_schema : Schema
empty_schema = schema_of []

abbrev pub create_meta_text : List ℕ
create_meta_text = codes "CREATE TABLE meta (k INTEGER PRIMARY KEY, version INTEGER NOT NULL, boot INTEGER NOT NULL, round INTEGER NOT NULL, node INTEGER NOT NULL) STRICT"

abbrev pub create_vote_text : List ℕ
create_vote_text = codes "CREATE TABLE vote (slot INTEGER PRIMARY KEY, round INTEGER NOT NULL, node INTEGER NOT NULL, entry BLOB NOT NULL) STRICT"

abbrev pub create_snapshot_text : List ℕ
create_snapshot_text = codes "CREATE TABLE snapshot (k INTEGER PRIMARY KEY, floor INTEGER NOT NULL, bytes BLOB NOT NULL) STRICT"

abbrev pub put_meta_text : List ℕ
put_meta_text = codes "INSERT OR REPLACE INTO meta VALUES (1, 2, ?1, ?2, ?3)"

abbrev pub put_vote_text : List ℕ
put_vote_text = codes "INSERT OR REPLACE INTO vote VALUES (?1, ?2, ?3, ?4)"

abbrev pub put_snapshot_text : List ℕ
put_snapshot_text = codes "INSERT OR REPLACE INTO snapshot VALUES (1, ?1, ?2)"

-- the votes up to a slot
abbrev pub delete_votes_text : List ℕ
delete_votes_text = codes "DELETE FROM vote WHERE slot <= ?1"

abbrev pub read_meta_text : List ℕ
read_meta_text = codes "SELECT k, version, boot, round, node FROM meta"

abbrev pub read_votes_text : List ℕ
read_votes_text = codes "SELECT slot, round, node, entry FROM vote ORDER BY slot"

abbrev pub read_snapshot_text : List ℕ
read_snapshot_text = codes "SELECT k, floor, bytes FROM snapshot"

-- rows as they are stored: the rowid is before the columns, and its own column is NULL
abbrev pub meta_row : ℕ → ℕ → ℕ → Row
meta_row boot round node = Int (pos 1) ∷ Null ∷ Int (pos 2) ∷ Int (pos boot) ∷ Int (pos round) ∷ Int (pos node) ∷ []

abbrev pub vote_row : ℕ → ℕ → ℕ → List ℕ → Row
vote_row slot round node entry = Int (pos slot) ∷ Null ∷ Int (pos round) ∷ Int (pos node) ∷ Octets entry ∷ []

abbrev pub snapshot_row : ℕ → List ℕ → Row
snapshot_row floor octets = Int (pos 1) ∷ Null ∷ Int (pos floor) ∷ Octets octets ∷ []

-- and as they are shown
abbrev pub meta_columns : Row → Row
meta_columns row = column row 0 ∷ column row 2 ∷ column row 3 ∷ column row 4 ∷ column row 5 ∷ []

abbrev pub vote_columns : Row → Row
vote_columns row = column row 0 ∷ column row 2 ∷ column row 3 ∷ column row 4 ∷ []

abbrev pub snapshot_columns : Row → Row
snapshot_columns row = column row 0 ∷ column row 2 ∷ column row 3 ∷ []
