-- Which faults a load and a commit return, beside those of memory and of the connection.
use Rattle.std.specs.Prelude.{◌≡◌, ◌⊎◌, IsErrOf, Bool, true, ◌&&◌, ⊤, ℕ, List, map, Option, is_some, Result, Ok, Err}
use Rattle.std.specs.List.{list_all}
use Rattle.sqlite_trees.specs.Tree.{Trees}
use Rattle.sqlite.specs.Effect.{Database}
use Rattle.paxos_packets.specs.declared.vote.Vote.{Vote}
use Rattle.paxos_packets.specs.declared.rows.Change.{Change}
use Rattle.paxos_packets.specs.declared.rows.Rows.{Rows}
use Rattle.command_codec.specs.Number.{Reading}
use Rattle.command_codec.specs.Entry.{entry_spelling}
use Rattle.store_keeper.specs.declared.fault.KeeperFault.{KeeperFault}
use Rattle.store_keeper.specs.declared.fault.KeeperFault.TheVariants.{Store, Damaged, Version, Memory, Failed, Boots}
use Rattle.store_rows.specs.declared.rows.Numbers.{Numbers}
use Rattle.acceptor_store.specs.Tables.{store_schema, old_schema, meta_columns}
use Rattle.acceptor_store.specs.Statements.{shown_in}
use Rattle.store_rows.specs.Rows.{is_other_version, rows_of}
use Rattle.store_rows.specs.Changes.{numbers_after}

-- what the rows of the trees read as
abbrev pub stored_in : {B : Type 0} → (List ℕ → Reading B) → Trees → Result (Rows B) KeeperFault
stored_in reading trees = rows_of reading (shown_in trees)

-- a load of this database gives these rows
abbrev pub Gives : {B : Type 0} → (List ℕ → Reading B) → Database → Rows B → Type 0
Gives reading db rows = (db.schema ≡ store_schema) × (stored_in reading db.trees ≡ Ok rows)

-- the version is another, by what `meta` has, in the tables of this version or the one before it
abbrev pub HasOtherVersion : Database → Type 0
HasOtherVersion db = ((db.schema ≡ store_schema) ⊎ (db.schema ≡ old_schema)) × (is_other_version (map meta_columns (db.trees 0)) ≡ true)

-- a load of this database returns this fault: that the version is another, or that the rows are damaged, exactly if they are so; tables of
-- another shape are damage, and so are those of the version before this one, which are migrated if a store is opened
abbrev pub Tells : {B : Type 0} → (List ℕ → Reading B) → Database → KeeperFault → Type 0
Tells reading db Version = HasOtherVersion db
Tells reading db Damaged = (¬ HasOtherVersion db) × (db.schema ≡ store_schema → stored_in reading db.trees ≡ Err Damaged)
Tells reading db Boots = ⊥
Tells reading db Store = ⊤
Tells reading db Memory = ⊤
Tells reading db Failed = ⊤

-- each entry has a spelling
abbrev pub are_spelled : {B : Type 0} → (B → Option (List ℕ)) → List (Vote B) → Bool
are_spelled spelling votes = list_all (λ v. is_some (entry_spelling spelling v.entry)) votes

-- the change has a place over these numbers: no promise is lowered, no floor is lowered or repeated, no number is out of range, no vote is
-- above the promise or not above the floor, and no entry is without a spelling
abbrev pub has_place : {B : Type 0} → (B → Option (List ℕ)) → Numbers → Change B → Bool
has_place spelling numbers change = is_some (numbers_after numbers change) && are_spelled spelling change.votes

-- what is stored was read, and is not rows of this version
abbrev pub IsUnfit : {A : Type 0} → Result A KeeperFault → Type 0
IsUnfit result = IsErrOf result Damaged ⊎ IsErrOf result Version

-- damage is reported for this cause alone, and another version never
abbrev pub Refuses : Type 0 → KeeperFault → Type 0
Refuses cause Damaged = cause
Refuses cause Version = ⊥
Refuses cause Boots = ⊥
Refuses cause Store = ⊤
Refuses cause Memory = ⊤
Refuses cause Failed = ⊤
