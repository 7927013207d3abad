-- What a keeper over the two files of a database holds, by what they held as they were opened.
use Rattle.std.specs.Prelude.{◌≡◌, ℕ, List, []}
use Rattle.sqlite_disk.specs.declared.Disk.{Ghosts}
use Rattle.sqlite_disk.specs.declared.start.Start as start
use Rattle.sqlite_wal.specs.Recovery.{Image}
use Rattle.sqlite_wal.specs.Files.{image_at}
use Rattle.sqlite_trees.specs.Tree.{Trees}
use Rattle.sqlite_store.specs.declared.store.FileStore.{FileStore}
use Rattle.sqlite.specs.Files.{HoldsDatabase, over_files}
use Rattle.paxos_packets.specs.declared.rows.Rows.{Rows}
use Rattle.command_codec.specs.Number.{Reading}
use Rattle.store_keeper.specs.Keeper.{no_rows}
use Rattle.acceptor_store.specs.Store.{Kept, HasStored, Holds}

module _ {D : Type 0} {g : Ghosts D} {B : Type 0} (reading : List ℕ → Reading B) where
  pub record HoldsImage (image : Image) (k : Kept (FileStore D g)) : Type 0 where
    -- if they held a store, of this version or the one before it, that has these rows, they are held
    pub stored : (db : Trees) → HoldsDatabase image db → (rows : Rows B) → HasStored reading db rows → Holds over_files reading k rows
    -- if the database file was empty, no boot, no promise and no vote
    pub nothing : image.db ≡ [] → Holds over_files reading k no_rows

  -- the same of files that are opened by a `Start`
  abbrev pub HoldsFrom : {S : Type 0} → start.Ghosts S → Kept (FileStore D g) → Type 0
  HoldsFrom first k = HoldsImage (image_at first) k
