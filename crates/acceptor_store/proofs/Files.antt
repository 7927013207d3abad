-- What the next run finds in the files of a store.
use Rattle.std.proofs.Common.{◌≡◌, ◌<◌, ◌≤◌, ℕ, inl, inr, List, [], ◌∷◌, length, IsTrue, refl, ap, sym, subst, ◌∙◌, arith}
use Rattle.std.specs.List.{AllZip}
use Rattle.std.proofs.Math.Logic.{∥∥₁_map}
use Rattle.sqlite_disk.specs.declared.Disk.{Ghosts}
use Rattle.sqlite_wal.specs.Recovery.{Image}
use Rattle.sqlite_value.specs.Order.{Row}
use Rattle.sqlite_trees.specs.Tree.{Trees}
use Rattle.sqlite_trees.specs.View.{doubt}
use Rattle.sqlite_trees.specs.Objects.{catalog_tree}
use Rattle.sqlite_schema.specs.declared.schema.Schema.{Schema}
use Rattle.sqlite_catalog.specs.Listing.{AreListed, IsTableRow, IsIndexRow, IsViewRow, IsSound}
use Rattle.sqlite_store.specs.declared.store.FileStore.{FileStore}
use Rattle.sqlite_store.specs.FileStore as files
use Rattle.sqlite.specs.Effect.{Database}
use Rattle.sqlite.specs.State.{State, IsLive, HasCleanDisk}
use Rattle.sqlite.specs.Held.{Held}
use Rattle.sqlite.specs.Files.{AreFoundIn, IsOpened, file_state, over_files}
use Rattle.sqlite.specs.Start.{FindsIn}
use Rattle.sqlite.proofs.Theorems.{next_run}
use Rattle.paxos_packets.specs.declared.rows.Rows.{Rows}
use Rattle.command_codec.specs.Number.{Reading}
use Rattle.store_keeper.specs.Keeper.{no_rows}
use Rattle.acceptor_store.specs.Tables.{empty_schema}
use Rattle.acceptor_store.specs.Store.{Kept, HasStored, Holds}
use Rattle.acceptor_store.specs.Files.{HoldsImage}
use Rattle.acceptor_store.proofs.Calling.{earlier}

-- what each database that a crash leaves is, so is the one that is found
pub found_left : {D : Type 0} {g : Ghosts D} (it : FileStore D g) (known : Schema) (P : Trees → Type 0) → IsTrue (files.view it).is_numbered
    → ((trees : Trees) → files.recovers it trees → IsSound known trees × P trees)
    → (left : Image) → (files.state it).may_leave left → (opened : State) → FindsIn left opened → ∥ P opened.committed.trees ∥₁
found_left it known P numbered made left may opened found =
    ∥∥₁_map (next_run it numbered (λ trees r. (known, (made trees r).0)) left may opened found) (λ r. (made opened.committed.trees r).1)

zip_nil : {A C : Type 0} (P : A → C → Type 0) (ys : List C) → AllZip P [] ys → ys ≡ []
zip_nil P [] h = refl
zip_nil P (y ∷ ys) h = absurd h

-- an empty list of objects lists no schema but the empty one
lists_none : (objects : List Row) (schema : Schema) → objects ≡ [] → AreListed objects schema → schema ≡ empty_schema
lists_none objects schema none listed =
    let l = subst (λ os. AreListed os schema) none listed in
    let tables = zip_nil {A = Row} IsTableRow schema.tables l.tables in
    let indexes = zip_nil {A = Row} (IsIndexRow schema.tables) schema.indexes l.indexes in
    let views = zip_nil {A = Row} IsViewRow schema.views l.views in
    λ i. record { tables = tables i; indexes = indexes i; views = views i }

-- an empty file is opened as an empty database
pub empty_found : (image : Image) (s : State) → image.db ≡ [] → IsLive s → s.now ≡ s.committed → IsTrue s.is_open → FindsIn image s → s.now.schema ≡ empty_schema
empty_found image s none live settled is_open found = go found.reads
  where
    go : AreFoundIn image s.committed.trees → s.now.schema ≡ empty_schema
    go (inl kept) = let some : 0 < length image.db = kept.3.found.present in let nil : length image.db ≡ 0 = ap length none in absurd (omega arith)
    go (inr blank) =
        lists_none _ s.now.schema (ap (λ (d : Database). d.trees catalog_tree) settled ∙ blank.1.1) (live is_open).0.lists.listed

-- a keeper that is opened over files holds what they held
pub holds_image : {D : Type 0} {g : Ghosts D} {B : Type 0} (reading : List ℕ → Reading B) (image : Image) (conn : Held (FileStore D g)) (k : Kept (FileStore D g))
    → (HasCleanDisk (file_state conn) → IsOpened conn) → (HasCleanDisk (file_state conn) → FindsIn image (file_state conn))
    → doubt (file_state conn).is_clean ≤ doubt (file_state k.conn).is_clean
    → (conn.schema ≡ empty_schema → Holds over_files reading k no_rows)
    → ((rows : Rows B) → IsTrue (file_state conn).is_open → HasStored reading (file_state conn).committed.trees rows → Holds over_files reading k rows)
    → HoldsImage reading image k
holds_image reading image conn k opened found less founded again = record {
  stored = λ db held rows stores clean.
      let now = earlier over_files conn k.conn less clean in
      again rows (opened now).0.is_open (subst (λ trees. HasStored reading trees rows) (sym ((found now).holds db held)) stores) clean;
  nothing = λ none clean.
      let now = earlier over_files conn k.conn less clean in
      let is = opened now in
      founded (empty_found image (file_state conn) none is.1 is.0.clean is.0.is_open (found now)) clean;
}
