-- What a keeper over a session holds.
use Rattle.std.specs.Prelude.{◌≡◌, ℕ, List, false, IsTrue, Option}
use Rattle.sqlite_trees.specs.declared.store.Store.{Ghosts}
use Rattle.sqlite.specs.Held.{Held, state}
use Rattle.sqlite.specs.Effect.{Database}
use Rattle.sqlite.specs.State.{State, HasCleanDisk}
use Rattle.paxos_packets.specs.declared.rows.Rows.{Rows}
use Rattle.command_codec.specs.Number.{Reading}
use Rattle.store_rows.specs.declared.rows.Numbers.{Numbers}
use Rattle.acceptor_store.specs.declared.session.Session.{Session}
use Rattle.acceptor_store.specs.Tables.{empty_schema, old_schema}
use Rattle.acceptor_store.specs.Statements.{IsFounded}
use Rattle.acceptor_store.specs.Store.{Kept, Holds, Stores, StoresOld}

-- a sound keeper over this connection, which knows these numbers
abbrev pub keeper_of : {S : Type 0} → Held S → Option Numbers → Kept S
keeper_of conn known = record { conn = conn; known = known; is_failed = false; failures = 0 }

-- what an open commits: for an empty database the store of a node that was never started, and for a store of version 1 one that has the same
-- rows
pub record Readies {B : Type 0} (reading : List ℕ → Reading B) (old : State) (db : Database) : Type 0 where
  pub founded : old.now.schema ≡ empty_schema → IsFounded db
  pub renewed : old.now.schema ≡ old_schema → IsTrue old.is_open → (rows : Rows B) → StoresOld reading old.committed.trees rows → Stores reading db.trees rows

module _ {S : Type 0} (g : Ghosts S) {B : Type 0} (reading : List ℕ → Reading B) where
  -- a keeper over the session holds these rows
  abbrev pub HeldBy : Session S g → Rows B → Type 0
  HeldBy session rows = Holds g reading (keeper_of session.conn session.known) rows

  -- after a call this is so of the rows that were held before it, if the disk has returned what was written
  abbrev pub WhenHeld : Session S g → Session S g → (Rows B → Type 0) → Type 0
  WhenHeld old new P = HasCleanDisk (state g new.conn) → (rows : Rows B) → HeldBy old rows → P rows
