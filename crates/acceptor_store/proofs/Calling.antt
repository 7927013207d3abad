-- What is held and found after the calls of a keeper.
use Rattle.std.proofs.Common.{◌≡◌, ◌⊎◌, inl, inr, ⊎_elim, ℕ, ◌≤◌, true, length, List, [], Option, Some, None, refl, sym, ap, subst, ◌∙◌, arith, IsTrue}
use Rattle.std.specs.Prelude.{IfSome, IsPermutation, map}
use Rattle.std.specs.Option.{option_or}
use Rattle.sqlite_value.specs.Order.{Row}
use Rattle.sqlite_trees.specs.Tree.{Trees}
use Rattle.sqlite_trees.specs.View.{doubt}
use Rattle.sqlite_trees.specs.declared.store.Store.{Ghosts}
use Rattle.sqlite_catalog.specs.Listing.{IsSound}
use Rattle.sqlite_catalog.proofs.ReadLemmas.{lists_once}
use Rattle.sqlite_schema.specs.declared.schema.Schema.{Schema}
use Rattle.sqlite.specs.Effect.{Database}
use Rattle.sqlite.specs.Held.{Held, state}
use Rattle.sqlite.specs.State.{State, HasCleanDisk, IsLive, IsUnchanged, Survives}
use Rattle.sqlite.proofs.StateLemmas.{survives_then, survives_weaker}
use Rattle.paxos_packets.specs.Rows.{raised, kept_votes}
use Rattle.paxos_packets.specs.Snapshot.{floor_in}
use Rattle.paxos_packets.specs.Vote.{put_votes}
use Rattle.paxos_packets.specs.declared.rows.Change.{Change}
use Rattle.paxos_packets.specs.declared.rows.Rows.{Rows}
use Rattle.paxos_acceptor.specs.Acceptor.{adopted}
use Rattle.command_codec.specs.Number.{Reading}
use Rattle.store_keeper.specs.Keeper.{no_rows}
use Rattle.store_rows.specs.declared.rows.Numbers.{Numbers}
use Rattle.acceptor_store.specs.Tables.{store_schema, old_schema, empty_schema, meta_columns}
use Rattle.acceptor_store.specs.Statements.{IsFounded}
use Rattle.acceptor_store.specs.Store.{Stores, StoresOld, HasStored, AreVotes, Reads, Leaves, Holds, Finds, LeavesRows, LeavesOr, written, NotLowered, Follows}
use Rattle.store_rows.specs.Numbers.{numbers_in_rows, are_numbers}
use Rattle.store_rows.specs.Rows.{numbers_in}
use Rattle.store_rows.specs.Changes.{floor_after}
use Rattle.acceptor_store.specs.Once.{stored_once}
use Rattle.acceptor_store.specs.Calls.{keeper_of, Readies}
use Rattle.acceptor_store.proofs.Keeping.{reads_left, leaves_on}
use Rattle.acceptor_store.proofs.Changing.{Places}
use Rattle.acceptor_store.proofs.Meaning.{numbers_loaded}
use Rattle.acceptor_store.proofs.Writing.{none_read}
use Rattle.std.specs.List.{IsDistinct}

-- opening

founded_stores : {B : Type 0} (reading : List ℕ → Reading B) (db : Database) → IsFounded db → Stores reading db.trees no_rows
unfolding IsDistinct
founded_stores {B} reading db is = record {
  sound = is.sound;
  has = record {
    meta = (_, is.meta, refl);
    votes = subst (λ tree. AreVotes reading None 0 tree []) (sym is.votes) (record { each = tt; all = tt; once = tt; promised_all = tt; ascend = tt });
    snapshot = (_, is.snapshot, none_read);
  };
}

pub founded_left : {B : Type 0} (reading : List ℕ → Reading B) (s : State) → ((trees : Trees) → s.may_leave trees → trees ≡ s.committed.trees) → IsFounded s.committed
    → Leaves reading s no_rows
founded_left reading s crash is = reads_left reading s no_rows crash (founded_stores reading s.committed is)

-- the schema of an open connection whose committed trees are sound for it
pub is_listed : (s : State) (schema : Schema) → IsLive s → s.now ≡ s.committed → IsTrue s.is_open → IsSound schema s.committed.trees → s.now.schema ≡ schema
is_listed s schema live settled is_open sound =
    ap (λ (d : Database). d.schema) settled ∙ lists_once _ s.committed.schema schema (live is_open).1.lists sound.lists

-- the tables of version 1 are some
pub not_both : empty_schema ≡ old_schema → ⊥
not_both e = let tables = ap (λ (s : Schema). length s.tables) e in absurd (omega (arith, tables))

-- a store of version 1 or 2 that has rows is not empty, and one of version 2 is not one of version 1
pub not_empty : {B : Type 0} (reading : List ℕ → Reading B) (s : State) (rows : Rows B) → IsLive s → s.now ≡ s.committed → IsTrue s.is_open → s.now.schema ≡ empty_schema
    → HasStored reading s.committed.trees rows → ⊥
not_empty reading s rows live settled is_open none (inl stores) =
    let both : empty_schema ≡ store_schema = sym none ∙ is_listed s store_schema live settled is_open stores.sound in
    let tables = ap (λ (t : Schema). length t.tables) both in
    absurd (omega (arith, tables))
not_empty reading s rows live settled is_open none (inr stores) =
    not_both (sym none ∙ is_listed s old_schema live settled is_open stores.sound)

-- in the tables of version 1 a store is one of version 1
pub is_old : {B : Type 0} (reading : List ℕ → Reading B) (s : State) (rows : Rows B) → IsLive s → s.now ≡ s.committed → IsTrue s.is_open → s.now.schema ≡ old_schema
    → HasStored reading s.committed.trees rows → StoresOld reading s.committed.trees rows
is_old reading s rows live settled is_open old (inl stores) =
    let both : old_schema ≡ store_schema = sym old ∙ is_listed s store_schema live settled is_open stores.sound in
    let tables = ap (λ (t : Schema). length t.tables) both in
    absurd (omega (arith, tables))
is_old reading s rows live settled is_open old (inr stores) = stores

-- the numbers that rows of `meta` show are those of the rows that a store of version 1 has
old_numbers_are : {B : Type 0} (reading : List ℕ → Reading B) (db : Database) (rows : Rows B) (metas : List Row) → StoresOld reading db.trees rows
    → IsPermutation (map meta_columns (db.trees 0)) metas → numbers_in 1 0 metas ≡ Some (numbers_in_rows rows)
old_numbers_are reading db rows metas has shown =
    subst (λ floor. numbers_in 1 floor metas ≡ Some (numbers_in_rows rows)) (ap floor_in has.plain)
    (numbers_loaded 1 (db.trees 0) metas (numbers_in_rows rows) shown has.meta)

-- and in other tables it is one of this version
pub is_new : {B : Type 0} (reading : List ℕ → Reading B) (s : State) (rows : Rows B) → IsLive s → s.now ≡ s.committed → IsTrue s.is_open → (s.now.schema ≡ old_schema → ⊥)
    → HasStored reading s.committed.trees rows → Stores reading s.committed.trees rows
is_new reading s rows live settled is_open other (inl stores) = stores
is_new reading s rows live settled is_open other (inr stores) = absurd (other (is_listed s old_schema live settled is_open stores.sound))

pub old_numbers_is : {B : Type 0} (reading : List ℕ → Reading B) (db : Database) (rows : Rows B) (metas : List Row) (n : Numbers) → StoresOld reading db.trees rows
    → IsPermutation (map meta_columns (db.trees 0)) metas → numbers_in 1 0 metas ≡ Some n → n ≡ numbers_in_rows rows
old_numbers_is reading db rows metas n has shown h =
    let both : Some n ≡ Some (numbers_in_rows rows) = sym h ∙ old_numbers_are reading db rows metas has shown in cc

pub old_numbers_some : {B : Type 0} (reading : List ℕ → Reading B) (db : Database) (rows : Rows B) (metas : List Row) → StoresOld reading db.trees rows
    → IsPermutation (map meta_columns (db.trees 0)) metas → numbers_in 1 0 metas ≡ None → ⊥
old_numbers_some reading db rows metas has shown h =
    let both : None ≡ Some (numbers_in_rows rows) = sym h ∙ old_numbers_are reading db rows metas has shown in absurd cc

-- what a migration commits of the rows that a store of version 1 has, if it writes these numbers
abbrev pub Renews : {B : Type 0} → (List ℕ → Reading B) → (Rows B → Type 0) → State → Trees → Type 0
Renews {B} reading Fit old trees =
    (db : Database) × (IsTrue old.is_open → (rows : Rows B) → StoresOld reading old.committed.trees rows → Fit rows → Stores reading db.trees rows) × (trees ≡ db.trees)

pub renew_survives : {B : Type 0} (reading : List ℕ → Reading B) (Fit : Rows B → Type 0) (old new : State) → IsLive old → (IsTrue old.is_open → old.now ≡ old.committed)
    → Survives old new (λ trees. (db : Database)
    × (old.now.schema ≡ old_schema → (rows : Rows B) → StoresOld reading old.now.trees rows → Fit rows → Reads reading db rows) × (trees ≡ db.trees))
    → Survives old new (Renews reading Fit old)
renew_survives {B} reading Fit old new live settled survives =
    survives_weaker old new
    (λ trees. (db : Database) × (old.now.schema ≡ old_schema → (rows : Rows B) → StoresOld reading old.now.trees rows → Fit rows → Reads reading db rows) × (trees ≡ db.trees))
    (Renews reading Fit old)
    (λ clean trees it. (
      it.0,
      (λ is_open rows stores fit.
          (it.1 (is_listed old old_schema live (settled is_open) is_open stores.sound) rows
          (subst (λ (d : Database). StoresOld reading d.trees rows) (sym (settled is_open)) stores) fit).1),
      it.2,
    ))
    survives

-- after a query that showed the numbers
pub renew_then : {B : Type 0} (reading : List ℕ → Reading B) (Fit : Rows B → Type 0) (old mid new : State) → (HasCleanDisk mid → IsUnchanged old mid)
    → (HasCleanDisk mid → IsTrue old.is_open → (rows : Rows B) → StoresOld reading old.committed.trees rows → Fit rows) → Survives old mid (λ _. ⊥)
    → Survives mid new (Renews reading Fit mid)
    → Survives old new (λ trees. (db : Database) × (IsTrue old.is_open → (rows : Rows B) → StoresOld reading old.committed.trees rows → Stores reading db.trees rows) × (trees ≡ db.trees))
renew_then {B} reading Fit old mid new same fits first last =
    survives_then old mid new (λ _. ⊥) (Renews reading Fit mid)
    (λ trees. (db : Database) × (IsTrue old.is_open → (rows : Rows B) → StoresOld reading old.committed.trees rows → Stores reading db.trees rows) × (trees ≡ db.trees))
    (λ clean trees none. absurd none)
    (λ clean trees it.
    let early : HasCleanDisk mid = omega (arith, last.clean) in
    let kept = (same early).0 in (
      it.0,
      (λ is_open rows stores.
          it.1 kept.is_open rows (subst (λ (d : Database). StoresOld reading d.trees rows) (sym kept.committed_is) stores) (fits early is_open rows stores)),
      it.2,
    ))
    first last

-- what an open leaves, by the tables that it finds

pub readies_founded : {B : Type 0} (reading : List ℕ → Reading B) (old new : State) → old.now.schema ≡ empty_schema
    → Survives old new (λ trees. (db : Database) × (old.now.schema ≡ empty_schema → IsFounded db) × (trees ≡ db.trees))
    → Survives old new (λ trees. (db : Database) × Readies reading old db × (trees ≡ db.trees))
readies_founded {B} reading old new none survives =
    survives_weaker old new (λ trees. (db : Database) × (old.now.schema ≡ empty_schema → IsFounded db) × (trees ≡ db.trees))
    (λ trees. (db : Database) × Readies reading old db × (trees ≡ db.trees))
    (λ clean trees it. (it.0, record { founded = it.1; renewed = λ is. absurd (not_both (sym none ∙ is)) }, it.2)) survives

pub readies_renewed : {B : Type 0} (reading : List ℕ → Reading B) (old new : State) → old.now.schema ≡ old_schema
    → Survives old new (λ trees. (db : Database) × (IsTrue old.is_open → (rows : Rows B) → StoresOld reading old.committed.trees rows → Stores reading db.trees rows) × (trees ≡ db.trees))
    → Survives old new (λ trees. (db : Database) × Readies reading old db × (trees ≡ db.trees))
readies_renewed {B} reading old new is survives =
    survives_weaker old new
    (λ trees. (db : Database) × (IsTrue old.is_open → (rows : Rows B) → StoresOld reading old.committed.trees rows → Stores reading db.trees rows) × (trees ≡ db.trees))
    (λ trees. (db : Database) × Readies reading old db × (trees ≡ db.trees))
    (λ clean trees it. (it.0, record { founded = λ none. absurd (not_both (sym none ∙ is)); renewed = λ _. it.1 }, it.2)) survives

pub earlier : {S : Type 0} (g : Ghosts S) (old new : Held S) → doubt (state g old).is_clean ≤ doubt (state g new).is_clean → HasCleanDisk (state g new) → HasCleanDisk (state g old)
earlier g old new clean h = omega arith

-- numbers that are known are in range
pub in_range : {known : Option Numbers} {n : Numbers} → known ≡ Some n → IfSome known (λ m. are_numbers m ≡ true) → are_numbers n ≡ true
in_range e within = subst (λ k. IfSome k (λ m. are_numbers m ≡ true)) e within

-- what a change makes of rows that have the numbers

pub adopts : {B : Type 0} (known next : Numbers) (change : Change B) (rows : Rows B) → Places known change next → known ≡ numbers_in_rows rows
    → written next change.snapshot change.votes rows ≡ adopted rows change
adopts known next change rows p same =
    let boot : next.boot ≡ rows.boot = p.boot ∙ ap (λ (n : Numbers). n.boot) same in
    let promised : next.promised ≡ option_or change.promised rows.promised = p.promised ∙ ap (λ (n : Numbers). option_or change.promised n.promised) same in
    λ i. record {
      boot = boot i;
      promised = promised i;
      snapshot = option_or change.snapshot rows.snapshot;
      votes = put_votes change.votes (kept_votes change.snapshot rows.votes);
    }

pub not_lower : {B : Type 0} (known next : Numbers) (change : Change B) (rows : Rows B) → Places known change next → known ≡ numbers_in_rows rows
    → NotLowered rows.promised next.promised
not_lower known next change rows p same = subst (λ (n : Numbers). NotLowered n.promised next.promised) same p.up

pub follows : {B : Type 0} (known next : Numbers) (change : Change B) (rows : Rows B) → Places known change next → known ≡ numbers_in_rows rows
    → Follows true rows next change.snapshot
follows known next change rows p same = record {
  same = λ e. absurd cc;
  up = not_lower known next change rows p same;
  floor = subst (λ (n : Numbers). floor_after n.floor change.snapshot ≡ Some next.floor) same p.floor;
}

-- one boot more

pub raises : {B : Type 0} (rows : Rows B) (n : Numbers) → n ≡ numbers_in_rows (raised rows) → Follows true rows n None × (written n None [] rows ≡ raised rows)
raises {B} rows n e =
    subst (λ (m : Numbers). Follows true rows m None × (written m None [] rows ≡ raised rows)) (sym e)
    (record { same = λ t. absurd cc; up = λ b u. u; floor = refl }, refl)

module _ {S : Type 0} (g : Ghosts S) {B : Type 0} (reading : List ℕ → Reading B) where
  abbrev HeldBy : Held S → Option Numbers → Rows B → Type 0
  HeldBy conn known rows = Holds g reading (keeper_of conn known) rows

  abbrev FoundBy : Held S → Rows B → Type 0
  FoundBy conn rows = Finds g reading (keeper_of conn None) rows

  abbrev RowsBy : Held S → Type 0
  RowsBy conn = LeavesRows g reading (keeper_of conn None)

  -- what commits nothing

  pub found_no_more : (old new : Held S) → Survives (state g old) (state g new) (λ _. ⊥) → (x : Rows B) → FoundBy new x → FoundBy old x
  found_no_more old new survives x h =
      (earlier g old new survives.clean h.0, (h.1.0, ⊎_elim (λ was. was) (λ none. absurd none) (survives.crash h.0 h.1.0 h.1.1), h.1.2))

  pub held_on : (old new : Held S) (k : Option Numbers) (rows : Rows B) → Survives (state g old) (state g new) (λ _. ⊥) → HeldBy old k rows → HeldBy new k rows
  held_on old new k rows survives h clean =
      let was = h (earlier g old new survives.clean clean) in
      (leaves_on reading (state g old) (state g new) rows survives clean was.0, was.1)

  pub rows_on : (old new : Held S) → Survives (state g old) (state g new) (λ _. ⊥) → RowsBy old → RowsBy new
  rows_on old new survives left clean trees may =
      left (earlier g old new survives.clean clean) trees (⊎_elim (λ was. was) (λ none. absurd none) (survives.crash clean trees may))

  pub leaves_none : (old new : Held S) (next : Rows B) → Survives (state g old) (state g new) (λ _. ⊥) → LeavesOr g reading old new next
  leaves_none old new next survives = record {
    clean = survives.clean;
    crash = λ clean trees may. ⊎_elim (λ was. inl was) (λ none. absurd none) (survives.crash clean trees may);
  }

  -- what commits after a call that commits nothing
  pub leaves_then : (old mid new : Held S) (next : Rows B) → Survives (state g old) (state g mid) (λ _. ⊥) → doubt (state g mid).is_clean ≤ doubt (state g new).is_clean
      → (HasCleanDisk (state g new) → (trees : Trees) → (state g new).may_leave trees → (state g mid).may_leave trees ⊎ Stores reading trees next)
      → LeavesOr g reading old new next
  leaves_then old mid new next survives clean made = record {
    clean = let first = survives.clean in omega arith;
    crash = λ now trees may.
        ⊎_elim (λ was. ⊎_elim (λ w. inl w) (λ none. absurd none) (survives.crash (earlier g mid new clean now) trees was)) (λ stores. inr stores) (made now trees may);
  }

  -- what is found after a commit: what was found before it, or what it was to make
  pub found_or : (old new : Held S) (next : Rows B) → LeavesOr g reading old new next → (x : Rows B) → FoundBy new x → FoundBy old x ⊎ (x ≡ next)
  found_or old new next it x h =
      ⊎_elim (λ was. inl (earlier g old new it.clean h.0, (h.1.0, was, h.1.2))) (λ stores. inr (stored_once reading h.1.0 next x stores h.1.2)) (it.crash h.0 h.1.0 h.1.1)

  -- and rows are found
  pub rows_or : (old new : Held S) (known : Option Numbers) (rows next : Rows B) → LeavesOr g reading old new next → HeldBy old known rows → RowsBy new
  rows_or old new known rows next it holds clean trees may =
      ⊎_elim (λ was. (rows, (holds (earlier g old new it.clean clean)).0 trees was)) (λ stores. (next, stores)) (it.crash clean trees may)
