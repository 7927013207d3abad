-- What a CREATE TABLE statement makes of a database, and what all of them make of an empty one.
use Rattle.std.proofs.Common.{◌≡◌, ℕ, List, [], ◌∷◌, ◌++◌, false, None, Ok, Err, Result, OnOk, inl, refl, sym, ap, subst, ◌∙◌, arith}
use Rattle.sqlite_schema.specs.declared.command.Command.TheVariants.{CreateTable}
use Rattle.sqlite_schema.specs.declared.schema.Schema.{Schema}
use Rattle.sqlite_schema.specs.declared.schema.Table.{Table}
use Rattle.sqlite_resolve.specs.Compile.{table_defined_by}
use Rattle.sqlite_catalog.specs.Change.{created, next_tree, KeepsRows}
use Rattle.sqlite.specs.declared.error.Error.{Error}
use Rattle.sqlite.specs.Does.{Tally, lacks_sequence}
use Rattle.sqlite.specs.Effect.{Database}
use Rattle.sqlite.specs.Listing.{understood}
use Rattle.sqlite.specs.State.{State, Writes, Executes}
use Rattle.sqlite.proofs.Callers.{IsPlain, command_of, statement_of, runs_as}
use Rattle.acceptor_store.specs.Tables.{meta_table, vote_table, snapshot_table, old_tables, store_schema, old_schema, schema_of, empty_schema, create_meta_text, create_vote_text, create_snapshot_text, meta_row, snapshot_row}
use Rattle.acceptor_store.specs.Statements.{HasAtMost, Makes, PutsAlone, IsFounded}
use Rattle.acceptor_store.proofs.Texts.{create_meta_is, create_meta_plain, create_vote_is, create_vote_plain, create_snapshot_is, create_snapshot_plain}
use Rattle.acceptor_store.proofs.Puts.{went, same_value}

-- a text that defines the next table of a schema
module _ (tables : List Table) (table : Table) (sql : List ℕ)
    (is : (command_of (understood (schema_of tables) sql) ≡ CreateTable) × (statement_of sql (understood (schema_of tables) sql) ≡ sql)
    × (table_defined_by sql ≡ Ok (record table { tree = 0 })))
    (plain : IsPlain (understood (schema_of tables) sql)) (place : next_tree (schema_of tables) ≡ table.tree)
    (joins : created (schema_of tables) (record table { tree = 0 }) ≡ schema_of (tables ++ table ∷ []))
    (uncounted : lacks_sequence (schema_of (tables ++ table ∷ [])) ≡ false) where
  creates : (old new : State) (r : Result ℕ Error) → old.now.schema ≡ schema_of tables → Executes sql [] old new r
      → OnOk r (Makes tables table old.now new.now)
  creates old new (Err e) has h = tt
  creates old new (Ok count) has h =
      let ran = runs_as sql [] old new (schema_of tables) has CreateTable is.0 plain count h in
      let w = subst (λ t. Writes old new None CreateTable t [] count) is.1 ran in
      let all = went w.changed in
      let first = went all.1 in
      let made = first.1 in
      let both : Ok made.table ≡ Ok (record table { tree = 0 }) = sym made.defined ∙ is.2 in
      let same : made.table ≡ record table { tree = 0 } = cc in
      let schema : first.0.schema ≡ schema_of (tables ++ table ∷ []) =
      made.is ∙ ap (λ s. created s made.table) has ∙ ap (created (schema_of tables)) same ∙ joins in
      let none : lacks_sequence first.0.schema ≡ false = ap lacks_sequence schema ∙ uncounted in
      let now : new.now ≡ first.0 = ap (λ (p : Tally × Database). p.1) (same_value all.2) ∙ same_value (rw none at first.2) in
      let at : next_tree old.now.schema ≡ table.tree = ap next_tree has ∙ place in
      record {
        schema = ap (λ (d : Database). d.schema) now ∙ schema;
        empty = ap (λ (d : Database). d.trees table.tree) now ∙ subst (λ tree. first.0.trees tree ≡ []) at made.empty;
        others = subst (λ (d : Database). KeepsRows tables old.now.trees d.trees) (sym now)
            (subst (λ (s : Schema). KeepsRows s.tables old.now.trees first.0.trees) has made.others);
      }

pub creates_meta : (old new : State) (r : Result ℕ Error) → old.now.schema ≡ empty_schema → Executes create_meta_text [] old new r
    → OnOk r (Makes [] meta_table old.now new.now)
creates_meta = creates [] meta_table create_meta_text create_meta_is create_meta_plain refl refl refl

pub creates_vote : (old new : State) (r : Result ℕ Error) → old.now.schema ≡ schema_of (meta_table ∷ [])
    → Executes create_vote_text [] old new r → OnOk r (Makes (meta_table ∷ []) vote_table old.now new.now)
creates_vote = creates (meta_table ∷ []) vote_table create_vote_text create_vote_is create_vote_plain refl refl refl

pub creates_snapshot : (old new : State) (r : Result ℕ Error) → old.now.schema ≡ old_schema → Executes create_snapshot_text [] old new r
    → OnOk r (Makes old_tables snapshot_table old.now new.now)
creates_snapshot = creates old_tables snapshot_table create_snapshot_text create_snapshot_is create_snapshot_plain refl refl refl

-- the tables one after the other, then the rows of `snapshot` and of `meta`

pub snapshot_free : (two three : Database) → Makes old_tables snapshot_table two three → HasAtMost 1 (three.trees 2)
snapshot_free two three made = inl made.empty

pub meta_free : (one two three four : Database) → one.trees 0 ≡ [] → Makes (meta_table ∷ []) vote_table one two → Makes old_tables snapshot_table two three
    → PutsAlone store_schema 2 (snapshot_row 0 []) three four → HasAtMost 1 (four.trees 0)
meta_free one two three four none vote snapshot put =
    inl (put.edits.others 0 (λ e. omega (arith, e)) ∙ snapshot.others.0 ∙ vote.others.0 ∙ none)

pub founded : (one two three four new : Database) → Makes (meta_table ∷ []) vote_table one two → Makes old_tables snapshot_table two three
    → PutsAlone store_schema 2 (snapshot_row 0 []) three four → PutsAlone store_schema 0 (meta_row 0 0 0) four new → IsFounded new
founded one two three four new vote snapshot first put = record {
  schema = put.edits.schema;
  sound = put.edits.sound;
  meta = put.alone;
  votes = put.edits.others 1 (λ e. omega (arith, e)) ∙ first.edits.others 1 (λ e. omega (arith, e)) ∙ snapshot.others.1.0 ∙ vote.empty;
  snapshot = put.edits.others 2 (λ e. omega (arith, e)) ∙ first.alone;
}
