-- What a DELETE of the rows that pass some tests makes of a database.
use Rattle.std.proofs.Common.{◌≡◌, ℕ, pos, negsuc, Bool, true, false, cond, List, [], ◌∷◌, ◌++◌, map, filter, Option, Some, None, Ok, Err, Result, OnOk, refl, sym, ap, subst, ◌∙◌}
use Rattle.std.specs.Prelude.{flat_map, slice_get, IsPermutation}
use Rattle.std.specs.List.{list_all}
use Rattle.std.proofs.lemmas.List.Sorted.{IsPermutation-map}
use Rattle.sqlite_value.specs.declared.value.Value.TheVariants.{Null, Int}
use Rattle.sqlite_value.specs.Order.{Row}
use Rattle.sqlite_trees.specs.Tree.{Trees, rowid}
use Rattle.sqlite_sql.specs.Term.{Term, Env, lit, col, holds}
use Rattle.sqlite_sql.specs.Query.{Query, inner, end, IsAnswer, output, Output}
use Rattle.sqlite_sql.specs.Program.{overlay}
use Rattle.sqlite_schema.specs.declared.schema.Keys.{Keys}
use Rattle.sqlite_schema.specs.declared.schema.Table.{Table}
use Rattle.sqlite_schema.specs.declared.schema.Schema.{Schema}
use Rattle.sqlite_schema.specs.declared.command.Command.{Command}
use Rattle.sqlite_schema.specs.declared.command.Command.TheVariants.{Delete}
use Rattle.sqlite_catalog.specs.Listing.{IsSound}
use Rattle.sqlite_rules.specs.Calls.{ids_of}
use Rattle.sqlite_rules.specs.declared.error.Rowids.TheVariants.{Given}
use Rattle.sqlite_rules.specs.Action.{works}
use Rattle.sqlite_rules.specs.Edit.{edit_of, taken_by, without_all}
use Rattle.sqlite.specs.declared.error.Error.{Error}
use Rattle.sqlite.specs.Does.{Tally, Does, AtPlace, OnRows}
use Rattle.sqlite.specs.Effect.{Database}
use Rattle.sqlite.specs.Listing.{understood}
use Rattle.sqlite.specs.Rows.{Task, Written}
use Rattle.sqlite.specs.State.{State, mode_of, Executes}
use Rattle.sqlite.proofs.Callers.{IsPlain, runs_as, command_of, statement_of, one_step}
use Rattle.acceptor_store.specs.Tables.{schema_of}
use Rattle.acceptor_store.specs.Statements.{Edits}
use Rattle.acceptor_store.proofs.Puts.{went, same_value}

-- the rowids of the rows of a tree that pass the tests
abbrev pub rowids_query : ℕ → List Term → Query
rowids_query tree tests = record {
  from = inner tree end;
  filter = tests;
  group = None;
  project = col 1 0 ∷ [];
  distinct = false;
  collations = [];
  order = [];
  limit = lit (Int (negsuc 0));
  offset = lit (Int (pos 0));
}

-- the row passes the tests
abbrev pub passes : List Term → Row → Row → Bool
passes tests params row = list_all (holds (params ∷ row ∷ [])) tests

abbrev pub id_row : Row → Row
id_row row = rowid row ∷ []

-- the rows that pass are taken out of the tree of a table, and the other trees stay
pub record TakesRows (tables : List Table) (t : Table) (test : Row → Bool) (old new : Database) : Type 0 where
  pub edits : Edits (schema_of tables) t.tree old new
  pub found : List Row
  pub shown : IsPermutation (map id_row (filter test (old.trees t.tree))) found
  pub rows : new.trees t.tree ≡ without_all (old.trees t.tree) (ids_of found)

module _ (tree : ℕ) (tests : List Term) (params : Row) where
  abbrev query : Query
  query = rowids_query tree tests

  abbrev env_of : Row → List Env
  env_of row = cond (passes tests params row) ((params ∷ row ∷ []) ∷ []) []

  found_in : (rows : List Row) → map (λ (o : Output). o.1) (map (output query) (flat_map env_of rows)) ≡ map id_row (filter (passes tests params) rows)
  found_in [] = refl
  found_in (r ∷ rs) = go (passes tests params r) (found_in rs)
    where
      go : (b : Bool)
          → map (λ (o : Output). o.1) (map (output query) (flat_map env_of rs)) ≡ map id_row (filter (passes tests params) rs)
          → map (λ (o : Output). o.1) (map (output query) (cond b ((params ∷ r ∷ []) ∷ []) [] ++ flat_map env_of rs))
          ≡ map id_row (cond b (r ∷ filter (passes tests params) rs) (filter (passes tests params) rs))
      go true more = λ i. id_row r ∷ more i
      go false more = more

-- a text that deletes the rows of the table at a place of the schema that pass the tests, if its keys lead to no other table
module _ (tables : List Table) (at : ℕ) (t : Table) (sql : List ℕ) (tests : List Term)
    (is_at : slice_get tables at ≡ Some t)
    (is : command_of (understood (schema_of tables) sql) ≡ Delete at (record { lets = []; body = rowids_query t.tree tests }))
    (plain : IsPlain (understood (schema_of tables) sql))
    (alone : (keys : Keys) (olds news : List Row) → works (schema_of tables) keys 0 t.tree olds news ≡ [])
    (base : (db : Trees) → overlay db [] t.tree ≡ db t.tree) where
  abbrev known : Schema
  known = schema_of tables

  abbrev deletes : Command
  deletes = Delete at (record { lets = []; body = rowids_query t.tree tests })

  pub deletes_rows : (params : Row) (old new : State) (r : Result ℕ Error) → old.now.schema ≡ known → Executes sql params old new r
      → OnOk r (TakesRows tables t (passes tests params) old.now new.now)
  deletes_rows params old new (Err e) has h = tt
  deletes_rows params old new (Ok count) has h =
      let db = old.now.trees in
      let here = db t.tree in
      let mode = mode_of old in
      let steps = old.step_limit in
      let w = runs_as sql params old new known has deletes is plain count h in
      let text = statement_of sql (understood known sql) in
      let out : Result (Tally × Database) (Option Error) = Ok (w.tally, new.now) in
      let does = subst (λ s. Does steps mode params (record old.now { schema = s }) text None deletes out) has w.changed in
      let doing = λ (table : Table).
      OnRows (record { limit = steps; keys = mode.keys; schema = known; table = table; params = params }) mode None deletes db in
      let it : Task = record { limit = steps; keys = mode.keys; schema = known; table = t; params = params } in
      let on : OnRows it mode None deletes db out = subst (λ o. AtPlace doing o out) is_at does in
      let done = went on in
      let now = ap (λ (p : Tally × Database). p.1) (same_value (went (went done.2).2).2) in
      let asked = went done.1 in
      let step = went asked.2 in
      let edit = edit_of db t (ids_of asked.0) Given 0 [] in
      let one = one_step known mode.keys db step.0 edit (alone mode.keys (taken_by db edit) edit.news) step.1 in
      let trees : done.0.trees ≡ step.0 = ap (λ (w : Written). w.trees) (same_value step.2) in
      let left = λ (tree : ℕ). ap (λ (d : Database). d.trees tree) now ∙ ap (λ (ts : Trees). ts tree) trees in
      let a : IsAnswer (rowids_query t.tree tests) (overlay db []) params asked.0 = asked.1.answer Null in
      let staged : a.staged ≡ flat_map (env_of t.tree tests params) here = a.grouped ∙ ap (flat_map (env_of t.tree tests params)) (base db) in
      let kept : a.kept ≡ map (output (rowids_query t.tree tests)) (flat_map (env_of t.tree tests params) here) = a.distinct ∙ ap (map (output (rowids_query t.tree tests))) staged in
      let all : asked.0 ≡ map (λ (o : Output). o.1) a.ordered = a.shown in
      let same = IsPermutation-map (λ (o : Output). o.1) a.kept a.ordered a.same in
      let taken = ap (map (λ (o : Output). o.1)) kept ∙ found_in t.tree tests params here in
      record {
        edits = record {
          schema = ap (λ (d : Database). d.schema) now;
          sound = subst (λ (s : Schema). IsSound s new.now.trees) (ap (λ (d : Database). d.schema) now) w.sound;
          others = λ other differs. left other ∙ one.others other differs tt;
        };
        found = asked.0;
        shown = subst (IsPermutation (map id_row (filter (passes tests params) here))) (sym all)
            (subst (λ xs. IsPermutation xs (map (λ (o : Output). o.1) a.ordered)) taken same);
        rows = left t.tree ∙ one.rows;
      }
