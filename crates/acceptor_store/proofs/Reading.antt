-- What the SELECT statements show of a database.
use Rattle.std.proofs.Common.{◌≡◌, ◌⊎◌, inl, inr, ℕ, pos, negsuc, List, [], ◌∷◌, map, codes, false, None, refl, sym, ap, subst, ◌∙◌}
use Rattle.std.specs.Prelude.{IsPermutation, flat_map}
use Rattle.std.proofs.lemmas.List.Sorted.{IsPermutation-map}
use Rattle.sqlite_value.specs.declared.value.Value.TheVariants.{Null, Int}
use Rattle.sqlite_value.specs.declared.keys.Collation.TheVariants.{Binary}
use Rattle.sqlite_value.specs.declared.keys.Key.{Key}
use Rattle.sqlite_value.specs.Order.{Row}
use Rattle.sqlite_trees.specs.Tree.{Trees}
use Rattle.sqlite_sql.specs.Term.{Term, Env, lit, col, eval_all}
use Rattle.sqlite_sql.specs.Query.{Query, inner, end, IsAnswer, output, Output}
use Rattle.sqlite_sql.specs.Program.{overlay}
use Rattle.sqlite_schema.specs.declared.command.Command.TheVariants.{Select}
use Rattle.sqlite_schema.specs.declared.schema.Schema.{Schema}
use Rattle.sqlite_tied.specs.Compute.{everything}
use Rattle.sqlite.specs.Listing.{understood, reads_listing}
use Rattle.sqlite.specs.Clock.{timed}
use Rattle.sqlite.specs.State.{State, HasCleanDisk, Survives, IsUnchanged, Shown, ShowsRows, CommitsShowing}
use Rattle.sqlite.proofs.Callers.{IsPlain, command_of, reads_as, never_commits}
use Rattle.sqlite.proofs.StateLemmas.{survives_weaker}
use Rattle.acceptor_store.specs.Tables.{store_schema, old_schema, read_meta_text, read_votes_text, read_snapshot_text, meta_columns, vote_columns, snapshot_columns}

-- a query of each row of a tree
abbrev pub query_of : ℕ → List Term → List (Term × Key) → Query
query_of tree terms order = record {
  from = inner tree end;
  filter = [];
  group = None;
  project = terms;
  distinct = false;
  collations = [];
  order = order;
  limit = lit (Int (negsuc 0));
  offset = lit (Int (pos 0));
}

abbrev meta_query : Query
meta_query = query_of 0 (col 1 0 ∷ col 1 2 ∷ col 1 3 ∷ col 1 4 ∷ col 1 5 ∷ []) []

abbrev votes_query : Query
votes_query =
    query_of 1 (col 1 0 ∷ col 1 2 ∷ col 1 3 ∷ col 1 4 ∷ []) ((col 1 0, record { collation = Binary; descending = false }) ∷ [])

abbrev snapshot_query : Query
snapshot_query = query_of 2 (col 1 0 ∷ col 1 2 ∷ col 1 3 ∷ []) []

pub read_meta_is : (command_of (understood store_schema read_meta_text)
    ≡ Select (record { lets = []; body = meta_query }) (codes "k" ∷ codes "version" ∷ codes "boot" ∷ codes "round" ∷ codes "node" ∷ []))
    × (reads_listing store_schema read_meta_text ≡ false)
unfolding understood everything
read_meta_is = (refl, refl)

pub read_meta_plain : IsPlain (understood store_schema read_meta_text)
unfolding understood everything
read_meta_plain = (refl, refl)

-- in the tables of version 1
pub read_old_meta_is : (command_of (understood old_schema read_meta_text)
    ≡ Select (record { lets = []; body = meta_query }) (codes "k" ∷ codes "version" ∷ codes "boot" ∷ codes "round" ∷ codes "node" ∷ []))
    × (reads_listing old_schema read_meta_text ≡ false)
unfolding understood everything
read_old_meta_is = (refl, refl)

pub read_old_meta_plain : IsPlain (understood old_schema read_meta_text)
unfolding understood everything
read_old_meta_plain = (refl, refl)

pub read_snapshot_is : (command_of (understood store_schema read_snapshot_text)
    ≡ Select (record { lets = []; body = snapshot_query }) (codes "k" ∷ codes "floor" ∷ codes "bytes" ∷ []))
    × (reads_listing store_schema read_snapshot_text ≡ false)
unfolding understood everything
read_snapshot_is = (refl, refl)

pub read_snapshot_plain : IsPlain (understood store_schema read_snapshot_text)
unfolding understood everything
read_snapshot_plain = (refl, refl)

pub read_votes_is : (command_of (understood store_schema read_votes_text)
    ≡ Select (record { lets = []; body = votes_query }) (codes "slot" ∷ codes "round" ∷ codes "node" ∷ codes "entry" ∷ []))
    × (reads_listing store_schema read_votes_text ≡ false)
unfolding understood everything
read_votes_is = (refl, refl)

pub read_votes_plain : IsPlain (understood store_schema read_votes_text)
unfolding understood everything
read_votes_plain = (refl, refl)

one_each : (rows : List Row) → flat_map (λ r. ([] ∷ r ∷ []) ∷ []) rows ≡ map (λ r. [] ∷ r ∷ []) rows
one_each [] = refl
one_each (r ∷ rs) = ap (λ (es : List Env). ([] ∷ r ∷ []) ∷ es) (one_each rs)

-- what such a query shows, in some order
module _ (known : Schema) (tree : ℕ) (terms : List Term) (order : List (Term × Key)) (columns : Row → Row)
    (shows : (row : Row) → eval_all terms ([] ∷ row ∷ []) ≡ columns row) (sql : List ℕ) (names : List (List ℕ))
    (is : (command_of (understood known sql) ≡ Select (record { lets = []; body = query_of tree terms order }) names)
    × (reads_listing known sql ≡ false))
    (plain : IsPlain (understood known sql)) (base : (db : Trees) → overlay db [] tree ≡ db tree) where
  abbrev query : Query
  query = query_of tree terms order

  each_shown : (rows : List Row) → map (λ (o : Output). o.1) (map (output query) (map (λ r. [] ∷ r ∷ []) rows)) ≡ map columns rows
  each_shown [] = refl
  each_shown (r ∷ rs) = λ i. shows r i ∷ each_shown rs i

  shows_rows : (old new : State) (rows : List Row) → old.now.schema ≡ known → Shown sql [] old new rows
      → IsPermutation (map columns (old.now.trees tree)) rows
  shows_rows old new rows has h =
      let here = old.now.trees tree in
      let got = (reads_as sql [] old new known has _ is.0 plain is.1 rows h).answer in
      let a : IsAnswer query (overlay old.now.trees []) [] rows = got Null in
      let staged = a.grouped ∙ ap (flat_map (λ r. ([] ∷ r ∷ []) ∷ [])) (base old.now.trees) ∙ one_each here in
      let kept : a.kept ≡ map (output query) (map (λ r. [] ∷ r ∷ []) here) = a.distinct ∙ ap (map (output query)) staged in
      let all : rows ≡ map (λ (o : Output). o.1) a.ordered = a.shown in
      let same = IsPermutation-map (λ (o : Output). o.1) a.kept a.ordered a.same in
      let shown = ap (map (λ (o : Output). o.1)) kept ∙ each_shown here in
      subst (IsPermutation (map columns here)) (sym all) (subst (λ xs. IsPermutation xs (map (λ (o : Output). o.1) a.ordered)) shown same)

pub shows_meta : (old new : State) (rows : List Row) → old.now.schema ≡ store_schema → Shown read_meta_text [] old new rows
    → IsPermutation (map meta_columns (old.now.trees 0)) rows
shows_meta =
    shows_rows store_schema 0 meta_query.project meta_query.order meta_columns (λ row. refl) read_meta_text _ read_meta_is read_meta_plain
    (λ db. refl)

pub shows_old_meta : (old new : State) (rows : List Row) → old.now.schema ≡ old_schema → Shown read_meta_text [] old new rows
    → IsPermutation (map meta_columns (old.now.trees 0)) rows
shows_old_meta =
    shows_rows old_schema 0 meta_query.project meta_query.order meta_columns (λ row. refl) read_meta_text _ read_old_meta_is read_old_meta_plain
    (λ db. refl)

pub shows_snapshot : (old new : State) (rows : List Row) → old.now.schema ≡ store_schema → Shown read_snapshot_text [] old new rows
    → IsPermutation (map snapshot_columns (old.now.trees 2)) rows
shows_snapshot =
    shows_rows store_schema 2 snapshot_query.project snapshot_query.order snapshot_columns (λ row. refl) read_snapshot_text _ read_snapshot_is
    read_snapshot_plain (λ db. refl)

pub shows_votes : (old new : State) (rows : List Row) → old.now.schema ≡ store_schema → Shown read_votes_text [] old new rows
    → IsPermutation (map vote_columns (old.now.trees 1)) rows
shows_votes =
    shows_rows store_schema 1 votes_query.project votes_query.order vote_columns (λ row. refl) read_votes_text _ read_votes_is read_votes_plain
    (λ db. refl)

pub meta_plain : (s : Schema) → (s ≡ store_schema) ⊎ (s ≡ old_schema) → IsPlain (understood s read_meta_text)
meta_plain s (inl is) = subst (λ (t : Schema). IsPlain (understood t read_meta_text)) (sym is) read_meta_plain
meta_plain s (inr is) = subst (λ (t : Schema). IsPlain (understood t read_meta_text)) (sym is) read_old_meta_plain

pub votes_plain : (s : Schema) → s ≡ store_schema → IsPlain (understood s read_votes_text)
votes_plain s is = subst (λ (t : Schema). IsPlain (understood t read_votes_text)) (sym is) read_votes_plain

pub snapshot_plain : (s : Schema) → s ≡ store_schema → IsPlain (understood s read_snapshot_text)
snapshot_plain s is = subst (λ (t : Schema). IsPlain (understood t read_snapshot_text)) (sym is) read_snapshot_plain

-- a query changes nothing
pub shown_unchanged : (sql : List ℕ) (params : Row) (old new : State) (rows : List Row) → IsPlain (understood old.now.schema sql) → Shown sql params old new rows
    → IsUnchanged old new
unfolding Shown
shown_unchanged sql params old new rows plain h =
    let none = (subst IsPlain h.1.is plain).0 in
    let full = timed params h.0.formats h.1.now in
    let it = subst (ShowsRows old new sql h.0 full rows) none h.2 in
    it.3

-- nor does it commit anything
pub shows_no_commit : (sql : List ℕ) (params : Row) (old new : State) → (HasCleanDisk new → IsPlain (understood old.now.schema sql))
    → Survives old new (CommitsShowing sql params old) → Survives old new (λ _. ⊥)
shows_no_commit sql params old new plain = survives_weaker old new _ _ (λ clean db. never_commits sql params old db (plain clean))
