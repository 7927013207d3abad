-- What INSERT OR REPLACE makes of a tree: the row goes in if no other has its rowid.
use Rattle.std.proofs.Common.{◌≡◌, ◌≢◌, ◌⊎◌, inl, inr, ℕ, ℤ, List, [], ◌∷◌, Bool, true, false, not, ◌&&◌, cond, Option, Some, None, Ok, Err, Result, refl, sym, ap, subst, ◌∙◌}
use Rattle.std.specs.Prelude.{MatchBool}
use Rattle.std.specs.Ordering.{is_lt, int_cmp}
use Rattle.sqlite_value.specs.declared.value.Value.{Value}
use Rattle.sqlite_value.specs.declared.value.Value.TheVariants.{Null, Int}
use Rattle.sqlite_value.specs.Order.{Row}
use Rattle.sqlite_trees.specs.Tree.{Trees, rowid, put_row}
use Rattle.sqlite_sql.specs.Ops.{unary}
use Rattle.sqlite_schema.specs.declared.schema.Kind.TheVariants.{Integer}
use Rattle.sqlite_schema.specs.declared.schema.Keys.{Keys}
use Rattle.sqlite_schema.specs.declared.schema.Table.{Table}
use Rattle.sqlite_schema.specs.declared.schema.Schema.{Schema}
use Rattle.sqlite_schema.specs.declared.command.Conflict.TheVariants.{Replace}
use Rattle.sqlite_rules.specs.declared.error.Rowids.TheVariants.{Given, Chosen}
use Rattle.sqlite_rules.specs.Cast.{cast, cast_row}
use Rattle.sqlite_rules.specs.Keys.{AreConflicts}
use Rattle.sqlite_rules.specs.Calls.{ids_of}
use Rattle.sqlite_rules.specs.Action.{works}
use Rattle.sqlite_rules.specs.Edit.{edit_of, is_taken, is_chosen, without_all, with_rowid, taken_by, IsNoIndex}
use Rattle.sqlite.specs.Rows.{Task, Written, Puts, Clears, Tries, TriesEach, Counts, CountsIn, Then, Gives, nothing, joined, count_of, higher, mended, rowids_for, sequence}
use Rattle.sqlite.proofs.Callers.{one_step}

either : (b : Bool) (x : Value) → cond b x x ≡ x
either true x = refl
either false x = refl

pub cast_null : cast Integer Null ≡ Null
unfolding unary
cast_null = either _ Null

pub cast_int : (n : ℤ) → cast Integer (Int n) ≡ Int n
unfolding unary
cast_int n = either _ (Int n)

-- a part that gave a value did not stop on the way
pub went : {B E R : Type 0} {b : B} {Stops : E → Type 0} → ((stop : E) × Stops stop × (Ok b ≡ Err stop)) ⊎ R → R
went (inl stopped) = absurd (let e = stopped.2 in cc)
went (inr on) = on

pub same_value : {B E : Type 0} {a b : B} → ◌≡◌ {A = Result B E} (Ok a) (Ok b) → a ≡ b
same_value e = cc

-- a table without AUTOINCREMENT is not counted
pub not_counted : (task : Task) (db next : Trees) (counter : Option Row) (top : ℤ) → task.table.is_counted ≡ false
    → Counts task db counter top (Ok next) → next ≡ db
not_counted task db next counter top none h =
    let is_higher = is_lt (int_cmp (count_of counter) top) in
    let counts = CountsIn task db counter top (sequence task.schema) (Ok next) in
    same_value (subst (λ b. MatchBool (cond b is_higher false) counts (Gives db (Ok next))) none h)

-- no row has the rowid
abbrev pub IsFree : Row → List Row → Type 0
IsFree new rows = is_taken rows new ≡ false

free_of : (b c : Bool) → not b && c ≡ true → b ≡ false
free_of true c h = absurd cc
free_of false c h = refl

module _ (t : Table) (new : Row) (whole : cast_row t new ≡ new) (schema : Schema)
    (none : (keys : Keys) (olds news : List Row) → works schema keys 0 t.tree olds news ≡ []) (limit : Option ℕ) (keys : Keys) (params : Row) where
  abbrev pub task : Task
  task = record { limit = limit; keys = keys; schema = schema; table = t; params = params }

  -- the row is put among those of a tree, if its rowid is free there, and no other tree changes
  pub record PutsIn (db after : Trees) (was : List Row) : Type 0 where
    pub free : IsFree new was
    pub rows : after t.tree ≡ put_row new was
    pub others : (x : ℕ) → x ≢ t.tree → IsNoIndex schema x → after x ≡ db x

  placed : (db : Trees) (w : Written) → Puts task new db (Ok w) → PutsIn db w.trees (db t.tree)
  placed db w h =
      let done = went h in
      let edit = edit_of db t [] Given 0 (new ∷ []) in
      let it = one_step schema keys db done.0 edit (none keys (taken_by db edit) edit.news) done.1 in
      let trees : w.trees ≡ done.0 = ap (λ (w : Written). w.trees) (same_value done.2) in
      let fresh : not (is_taken (db t.tree) new) && true ≡ true = subst (λ (r : Row). not (is_taken (db t.tree) r) && true ≡ true) whole it.fresh in
      record {
        free = free_of _ _ fresh;
        rows = rw trees (it.rows ∙ ap (λ r. put_row r (db t.tree)) whole);
        others = λ x no index. rw trees (it.others x no index);
      }

  -- the conflicting rows are taken out first
  pub record Replaced (db after : Trees) : Type 0 where
    pub found : List Row
    pub are : AreConflicts None schema.indexes t (db t.tree) new found
    pub puts : PutsIn db after (without_all (db t.tree) (ids_of found))

  cleared : (db : Trees) (w : Written) (found : List Row) → AreConflicts None schema.indexes t (db t.tree) new found
      → Clears task Replace new db found (Ok w) → Replaced db w.trees
  cleared db w [] are h = record { found = []; are = are; puts = placed db w h }
  cleared db w (x ∷ more) are h =
      let done = went h in
      let edit = edit_of db t (ids_of (x ∷ more)) Given 0 [] in
      let it = one_step schema keys db done.0 edit (none keys (taken_by db edit) edit.news) done.1 in
      let then = placed done.0 w done.2 in
      record {
        found = x ∷ more;
        are = are;
        puts = record {
          free = rw it.rows at then.free;
          rows = then.rows ∙ ap (put_row new) it.rows;
          others = λ y no index. then.others y no index ∙ it.others y no index;
        };
      }

  tried : (db : Trees) (w : Written) → Tries task Replace [] new db (Ok w) → Replaced db w.trees
  tried db w (inl refused) = absurd (let e = refused.1 in cc)
  tried db w (inr (None, judged, h)) = cleared db w h.0 h.1 h.2
  tried db w (inr (Some why, judged, h)) = absurd (let e = h in cc)

  abbrev OneOf : Trees → ℤ → Written × ℤ → Row → Type 0
  OneOf db top out r = Then (Tries task Replace [] r db) (λ one. Gives (joined (nothing db) one, higher top r)) (Ok out)

  each : (db : Trees) (top : ℤ) (out : Written × ℤ) (r : Row) → r ≡ new → OneOf db top out r → Replaced db out.0.trees
  each db top out r same h =
      let one = went (subst (OneOf db top out) same h) in
      let trees : out.0.trees ≡ one.0.trees = ap (λ (p : Written × ℤ). p.0.trees) (same_value one.2) in
      subst (Replaced db) (sym trees) (tried db one.0 one.1)

  -- one row of VALUES under OR REPLACE
  pub replaces : (source : Row) → cast_row t (mended Replace t source) ≡ new → is_chosen Chosen (rowid new) ≡ false → t.is_counted ≡ false
      → (db : Trees) (top : ℤ) (out : Written × ℤ)
      → TriesEach task Replace [] (source ∷ []) top (nothing db) (Ok out) → Replaced db out.0.trees
  replaces source made given plain db top out h =
      each db top out _ (ap (with_rowid (rowids_for t top) (db t.tree)) made ∙ rw (plain, given) refl) h
