-- What an INSERT OR REPLACE of one row makes of a database.
use Rattle.std.proofs.Common.{◌≡◌, ◌⊎◌, inl, inr, ℕ, ℤ, pos, negsuc, ◌<◌, ◌≤◌, not, Bool, true, false, cond, List, [], ◌∷◌, map, Option, Some, None, Ok, Err, Result, OnOk, eqb, refl, sym, ap, subst, ◌∙◌, arith}
use Rattle.std.specs.Prelude.{nat_le, ◌&&◌, ◌/◌, length, slice_get}
use Rattle.std.specs.List.{AllByRecursion}
use Rattle.std.proofs.lemmas.Bool.{eqb-false, leb-true}
use Rattle.std.proofs.lemmas.Bool.Decides.{nat_tests}
use Rattle.sqlite_value.specs.declared.value.Value.{Value}
use Rattle.sqlite_value.specs.declared.value.Value.TheVariants.{Null, Int, Real, Text, Blob}
use Rattle.sqlite_value.specs.Order.{Row, column}
use Rattle.sqlite_trees.specs.Tree.{Trees, rowid, put_row, has_rowid}
use Rattle.sqlite_sql.specs.Term.{Term}
use Rattle.sqlite_schema.specs.declared.schema.Keys.{Keys}
use Rattle.sqlite_schema.specs.declared.schema.Table.{Table}
use Rattle.sqlite_schema.specs.declared.command.Conflict.TheVariants.{Replace}
use Rattle.sqlite_schema.specs.declared.command.Source.TheVariants.{Values}
use Rattle.sqlite_schema.specs.declared.command.Command.{Command}
use Rattle.sqlite_schema.specs.declared.command.Command.TheVariants.{InsertOr}
use Rattle.sqlite_schema.specs.declared.schema.Schema.{Schema}
use Rattle.sqlite_catalog.specs.Listing.{IsSound}
use Rattle.sqlite_rules.specs.Cast.{cast_row}
use Rattle.sqlite_rules.specs.Keys.{AreConflicts}
use Rattle.sqlite_rules.specs.Lists.{Has}
use Rattle.sqlite_rules.specs.Calls.{ids_of}
use Rattle.sqlite_rules.specs.declared.error.Rowids.TheVariants.{Chosen}
use Rattle.sqlite_rules.specs.Action.{works}
use Rattle.sqlite_rules.specs.Edit.{is_taken, is_chosen, without_all}
use Rattle.sqlite.specs.declared.error.Error.{Error}
use Rattle.sqlite.specs.Does.{Tally, Does, AtPlace, OnRows}
use Rattle.sqlite.specs.Effect.{Database, value_rows}
use Rattle.sqlite.specs.Listing.{understood}
use Rattle.sqlite.specs.Rows.{Written, TriesEach, nothing, count_of, mended, stamped}
use Rattle.sqlite.specs.State.{State, mode_of, Executes}
use Rattle.sqlite.proofs.Callers.{IsPlain, runs_as, command_of, statement_of}
use Rattle.paxos_packets.specs.Vote.{put_vote}
use Rattle.paxos_packets.specs.declared.ballot.Ballot.{Ballot}
use Rattle.paxos_packets.specs.declared.vote.Vote.{Vote}
use Rattle.command_codec.specs.Number.{Reading}
use Rattle.acceptor_store.specs.Tables.{meta_table, vote_table, snapshot_table, store_tables, schema_of, store_schema, put_meta_text, put_vote_text, put_snapshot_text, meta_row, vote_row, snapshot_row, vote_columns}
use Rattle.acceptor_store.specs.Statements.{key_of, HasAtMost, Edits, PutsAlone}
use Rattle.store_rows.specs.Rows.{within, slot_in, ballot_in, entry_in, vote_of, is_promised}
use Rattle.acceptor_store.specs.Store.{IsVote, AreVotes}
use Rattle.acceptor_store.proofs.Texts.{put_meta_terms, put_vote_terms, put_snapshot_terms, put_meta_is, put_meta_plain, put_vote_is, put_vote_plain, put_snapshot_is, put_snapshot_plain}
use Rattle.acceptor_store.proofs.Puts.{went, same_value, cast_null, cast_int, not_counted, task, replaces}
use Rattle.acceptor_store.proofs.Trees.{has_row_new, has_row, has_row_old, not_taken, has_left, left_has, once_left, once_put, number_cmp, conflict_ids}
use Rattle.store_rows.proofs.Options.{and_then_is, map_is}
use Rattle.acceptor_store.specs.Once.{all_has}
use Rattle.acceptor_store.proofs.Votes.{all_from, has_put_new, has_put, has_put_old, ascend_put}

-- a number within bounds

both_true : (b c : Bool) → b && c ≡ true → b ≡ true
both_true true c h = refl
both_true false c h = absurd cc

pub within_is : (low high : ℕ) (v : Value) (n : ℕ) → within low high v ≡ Some n → (v ≡ Int (pos n)) × (low ≤ n)
within_is low high (Int (pos m)) n h = go (nat_le low m && nat_le m high) refl h
  where
    go : (b : Bool) → nat_le low m && nat_le m high ≡ b → cond b (Some m) None ≡ Some n → (◌≡◌ {A = Value} (Int (pos m)) (Int (pos n))) × (low ≤ n)
    go true t h =
        let e : m ≡ n = cc in
        let l : low ≤ m = leb-true low m (both_true _ _ t) in
        (ap (λ k. Int (pos k)) e, omega arith)
    go false t h = absurd cc
within_is low high (Int (negsuc m)) n h = absurd cc
within_is low high Null n h = absurd cc
within_is low high (Real x) n h = absurd cc
within_is low high (Text t) n h = absurd cc
within_is low high (Blob b) n h = absurd cc

-- the slot of the vote that a row shows is its first column
pub vote_slot : {B : Type 0} (reading : List ℕ → Reading B) (row : Row) (v : Vote B) → vote_of reading row ≡ Some v
    → (column row 0 ≡ Int (pos v.slot)) × (1 ≤ v.slot)
vote_slot {B} reading row v h =
    let slot = and_then_is _ (slot_in (column row 0)) v h in
    let ballot = and_then_is _ (ballot_in (column row 1) (column row 2)) v slot.2 in
    let entry = map_is _ (entry_in reading (column row 3)) v ballot.2 in
    let same : slot.0 ≡ v.slot = ap (λ (w : Vote B). w.slot) entry.2 in
    let is = within_is 1 1099511627775 (column row 0) slot.0 slot.1 in
    (is.0 ∙ ap (λ n. Int (pos n)) same, subst (λ n. 1 ≤ n) same is.1)

-- a row for a vote is put among the rows of votes
module _ {B : Type 0} (reading : List ℕ → Reading B) (promised : Option Ballot) (floor : ℕ) (tree : List Row) (vs : List (Vote B)) (are : AreVotes reading promised floor tree vs)
    (n : Row) (v : Vote B) (is : IsVote reading n v) (under : is_promised promised v.ballot ≡ true) (above : floor < v.slot)
    (t : Table) (found : List Row) (conflict : AreConflicts None [] t tree n found)
    (free : is_taken (without_all tree (ids_of found)) n ≡ false) where
  abbrev left : List Row
  left = without_all tree (ids_of found)

  new_slot : rowid n ≡ Int (pos v.slot)
  new_slot = (vote_slot reading (vote_columns n) v is).0

  numbered : (x : Row) → Has tree x → (m : ℕ) × (rowid x ≡ Int (pos m))
  numbered x h = let e = all_has _ tree x are.each h in (e.0.slot, (vote_slot reading (vote_columns x) e.0 e.1).0)

  ids : AllByRecursion (λ i. i ≡ pos v.slot) (ids_of found)
  ids = conflict_ids t n tree found v.slot numbered new_slot conflict

  -- a row that is left shows another slot
  apart : (x : Row) (m : ℕ) → Has left x → rowid x ≡ Int (pos m) → eqb m v.slot ≡ false
  apart x m h e = sym (number_cmp m v.slot) ∙ (rw (e, new_slot) at (not_taken left n x free h))

  other : (x : Row) (w : Vote B) → IsVote reading x w → (w.slot ≡ v.slot → ⊥) → (is : List ℤ) → AllByRecursion (λ i. i ≡ pos v.slot) is
      → AllByRecursion (λ i. has_rowid i x ≡ false) is
  other x w shows differs [] h = tt
  other x w shows differs (i ∷ is) h =
      let row : rowid x ≡ Int (pos w.slot) = (vote_slot reading (vote_columns x) w shows).0 in
      let test : eqb w.slot v.slot ≡ false = grind (arith, nat_tests) in
      (rw (h.0, row) (number_cmp w.slot v.slot ∙ test), other x w shows differs is h.1)

  each : AllByRecursion (λ row. (w : Vote B) × IsVote reading row w × Has (put_vote v vs) w) (put_row n left)
  each = all_from _ (put_row n left) (λ x h. go x (has_row_old n left x h))
    where
      go : (x : Row) → (x ≡ n) ⊎ Has left x → (w : Vote B) × IsVote reading x w × Has (put_vote v vs) w
      go x (inl e) = (v, subst (λ (r : Row). IsVote reading r v) (sym e) is, has_put_new v vs)
      go x (inr k) =
          let o = all_has _ tree x are.each (has_left (ids_of found) tree x k) in
          let differs = apart x o.0.slot k (vote_slot reading (vote_columns x) o.0 o.1).0 in
          (o.0, o.1, has_put v vs o.0 o.2 (eqb-false o.0.slot v.slot differs))

  all : AllByRecursion (λ w. (row : Row) × Has (put_row n left) row × IsVote reading row w) (put_vote v vs)
  all = all_from _ (put_vote v vs) (λ w h. go w (has_put_old v floor vs w are.ascend h))
    where
      go : (w : Vote B) → (w ≡ v) ⊎ (Has vs w × (w.slot ≡ v.slot → ⊥)) → (row : Row) × Has (put_row n left) row × IsVote reading row w
      go w (inl e) = (n, has_row_new n left, is ∙ ap Some (sym e))
      go w (inr k) =
          let o = all_has _ vs w are.all k.0 in
          (o.0, has_row n left o.0 free (left_has (ids_of found) tree o.0 o.1 (other o.0 w o.2 k.1 (ids_of found) ids)), o.2)

  keys_differ : (rows : List Row) → ((x : Row) → Has rows x → Has left x) → AllByRecursion (λ m. eqb (key_of n) m ≡ false) (map key_of rows)
  keys_differ [] f = tt
  keys_differ (x ∷ xs) f =
      let k = f x (inl refl) in
      let m = numbered x (has_left (ids_of found) tree x k) in
      let test : eqb v.slot m.0 ≡ false = let a = apart x m.0 k m.1 in grind (arith, nat_tests) in
      (rw (new_slot, m.1) test, keys_differ xs (λ y h. f y (inr h)))

  pub votes_put : AreVotes reading promised floor (put_row n left) (put_vote v vs)
  votes_put = record {
    each = each;
    all = all;
    once = once_put n left (keys_differ left (λ x h. h)) (once_left (ids_of found) tree are.once);
    promised_all = all_from _ (put_vote v vs) (λ w h. under_all w (has_put_old v floor vs w are.ascend h));
    ascend = ascend_put v floor vs are.ascend above;
  }
    where
      under_all : (w : Vote B) → (w ≡ v) ⊎ (Has vs w × (w.slot ≡ v.slot → ⊥)) → is_promised promised w.ballot ≡ true
      under_all w (inl e) = subst (λ (u : Vote B). is_promised promised u.ballot ≡ true) (sym e) under
      under_all w (inr k) = all_has _ vs w are.promised_all k.0

-- the row of `meta`

without_none : (is : List ℤ) → without_all [] is ≡ []
without_none [] = refl
without_none (i ∷ is) = without_none is

without_one : (is : List ℤ) (row : Row) → (without_all (row ∷ []) is ≡ row ∷ []) ⊎ (without_all (row ∷ []) is ≡ [])
without_one [] row = inl refl
without_one (i ∷ is) row = go (has_rowid i row) (without_one is row)
  where
    go : (b : Bool) → (without_all (row ∷ []) is ≡ row ∷ []) ⊎ (without_all (row ∷ []) is ≡ [])
        → (without_all (cond (not b) (row ∷ []) []) is ≡ row ∷ []) ⊎ (without_all (cond (not b) (row ∷ []) []) is ≡ [])
    go true more = inr (without_none is)
    go false more = more

pub one_put : (k : ℕ) (tree : List Row) (n : Row) (found : List Row) → HasAtMost k tree → rowid n ≡ Int (pos k)
    → is_taken (without_all tree (ids_of found)) n ≡ false → put_row n (without_all tree (ids_of found)) ≡ n ∷ []
one_put k tree n found (inl e) is free = rw (e, without_none (ids_of found)) refl
one_put k tree n found (inr o) is free = rw o.1 (go (without_one (ids_of found) o.0) (rw o.1 at free))
  where
    go : (without_all (o.0 ∷ []) (ids_of found) ≡ o.0 ∷ []) ⊎ (without_all (o.0 ∷ []) (ids_of found) ≡ [])
        → is_taken (without_all (o.0 ∷ []) (ids_of found)) n ≡ false → put_row n (without_all (o.0 ∷ []) (ids_of found)) ≡ n ∷ []
    go (inl e) f =
        let t = rw (e, o.2, is, number_cmp k k) at f in
        absurd (grind (arith, nat_tests))
    go (inr e) f = rw e refl

-- a row is put into the tree of a table, in the place of those with its rowid, and the other trees stay
pub record PutsRow (tables : List Table) (t : Table) (new_row : Row) (old new : Database) : Type 0 where
  pub edits : Edits (schema_of tables) t.tree old new
  pub found : List Row
  pub conflict : AreConflicts None [] t (old.trees t.tree) new_row found
  pub free : is_taken (without_all (old.trees t.tree) (ids_of found)) new_row ≡ false
  pub rows : new.trees t.tree ≡ put_row new_row (without_all (old.trees t.tree) (ids_of found))

-- a text that puts a row into the table at a place of the schema, whose keys lead to no other table
module _ (tables : List Table) (at : ℕ) (t : Table) (sql : List ℕ) (terms : List Term) (width : ℕ) (params row : Row)
    (is_at : slice_get tables at ≡ Some t) (is : command_of (understood (schema_of tables) sql) ≡ InsertOr at Replace (Values terms width) [])
    (plain : IsPlain (understood (schema_of tables) sql)) (uncounted : t.is_counted ≡ false)
    (alone : (keys : Keys) (olds news : List Row) → works (schema_of tables) keys 0 t.tree olds news ≡ [])
    (given : value_rows (stamped t params) width (length terms / width) terms ≡ row ∷ [])
    (whole : cast_row t row ≡ row) (made : cast_row t (mended Replace t row) ≡ row) (chosen : is_chosen Chosen (rowid row) ≡ false) where
  abbrev known : Schema
  known = schema_of tables

  abbrev writes : Command
  writes = InsertOr at Replace (Values terms width) []

  puts_row : (old new : State) (r : Result ℕ Error) → old.now.schema ≡ known → Executes sql params old new r
      → OnOk r (PutsRow tables t row old.now new.now)
  puts_row old new (Err e) has h = tt
  puts_row old new (Ok count) has h =
      let db = old.now.trees in
      let mode = mode_of old in
      let steps = old.step_limit in
      let w = runs_as sql params old new known has writes is plain count h in
      let text = statement_of sql (understood known sql) in
      let out : Result (Tally × Database) (Option Error) = Ok (w.tally, new.now) in
      let does = subst (λ s. Does steps mode params (record old.now { schema = s }) text None writes out) has w.changed in
      let doing = λ (table : Table).
      OnRows (record { limit = steps; keys = mode.keys; schema = known; table = table; params = params }) mode None writes db in
      let it = task t row whole known alone steps mode.keys params in
      let on : OnRows it mode None writes db out = subst (λ o. AtPlace doing o out) is_at does in
      let done = went on in
      let now = ap (λ (p : Tally × Database). p.1) (same_value (went (went done.2).2).2) in
      let source = went done.1 in
      let counted = went source.2 in
      let all = went counted.2 in
      let top = count_of counted.0 in
      let last = went all.2 in
      let same : last.0 ≡ all.0.0.trees = not_counted it all.0.0.trees last.0 counted.0 all.0.1 uncounted last.1 in
      let trees : done.0.trees ≡ all.0.0.trees = ap (λ (w : Written). w.trees) (same_value last.2) ∙ same in
      let tried = subst (λ rows. TriesEach it Replace [] rows top (nothing db) (Ok all.0)) (source.1.1 ∙ given) all.1 in
      let one = replaces t row whole known alone steps mode.keys params row made chosen uncounted db top all.0 tried in
      let left = λ (tree : ℕ). ap (λ (d : Database). d.trees tree) now ∙ ap (λ (ts : Trees). ts tree) trees in
      record {
        edits = record {
          schema = ap (λ (d : Database). d.schema) now;
          sound = subst (λ (s : Schema). IsSound s new.now.trees) (ap (λ (d : Database). d.schema) now) w.sound;
          others = λ other differs. left other ∙ one.puts.others other differs tt;
        };
        found = one.found;
        conflict = one.are;
        free = one.puts.free;
        rows = left t.tree ∙ one.puts.rows;
      }

-- the row of a table that has no row of another rowid
puts_alone : (tables : List Table) (t : Table) (row : Row) (k : ℕ) (old new : Database) (r : Result ℕ Error) → rowid row ≡ Int (pos k)
    → HasAtMost k (old.trees t.tree) → OnOk r (PutsRow tables t row old new) → OnOk r (PutsAlone (schema_of tables) t.tree row old new)
puts_alone tables t row k old new (Err e) is most h = tt
puts_alone tables t row k old new (Ok count) is most put =
    record { edits = put.edits; alone = put.rows ∙ one_put k (old.trees t.tree) row put.found most is put.free }

-- the statements

abbrev pub vote_params : ℕ → ℕ → ℕ → List ℕ → Row
vote_params slot round node entry = Int (pos slot) ∷ Int (pos round) ∷ Int (pos node) ∷ Blob entry ∷ []

vote_cast : (slot round node : ℕ) (entry : List ℕ) → cast_row vote_table (vote_row slot round node entry) ≡ vote_row slot round node entry
vote_cast slot round node entry = rw (cast_int (pos slot), cast_int (pos round), cast_int (pos node), cast_null) refl

vote_made : (slot round node : ℕ) (entry : List ℕ) → cast_row vote_table (mended Replace vote_table (vote_row slot round node entry)) ≡ vote_row slot round node entry
vote_made slot round node entry = rw (cast_int (pos slot), cast_int (pos round), cast_int (pos node), cast_null) refl

pub puts_vote : (old new : State) (slot round node : ℕ) (entry : List ℕ) (r : Result ℕ Error) → old.now.schema ≡ store_schema
    → Executes put_vote_text (vote_params slot round node entry) old new r
    → OnOk r (PutsRow store_tables vote_table (vote_row slot round node entry) old.now new.now)
puts_vote old new slot round node entry =
    puts_row store_tables 1 vote_table put_vote_text put_vote_terms 5 (vote_params slot round node entry) (vote_row slot round node entry)
    refl put_vote_is put_vote_plain refl (λ _ _ _. refl) refl (vote_cast slot round node entry) (vote_made slot round node entry) refl old new

abbrev pub meta_params : ℕ → ℕ → ℕ → Row
meta_params boot round node = Int (pos boot) ∷ Int (pos round) ∷ Int (pos node) ∷ []

meta_cast : (boot round node : ℕ) → cast_row meta_table (meta_row boot round node) ≡ meta_row boot round node
meta_cast boot round node = rw (cast_int (pos 1), cast_int (pos 2), cast_int (pos boot), cast_int (pos round), cast_int (pos node), cast_null) refl

meta_made : (boot round node : ℕ) → cast_row meta_table (mended Replace meta_table (meta_row boot round node)) ≡ meta_row boot round node
meta_made boot round node = rw (cast_int (pos 1), cast_int (pos 2), cast_int (pos boot), cast_int (pos round), cast_int (pos node), cast_null) refl

pub puts_meta : (old new : State) (boot round node : ℕ) (r : Result ℕ Error) → old.now.schema ≡ store_schema → HasAtMost 1 (old.now.trees 0)
    → Executes put_meta_text (meta_params boot round node) old new r
    → OnOk r (PutsAlone store_schema 0 (meta_row boot round node) old.now new.now)
puts_meta old new boot round node r has most h =
    puts_alone store_tables meta_table (meta_row boot round node) 1 old.now new.now r refl most
    (puts_row store_tables 0 meta_table put_meta_text put_meta_terms 6 (meta_params boot round node) (meta_row boot round node)
    refl put_meta_is put_meta_plain refl (λ _ _ _. refl) refl (meta_cast boot round node) (meta_made boot round node) refl old new r has h)

abbrev pub snapshot_params : ℕ → List ℕ → Row
snapshot_params floor octets = Int (pos floor) ∷ Blob octets ∷ []

snapshot_cast : (floor : ℕ) (octets : List ℕ) → cast_row snapshot_table (snapshot_row floor octets) ≡ snapshot_row floor octets
snapshot_cast floor octets = rw (cast_int (pos 1), cast_int (pos floor), cast_null) refl

snapshot_made : (floor : ℕ) (octets : List ℕ) → cast_row snapshot_table (mended Replace snapshot_table (snapshot_row floor octets)) ≡ snapshot_row floor octets
snapshot_made floor octets = rw (cast_int (pos 1), cast_int (pos floor), cast_null) refl

pub puts_snapshot : (old new : State) (floor : ℕ) (octets : List ℕ) (r : Result ℕ Error) → old.now.schema ≡ store_schema → HasAtMost 1 (old.now.trees 2)
    → Executes put_snapshot_text (snapshot_params floor octets) old new r
    → OnOk r (PutsAlone store_schema 2 (snapshot_row floor octets) old.now new.now)
puts_snapshot old new floor octets r has most h =
    puts_alone store_tables snapshot_table (snapshot_row floor octets) 1 old.now new.now r refl most
    (puts_row store_tables 2 snapshot_table put_snapshot_text put_snapshot_terms 4 (snapshot_params floor octets) (snapshot_row floor octets)
    refl put_snapshot_is put_snapshot_plain refl (λ _ _ _. refl) refl (snapshot_cast floor octets) (snapshot_made floor octets) refl old new r has h)
