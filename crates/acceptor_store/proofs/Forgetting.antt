-- What is left of the votes after a DELETE of those up to a slot.
use Rattle.std.proofs.Common.{◌≡◌, inl, inr, ℕ, ℤ, suc, pos, ◌<◌, ◌≤◌, not, ◌||◌, ◌&&◌, Bool, true, false, cond, List, [], ◌∷◌, map, filter, Option, Some, Ok, Err, Result, OnOk, eqb, leb, ltb, refl, sym, ap, subst, ◌∙◌, arith}
use Rattle.std.specs.Prelude.{nat_le, nat_lt, IsPermutation}
use Rattle.std.specs.Ordering.{is_le, int_cmp}
use Rattle.std.specs.List.{list_any}
use Rattle.std.proofs.lemmas.Bool.{ltb-true, ltb-false}
use Rattle.std.proofs.lemmas.Bool.Decides.{nat_tests}
use Rattle.std.proofs.lemmas.Int.{ints}
use Rattle.std.proofs.lemmas.List.Sorted.{IsPermutation-map, list_any-IsPermutation}
use Rattle.sqlite_value.specs.declared.value.Value.TheVariants.{Int}
use Rattle.sqlite_value.specs.declared.keys.Collation.TheVariants.{Binary}
use Rattle.sqlite_value.specs.Order.{Row}
use Rattle.sqlite_value.proofs.OrderLemmas.{value_cmp-Int}
use Rattle.sqlite_trees.specs.Tree.{rowid, has_rowid, without_rowid}
use Rattle.sqlite_sql.specs.Term.{Term, col, op2}
use Rattle.sqlite_sql.specs.Ops.{binary, is_true, from_truth}
use Rattle.sqlite_sql.specs.declared.ops.BinaryOp.TheVariants as by
use Rattle.sqlite_sql.specs.declared.ops.CompareOp.TheVariants.{Le}
use Rattle.sqlite_schema.specs.declared.command.Command.TheVariants.{Delete}
use Rattle.sqlite_tied.specs.Compute.{everything}
use Rattle.sqlite_rules.specs.Calls.{ids_of}
use Rattle.sqlite_rules.specs.Edit.{id_in, without_all}
use Rattle.sqlite_rules.specs.Lists.{Has}
use Rattle.sqlite.specs.declared.error.Error.{Error}
use Rattle.sqlite.specs.Listing.{understood}
use Rattle.sqlite.specs.State.{State, Executes}
use Rattle.sqlite.proofs.Callers.{IsPlain, command_of}
use Rattle.paxos_packets.specs.Vote.{votes_from}
use Rattle.paxos_packets.specs.declared.ballot.Ballot.{Ballot}
use Rattle.paxos_packets.specs.declared.vote.Vote.{Vote}
use Rattle.command_codec.specs.Number.{Reading}
use Rattle.acceptor_store.specs.Tables.{vote_table, store_tables, store_schema, delete_votes_text, vote_columns}
use Rattle.acceptor_store.specs.Statements.{Keeps, is_above}
use Rattle.acceptor_store.specs.Store.{IsVote, AreVotes}
use Rattle.acceptor_store.specs.Once.{all_has}
use Rattle.acceptor_store.proofs.Trees.{number_cmp, once_filtered, has_filtered, filter_keeps}
use Rattle.acceptor_store.proofs.Votes.{all_from, ascend_above}
use Rattle.acceptor_store.proofs.Putting.{vote_slot}
use Rattle.acceptor_store.proofs.Deleting.{rowids_query, passes, id_row, deletes_rows}

-- the text

abbrev pub up_to : List Term
up_to = op2 (by.Compare Le Binary) (col 1 0) (col 0 0) ∷ []

pub delete_votes_is : command_of (understood store_schema delete_votes_text) ≡ Delete 1 (record { lets = []; body = rowids_query 1 up_to })
unfolding understood everything
delete_votes_is = refl

pub delete_votes_plain : IsPlain (understood store_schema delete_votes_text)
unfolding understood everything
delete_votes_plain = (refl, refl)

-- the test, at a rowid that is a natural number

truth_of : (b : Bool) → is_true (from_truth (Some b)) && true ≡ b
truth_of true = refl
truth_of false = refl

le_cmp : (m n : ℕ) → is_le (int_cmp (pos m) (pos n)) ≡ leb m n
le_cmp m n = grind (arith, ints, nat_tests)

pub passes_is : (floor m : ℕ) (row : Row) → rowid row ≡ Int (pos m) → passes up_to (Int (pos floor) ∷ []) row ≡ leb m floor
unfolding binary
passes_is floor m row is = rw (is, value_cmp-Int (pos m) (pos floor), truth_of (is_le (int_cmp (pos m) (pos floor)))) (le_cmp m floor)

-- what is left without some rowids

filter_all : {A : Type 0} (xs : List A) → filter (λ _. true) xs ≡ xs
filter_all [] = refl
filter_all (x ∷ xs) = ap (λ ys. x ∷ ys) (filter_all xs)

filter_twice : {A : Type 0} (p q : A → Bool) (xs : List A) → filter q (filter p xs) ≡ filter (λ x. p x && q x) xs
filter_twice p q [] = refl
filter_twice {A} p q (x ∷ xs) = go (p x) (filter_twice p q xs)
  where
    go : (b : Bool) → filter q (filter p xs) ≡ filter (λ y. p y && q y) xs
        → filter q (cond b (x ∷ filter p xs) (filter p xs)) ≡ cond (b && q x) (x ∷ filter (λ y. p y && q y) xs) (filter (λ y. p y && q y) xs)
    go true more = ap (λ ys. cond (q x) (x ∷ ys) ys) more
    go false more = more

pub filter_alike : {A : Type 0} (p q : A → Bool) (xs : List A) → ((x : A) → Has xs x → p x ≡ q x) → filter p xs ≡ filter q xs
filter_alike p q [] same = refl
filter_alike p q (x ∷ xs) same =
    let more = filter_alike p q xs (λ y h. same y (inr h)) in
    λ i. cond (same x (inl refl) i) (x ∷ more i) (more i)

abbrev is_gone : List ℤ → Row → Bool
is_gone ids row = list_any (λ id. has_rowid id row) ids

not_or : (a b : Bool) → not a && not b ≡ not (a || b)
not_or true b = refl
not_or false b = refl

without_is : (ids : List ℤ) (rows : List Row) → without_all rows ids ≡ filter (λ r. not (is_gone ids r)) rows
without_is [] rows = sym (filter_all rows)
without_is (i ∷ is) rows =
    without_is is (without_rowid i rows) ∙ filter_twice (λ r. not (has_rowid i r)) (λ r. not (is_gone is r)) rows
    ∙ filter_alike _ (λ r. not (is_gone (i ∷ is) r)) rows (λ r _. not_or (has_rowid i r) (is_gone is r))

or_true : (b c : Bool) → c ≡ true → b || c ≡ true
or_true true c h = refl
or_true false c h = h

module _ (floor : ℕ) where
  abbrev goes : Row → Bool
  goes = passes up_to (Int (pos floor) ∷ [])

  abbrev gone_ids : List Row → List ℤ
  gone_ids rows = ids_of (map id_row (filter goes rows))

  module _ (row : Row) (m : ℕ) (is : rowid row ≡ Int (pos m)) where
    id_is : (r : Row) (k : ℕ) → rowid r ≡ Int (pos k) → ids_of (id_row r ∷ []) ≡ pos k ∷ []
    id_is r k e = rw e refl

    tests : (k : ℕ) → has_rowid (pos k) row ≡ eqb m k
    tests k = rw is (number_cmp m k)

    -- a row above the slot has the rowid of none that goes
    stays : (rows : List Row) → ((r : Row) → Has rows r → (k : ℕ) × (rowid r ≡ Int (pos k))) → floor < m → is_gone (gone_ids rows) row ≡ false
    stays [] numbered above = refl
    stays (r ∷ rs) numbered above = go (goes r) refl (stays rs (λ x h. numbered x (inr h)) above)
      where
        go : (b : Bool) → goes r ≡ b → is_gone (gone_ids rs) row ≡ false
            → is_gone (ids_of (map id_row (cond b (r ∷ filter goes rs) (filter goes rs)))) row ≡ false
        go true e more =
            let low : leb (numbered r (inl refl)).0 floor ≡ true = sym (passes_is floor (numbered r (inl refl)).0 r (numbered r (inl refl)).1) ∙ e in
            let differs : eqb m (numbered r (inl refl)).0 ≡ false = grind (arith, nat_tests) in
            rw ((numbered r (inl refl)).1, tests (numbered r (inl refl)).0, differs) more
        go false e more = more

    -- a row up to the slot goes
    goes_in : (rows : List Row) → Has rows row → m ≤ floor → is_gone (gone_ids rows) row ≡ true
    goes_in [] h low = absurd h
    goes_in (r ∷ rs) (inl e) low =
        let test : goes r ≡ true = let t : leb m floor ≡ true = grind (arith, nat_tests) in passes_is floor m r (subst (λ (x : Row). rowid x ≡ Int (pos m)) e is) ∙ t in
        let same : eqb m m ≡ true = grind (arith, nat_tests) in
        let number : rowid r ≡ Int (pos m) = subst (λ (x : Row). rowid x ≡ Int (pos m)) e is in
        rw (test, number, tests m, same) refl
    goes_in (r ∷ rs) (inr k) low = go (goes r) (goes_in rs k low)
      where
        go : (b : Bool) → is_gone (gone_ids rs) row ≡ true → is_gone (ids_of (map id_row (cond b (r ∷ filter goes rs) (filter goes rs)))) row ≡ true
        go true more = or_true _ _ more
        go false more = more

    gone_is : (rows : List Row) → ((r : Row) → Has rows r → (k : ℕ) × (rowid r ≡ Int (pos k))) → Has rows row
        → not (is_gone (gone_ids rows) row) ≡ nat_lt floor m
    gone_is rows numbered h = go (ltb floor m) refl
      where
        go : (b : Bool) → ltb floor m ≡ b → not (is_gone (gone_ids rows) row) ≡ ltb floor m
        go true e = let above : floor < m = ltb-true floor m e in rw (stays rows numbered above, e) refl
        go false e = let low : m ≤ floor = ltb-false floor m e in rw (goes_in rows h low, e) refl

  -- the rows left are those above the slot, if each has a natural number
  pub left_above : (rows found : List Row) → ((r : Row) → Has rows r → (k : ℕ) × (rowid r ≡ Int (pos k)))
      → IsPermutation (map id_row (filter goes rows)) found → without_all rows (ids_of found) ≡ filter (is_above floor) rows
  left_above rows found numbered shown =
      without_is (ids_of found) rows
      ∙ filter_alike (λ r. not (is_gone (ids_of found) r)) (is_above floor) rows (λ r h.
      let k = numbered r h in
      let key : is_above floor r ≡ nat_lt floor k.0 = rw k.1 refl in
      ap not (sym (list_any-IsPermutation (λ id. has_rowid id r) (gone_ids rows) (ids_of found) (IsPermutation-map (λ (x : Row). id_in (rowid x)) (map id_row (filter goes rows)) found shown)))
      ∙ gone_is r k.0 k.1 rows numbered h ∙ sym key)

pub deletes_votes : (old new : State) (floor : ℕ) (r : Result ℕ Error) → old.now.schema ≡ store_schema
    → ((row : Row) → Has (old.now.trees 1) row → (k : ℕ) × (rowid row ≡ Int (pos k)))
    → Executes delete_votes_text (Int (pos floor) ∷ []) old new r → OnOk r (Keeps store_schema 1 (is_above floor) old.now new.now)
deletes_votes old new floor (Err e) has numbered h = tt
deletes_votes old new floor (Ok count) has numbered h =
    let took = deletes_rows store_tables 1 vote_table delete_votes_text up_to refl delete_votes_is delete_votes_plain (λ _ _ _. refl) (λ _. refl)
    (Int (pos floor) ∷ []) old new (Ok count) has h in
    record { edits = took.edits; left = took.rows ∙ left_above floor (old.now.trees 1) took.found numbered took.shown }

-- the votes that are left

module _ {B : Type 0} (reading : List ℕ → Reading B) (promised : Option Ballot) (low : ℕ) (tree : List Row) (vs : List (Vote B)) (are : AreVotes reading promised low tree vs) where
  pub numbered : (row : Row) → Has tree row → (k : ℕ) × (rowid row ≡ Int (pos k))
  numbered row h = let v = all_has _ tree row are.each h in (v.0.slot, (vote_slot reading (vote_columns row) v.0 v.1).0)

  above_is : (floor : ℕ) (row : Row) (v : Vote B) → IsVote reading row v → is_above floor row ≡ nat_le (suc floor) v.slot
  above_is floor row v is = let slot : rowid row ≡ Int (pos v.slot) = (vote_slot reading (vote_columns row) v is).0 in rw slot (grind (arith, nat_tests))

  pub votes_left : (floor : ℕ) → AreVotes reading promised floor (filter (is_above floor) tree) (votes_from (suc floor) vs)
  votes_left floor = record {
    each = all_from _ (filter (is_above floor) tree) each;
    all = all_from _ (votes_from (suc floor) vs) all;
    once = once_filtered (is_above floor) tree are.once;
    promised_all = all_from _ (votes_from (suc floor) vs) (λ v h. all_has _ vs v are.promised_all (has_filtered _ vs v h).0);
    ascend = ascend_above floor low vs are.ascend;
  }
    where
      each : (row : Row) → Has (filter (is_above floor) tree) row → (v : Vote B) × IsVote reading row v × Has (votes_from (suc floor) vs) v
      each row h =
          let k = has_filtered (is_above floor) tree row h in
          let v = all_has _ tree row are.each k.0 in
          (v.0, v.1, filter_keeps (λ (w : Vote B). nat_le (suc floor) w.slot) vs v.0 v.2 (sym (above_is floor row v.0 v.1) ∙ k.1))

      all : (v : Vote B) → Has (votes_from (suc floor) vs) v → (row : Row) × Has (filter (is_above floor) tree) row × IsVote reading row v
      all v h =
          let k = has_filtered (λ (w : Vote B). nat_le (suc floor) w.slot) vs v h in
          let row = all_has _ vs v are.all k.0 in
          (row.0, filter_keeps (is_above floor) tree row.0 row.1 (above_is floor row.0 v row.2 ∙ k.1), row.2)

pub forgets_votes : {B : Type 0} (reading : List ℕ → Reading B) (old new : State) (floor low : ℕ) (promised : Option Ballot) (vs : List (Vote B)) (r : Result ℕ Error)
    → old.now.schema ≡ store_schema → AreVotes reading promised low (old.now.trees 1) vs → Executes delete_votes_text (Int (pos floor) ∷ []) old new r
    → OnOk r (Keeps store_schema 1 (is_above floor) old.now new.now × AreVotes reading promised floor (new.now.trees 1) (votes_from (suc floor) vs))
forgets_votes reading old new floor low promised vs (Err e) has are h = tt
forgets_votes reading old new floor low promised vs (Ok count) has are h =
    let it = deletes_votes old new floor (Ok count) has (numbered reading promised low (old.now.trees 1) vs are) h in
    (it, subst (λ tree. AreVotes reading promised floor tree (votes_from (suc floor) vs)) (sym it.left) (votes_left reading promised low (old.now.trees 1) vs are floor))
