-- What a keeper holds and finds, over the calls of its connection.
use Rattle.std.proofs.Common.{◌≡◌, ◌≢◌, ◌⊎◌, inl, inr, ⊎_elim, ℕ, zero, suc, length, drop, ◌+◌, ◌≤◌, not, ◌||◌, Bool, true, false, cond, List, [], ◌∷◌, Option, Some, None, Ok, refl, ap, sym, ◌∙◌, subst, arith, IsTrue, nat_lt}
use Rattle.std.specs.Prelude.{◌&&◌, ◌==◌}
use Rattle.std.specs.Option.{option_or}
use Rattle.std.proofs.lemmas.Bool.Decides.{nat_tests}
use Rattle.sqlite_trees.specs.Tree.{Trees}
use Rattle.sqlite_catalog.specs.Listing.{IsSound}
use Rattle.sqlite_catalog.proofs.ReadLemmas.{lists_once}
use Rattle.sqlite_schema.specs.declared.schema.Schema.{Schema}
use Rattle.sqlite.specs.Effect.{Database}
use Rattle.sqlite.specs.State.{State, HasCleanDisk, IsLive, Survives}
use Rattle.std.specs.List.{AllByRecursion}
use Rattle.paxos_packets.specs.Ballot.{below}
use Rattle.paxos_packets.specs.Snapshot.{floor_in}
use Rattle.paxos_packets.specs.Vote.{put_vote, put_votes}
use Rattle.paxos_packets.specs.declared.ballot.Ballot.{Ballot}
use Rattle.paxos_packets.specs.declared.vote.Vote.{Vote}
use Rattle.paxos_packets.specs.declared.rows.Rows.{Rows}
use Rattle.command_codec.specs.Number.{Reading}
use Rattle.acceptor_store.specs.Tables.{store_schema}
use Rattle.acceptor_store.specs.Statements.{AreShown}
use Rattle.store_rows.specs.Rows.{is_promised, TableRows, rows_of}
use Rattle.acceptor_store.specs.Store.{StandsFor, Stores, Reads, Leaves, GoesOn, NotLowered}
use Rattle.store_rows.specs.Changes.{is_placed, is_lower, promise_after}
use Rattle.store_rows.specs.Numbers.{is_ballot}
use Rattle.acceptor_store.specs.Once.{stands_once}
use Rattle.acceptor_store.proofs.Meaning.{stands}

module _ {B : Type 0} (reading : List ℕ → Reading B) where
  -- what does nothing commits nothing
  pub survives_same : (s : State) → Survives s s (λ _. ⊥)
  survives_same s = record {
    clean = omega arith;
    shield = λ it. it;
    counts = omega arith;
    limit = refl;
    closes = λ clean is_open. inl is_open;
    crash = λ clean trees may. inl may;
  }

  -- what commits nothing leaves what was left before
  pub leaves_on : (old new : State) (rows : Rows B) → Survives old new (λ _. ⊥) → HasCleanDisk new → Leaves reading old rows → Leaves reading new rows
  leaves_on old new rows survives clean left trees may = ⊎_elim (λ was. left trees was) (λ none. absurd none) (survives.crash clean trees may)

  -- an open connection sees what is left
  pub left_reads : (s : State) (rows : Rows B) → IsLive s → s.now ≡ s.committed → IsTrue s.is_open → s.may_leave s.committed.trees → Leaves reading s rows
      → Reads reading s.now rows
  left_reads s rows live settled is_open stays left =
      let stores = left s.committed.trees stays in
      let same : s.committed.schema ≡ store_schema = lists_once _ s.committed.schema store_schema (live is_open).1.lists stores.sound.lists in
      (ap (λ (d : Database). d.schema) settled ∙ same, subst (λ (d : Database). Stores reading d.trees rows) (sym settled) stores)

  -- what it reads is left, if a crash leaves the last commit
  pub reads_left : (s : State) (rows : Rows B) → ((trees : Trees) → s.may_leave trees → trees ≡ s.committed.trees) → Stores reading s.committed.trees rows → Leaves reading s rows
  reads_left s rows crash stores trees may = subst (λ t. Stores reading t rows) (sym (crash trees may)) stores

  -- rows that were read are stored
  pub read_stores : (s : State) (shown : TableRows) (rows : Rows B) → IsLive s → IsTrue s.is_open → s.now ≡ s.committed → s.now.schema ≡ store_schema
      → AreShown s.now.trees shown → rows_of reading shown ≡ Ok rows → Stores reading s.committed.trees rows
  read_stores s shown rows live is_open settled has are h = record {
    sound = subst (λ (d : Database). IsSound store_schema d.trees) settled (subst (λ (t : Schema). IsSound t s.now.trees) has (live is_open).0);
    has = subst (λ (d : Database). StandsFor reading d.trees rows) settled (stands reading s.now.trees shown are rows h);
  }

  -- and they are those that are left
  pub read_right : (s : State) (shown : TableRows) (rows others : Rows B) → s.now ≡ s.committed → s.may_leave s.committed.trees
      → AreShown s.now.trees shown → rows_of reading shown ≡ Ok rows → Leaves reading s others → rows ≡ others
  read_right s shown rows others settled stays are h left =
      let has : StandsFor reading s.now.trees others = subst (λ (d : Database). StandsFor reading d.trees others) (sym settled) (left s.committed.trees stays).has in
      stands_once reading s.now.trees others rows has (stands reading s.now.trees shown are rows h)

-- a promise that is taken over is not lower

not_below : (a b c : Ballot) → below a b ≡ false → below b c ≡ false → below a c ≡ false
not_below a b c = go a.round a.node b.round b.node c.round c.node
  where
    go : (ar an br bn cr cn : ℕ) → nat_lt ar br || ((ar == br) && nat_lt an bn) ≡ false → nat_lt br cr || ((br == cr) && nat_lt bn cn) ≡ false
        → nat_lt ar cr || ((ar == cr) && nat_lt an cn) ≡ false
    go ar an br bn cr cn p q = grind (arith, nat_tests)

not_true : (b : Bool) → not b ≡ true → b ≡ false
not_true true h = absurd cc
not_true false h = refl

pub not_lowered : (promised change next : Option Ballot) → promise_after promised change ≡ Some next → NotLowered promised next
not_lowered promised None next h b under = let e : promised ≡ next = cc in subst (λ p. is_promised p b ≡ true) e under
not_lowered promised (Some c) next h b under = go (is_ballot c) (is_lower c promised) refl h
  where
    stands_over : (p : Option Ballot) → is_lower c p ≡ false → is_promised p b ≡ true → not (below c b) ≡ true
    stands_over None l u = absurd cc
    stands_over (Some p) l u = ap not (not_below c p b l (not_true _ u))

    go : (x y : Bool) → is_lower c promised ≡ y → cond (not x || y) None (Some (Some c)) ≡ Some next → is_promised next b ≡ true
    go false y e h = absurd cc
    go true true e h = absurd cc
    go true false e h = let same : Some c ≡ next = cc in subst (λ p. is_promised p b ≡ true) same (stands_over promised e under)

pub promise_is : (promised change next : Option Ballot) → promise_after promised change ≡ Some next → next ≡ option_or change promised
promise_is promised None next h = let e : promised ≡ next = cc in sym e
promise_is promised (Some c) next h = go (not (is_ballot c) || is_lower c promised) h
  where
    go : (x : Bool) → cond x None (Some (Some c)) ≡ Some next → next ≡ Some c
    go true h = absurd cc
    go false h = let same : Some c ≡ next = cc in sym same

-- the votes that were written so far, and those that are left
abbrev pub SoFar : {B : Type 0} → (List ℕ → Reading B) → List (Vote B) → List (Vote B) → State → State → ℕ → Type 0
SoFar {B} reading votes rest old now n =
    IsTrue now.in_transaction × ((n ≡ 0) ⊎ IsTrue old.is_open)
    × ((rows : Rows B) → Reads reading old.now rows → AllByRecursion (λ v. is_placed rows.promised (floor_in rows.snapshot) v ≡ true) votes
    → (vs : List (Vote B)) × Reads reading now.now (record rows { votes = vs }) × (put_votes rest vs ≡ put_votes votes rows.votes)
    × AllByRecursion (λ v. is_placed rows.promised (floor_in rows.snapshot) v ≡ true) rest)

pub so_far_none : {B : Type 0} (reading : List ℕ → Reading B) (votes : List (Vote B)) (old : State) → IsTrue old.in_transaction → SoFar reading votes votes old old 0
so_far_none reading votes old inside = (inside, inl refl, λ rows has placed. (rows.votes, has, refl, placed))

pub so_far_next : {B : Type 0} (reading : List ℕ → Reading B) (votes more : List (Vote B)) (v : Vote B) (old mid new : State) (n : ℕ) → SoFar reading votes (v ∷ more) old mid n
    → ((rows : Rows B) → Reads reading mid.now rows → is_placed rows.promised (floor_in rows.snapshot) v ≡ true → Reads reading new.now (record rows { votes = put_vote v rows.votes }))
    → GoesOn (Unit {0}) mid new → (n ≡ 0 → mid.is_open ≡ old.is_open) → SoFar reading votes more old new (n + 1)
so_far_next reading votes more v old mid new n so put goes first = (
  goes.0,
  inr (⊎_elim (λ e. subst IsTrue (first e) (goes.1 tt)) (λ o. o) so.1),
  λ rows has placed.
      let k = so.2 rows has placed in
      (put_vote v k.0, put (record rows { votes = k.0 }) k.1 k.3.0, k.2, k.3.1),
)

pub so_far_all : {B : Type 0} (reading : List ℕ → Reading B) (votes : List (Vote B)) (old now : State) (n : ℕ) → SoFar reading votes [] old now n
    → (rows : Rows B) → Reads reading old.now rows → AllByRecursion (λ v. is_placed rows.promised (floor_in rows.snapshot) v ≡ true) votes
    → Reads reading now.now (record rows { votes = put_votes votes rows.votes })
so_far_all reading votes old now n so rows has placed = let k = so.2 rows has placed in subst (λ vs. Reads reading now.now (record rows { votes = vs })) k.2 k.1

-- what a crash leaves of a commit
pub leaves_or : {B : Type 0} (reading : List ℕ → Reading B) (old new : State) (P : Database → Type 0) (rows : Rows B)
    → Survives old new (λ trees. IsTrue old.is_open × ((db : Database) × P db × (trees ≡ db.trees)))
    → (IsTrue old.is_open → (db : Database) → P db → Stores reading db.trees rows) → HasCleanDisk new → (trees : Trees) → new.may_leave trees
    → old.may_leave trees ⊎ Stores reading trees rows
leaves_or reading old new P rows survives made clean trees may =
    ⊎_elim (λ was. inl was) (λ p. inr (subst (λ t. Stores reading t rows) (sym p.1.2) (made p.0 p.1.0 p.1.1))) (survives.crash clean trees may)

-- past the end of a list

pub drop_past : {A : Type 0} (xs : List A) (i : ℕ) → length xs ≤ i → drop i xs ≡ []
drop_past [] zero l = refl
drop_past [] (suc i) l = refl
drop_past (x ∷ xs) zero l = absurd (omega arith)
drop_past (x ∷ xs) (suc i) l = drop_past xs i (omega arith)

pub nil_of : {A : Type 0} (xs : List A) → length xs ≤ 0 → xs ≡ []
nil_of [] l = refl
nil_of (x ∷ xs) l = absurd (omega arith)

-- a commit over rows that are left
pub wrote_left : {B : Type 0} (reading : List ℕ → Reading B) (old new : State) (rows next : Rows B) → IsLive old → old.now ≡ old.committed
    → old.may_leave old.committed.trees → IsTrue old.is_open → ((trees : Trees) → new.may_leave trees → trees ≡ new.committed.trees)
    → (Reads reading old.now rows → Reads reading new.committed next) → Leaves reading old rows → Leaves reading new next
wrote_left reading old new rows next live settled stays is_open crash wrote left =
    reads_left reading new next crash (wrote (left_reads reading old rows live settled is_open stays left)).1

-- what was done in three parts of a transaction, of which one did something
pub went_on : {X V : Type 0} (o : Option X) (puts : Bool) (old one two new : State) → (puts ≡ true) ⊎ ((o ≢ None) ⊎ V) → GoesOn (o ≢ None) old one
    → GoesOn (puts ≡ true) one two → GoesOn V two new → (o ≡ None → one ≡ old) → (puts ≡ false → two ≡ one) → GoesOn (Unit {0}) old new
went_on (Some x) puts old one two new some a b c idle still = (c.0, λ _. a.1 (λ e. absurd cc))
went_on None true old one two new some a b c idle still = (c.0, λ _. subst (λ (s : State). IsTrue s.is_open) (idle refl) (b.1 refl))
went_on {X} {V} None false old one two new some a b c idle still =
    (c.0, λ _. subst (λ (s : State). IsTrue s.is_open) (idle refl) (subst (λ (s : State). IsTrue s.is_open) (still refl) (c.1 (only some))))
  where
    only : (false ≡ true) ⊎ ((◌≢◌ {A = Option X} None None) ⊎ V) → V
    only (inl e) = absurd cc
    only (inr (inl n)) = absurd (n refl)
    only (inr (inr v)) = v
