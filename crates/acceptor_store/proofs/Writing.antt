-- Rows that were written are read again.
use Rattle.std.proofs.Common.{◌≡◌, ◌≢◌, inr, ℕ, suc, pos, negsuc, length, ◌<◌, ◌≤◌, ◌^◌, ◌&&◌, ◌||◌, not, Bool, true, false, cond, List, [], Option, Some, None, Ok, eqb, leb, refl, ap, sym, ◌∙◌, subst, arith, append-nil}
use Rattle.std.specs.Prelude.{nat_le, nat_lt, option_map, option_and_then}
use Rattle.std.proofs.lemmas.Bool.{and_parts, leb-true, ltb-true, le-leb, eqb-true}
use Rattle.std.proofs.lemmas.Bool.Decides.{nat_tests}
use Rattle.sqlite_value.specs.declared.value.Value.{Value}
use Rattle.sqlite_value.specs.declared.value.Value.TheVariants.{Null, Int, Real, Text, Blob}
use Rattle.sqlite_value.specs.Order.{Row, column}
use Rattle.sqlite_trees.specs.Tree.{rowid}
use Rattle.sqlite.specs.Effect.{Database}
use Rattle.paxos_packets.specs.Snapshot.{Snapshot, floor_end, number_at, is_floor, floor_at, floor_in}
use Rattle.paxos_packets.specs.Vote.{put_vote, votes_from}
use Rattle.paxos_packets.specs.declared.ballot.Ballot.{Ballot}
use Rattle.paxos_packets.specs.declared.vote.Vote.{Vote}
use Rattle.paxos_packets.specs.declared.rows.Rows.{Rows}
use Rattle.command_codec.specs.Number.{Reading}
use Rattle.command_codec.specs.Coder.{IsReadAgain, Puts}
use Rattle.command_codec.specs.Entry.{entry_reading, entry_spelling, entry_front, whole}
use Rattle.paxos_packets.specs.declared.entry.Entry.{Entry}
use Rattle.store_rows.specs.declared.rows.Numbers.{Numbers}
use Rattle.acceptor_store.specs.Tables.{store_schema, old_tables, snapshot_table, meta_row, vote_row, snapshot_row, meta_columns, snapshot_columns}
use Rattle.acceptor_store.specs.Statements.{round_of, node_of, HasAtMost, Makes, Edits, PutsAlone, Keeps, is_above}
use Rattle.store_rows.specs.Rows.{number, octets, is_number, within, boot_in, floor_of, ballot_in, promise_in, numbers_of, snapshot_at, snapshot_shown}
use Rattle.acceptor_store.specs.Store.{IsVote, AreVotes, HasNumbers, HasSnapshot, StoresOld, Reads, written, NotLowered}
use Rattle.store_rows.specs.Changes.{floor_after}
use Rattle.store_rows.specs.Numbers.{is_ballot, is_promise, are_numbers, numbers_in_rows}
use Rattle.acceptor_store.specs.Once.{all_has}
use Rattle.acceptor_store.proofs.Votes.{all_from}

within_read : (low high n : ℕ) → low ≤ n → n ≤ high → within low high (Int (pos n)) ≡ Some n
within_read low high n l h = let a : leb low n ≡ true = le-leb low n l in let b : leb n high ≡ true = le-leb n high h in rw (a, b) refl

ballot_bounds : (b : Ballot) → is_ballot b ≡ true → (1 ≤ b.round) × (b.round ≤ 281474976710655) × (1 ≤ b.node) × (b.node ≤ 7)
ballot_bounds b h =
    let k = and_parts (nat_le 1 b.round && nat_le b.round 281474976710655) (nat_le 1 b.node && nat_le b.node 7) h in
    let r = and_parts (nat_le 1 b.round) (nat_le b.round 281474976710655) k.0 in
    let n = and_parts (nat_le 1 b.node) (nat_le b.node 7) k.1 in
    (leb-true 1 b.round r.0, leb-true b.round 281474976710655 r.1, leb-true 1 b.node n.0, leb-true b.node 7 n.1)

pub ballot_read : (b : Ballot) → is_ballot b ≡ true → ballot_in (Int (pos b.round)) (Int (pos b.node)) ≡ Some b
ballot_read b h =
    let k = ballot_bounds b h in
    rw (within_read 1 281474976710655 b.round k.0 k.1, within_read 1 7 b.node k.2 k.3) refl

pub ballot_small : (b : Ballot) → is_ballot b ≡ true → b.round < 2 ^ 63
ballot_small b h = let k = (ballot_bounds b h).1 in omega arith

promise_read : (p : Option Ballot) → is_promise p ≡ true → promise_in (Int (pos (round_of p))) (Int (pos (node_of p))) ≡ Some p
promise_read None h = refl
promise_read (Some b) h =
    let k = ballot_bounds b h in
    let none : eqb b.round 0 ≡ false = grind (arith, nat_tests) in
    rw (none, ballot_read b h) refl

pub numbers_small : (n : Numbers) → are_numbers n ≡ true → (n.boot < 2 ^ 63) × (round_of n.promised < 2 ^ 63)
numbers_small n h =
    let k = and_parts (nat_le n.boot 281474976710655) (is_promise n.promised) h in
    let l : n.boot ≤ 281474976710655 = leb-true n.boot 281474976710655 k.0 in
    (omega arith, go n.promised k.1)
  where
    go : (p : Option Ballot) → is_promise p ≡ true → round_of p < 2 ^ 63
    go None h = omega arith
    go (Some b) h = ballot_small b h

pub numbers_read : (n : Numbers) → are_numbers n ≡ true
    → numbers_of 2 n.floor (meta_columns (meta_row n.boot (round_of n.promised) (node_of n.promised))) ≡ Some n
numbers_read n h =
    let k = and_parts (nat_le n.boot 281474976710655) (is_promise n.promised) h in
    let l : n.boot ≤ 281474976710655 = leb-true n.boot 281474976710655 k.0 in
    rw (within_read 0 281474976710655 n.boot (omega arith) l, promise_read n.promised k.1) refl

pub vote_read : {B : Type 0} (reading : List ℕ → Reading B) (v : Vote B) (octets : List ℕ) → 1 ≤ v.slot → v.slot < 2 ^ 40 → is_ballot v.ballot ≡ true
    → entry_reading reading octets ≡ Ok v.entry → IsVote reading (vote_row v.slot v.ballot.round v.ballot.node octets) v
vote_read reading v octets low high b e =
    rw (within_read 1 1099511627775 v.slot low (omega arith), ballot_read v.ballot b, e) refl

-- octets that an entry was spelled by are read as that entry
pub spelled_read : {B : Type 0} (spelling : B → Option (List ℕ)) (reading : List ℕ → Reading B) (entry : Entry B) (new : List ℕ)
    → IsReadAgain (entry_spelling spelling) (entry_front reading) → Puts (Ok tt) (entry_spelling spelling entry) [] new → entry_reading reading new ≡ Ok entry
spelled_read {B} spelling reading entry new again h = go (entry_spelling spelling entry) refl h
  where
    go : (o : Option (List ℕ)) → entry_spelling spelling entry ≡ o → Puts (Ok tt) o [] new → entry_reading reading new ≡ Ok entry
    go None e h = absurd h
    go (Some octets) e h =
        let front : entry_front reading octets ≡ Ok (entry, []) = rw append-nil at (again entry octets [] e) in
        ap (entry_reading reading) h ∙ ap whole front

-- the row of `meta` has rowid 1

one : (v : Value) → is_number 1 (number v) ≡ true → v ≡ Int (pos 1)
one (Int (pos m)) t = let e : m ≡ 1 = grind (arith, nat_tests) in ap (λ k. Int (pos k)) e
one (Int (negsuc m)) t = absurd cc
one Null t = absurd cc
one (Real x) t = absurd cc
one (Text x) t = absurd cc
one (Blob x) t = absurd cc

is_one : (version : ℕ) (row : Row) (n : Numbers) → numbers_of version n.floor (meta_columns row) ≡ Some n → rowid row ≡ Int (pos 1)
is_one version row n h = go (is_number 1 (number (column row 0))) refl h
  where
    go : (b : Bool) → is_number 1 (number (column row 0)) ≡ b
        → cond (not b || not (is_number version (number (column row 2)))) None
        (option_and_then (λ boot. option_map (λ promised. record { boot = boot; promised = promised; floor = n.floor }) (promise_in (column row 4) (column row 5))) (boot_in (column row 3))) ≡ Some n
        → rowid row ≡ Int (pos 1)
    go true e h = one (column row 0) e
    go false e h = absurd cc

pub at_most_one : (version : ℕ) (tree : List Row) (n : Numbers) → HasNumbers version tree n → HasAtMost 1 tree
at_most_one version tree n h = inr (h.0, h.1, is_one version h.0 n h.2)

-- so has that of `snapshot`

is_first : (row : Row) (s : Option Snapshot) → snapshot_shown (snapshot_columns row) ≡ Some s → rowid row ≡ Int (pos 1)
is_first row s h = go (is_number 1 (number (column row 0))) refl h
  where
    go : (b : Bool) → is_number 1 (number (column row 0)) ≡ b
        → cond (not b) None (option_and_then (λ floor. option_and_then (snapshot_at floor) (octets (column row 3))) (floor_of (column row 2))) ≡ Some s
        → rowid row ≡ Int (pos 1)
    go true e h = one (column row 0) e
    go false e h = absurd cc

pub at_most_first : (tree : List Row) (s : Option Snapshot) → HasSnapshot tree s → HasAtMost 1 tree
at_most_first tree s h = inr (h.0, h.1, is_first h.0 s h.2)

pub none_read : snapshot_shown (snapshot_columns (snapshot_row 0 [])) ≡ Some None
none_read = refl

-- a snapshot that raises the floor begins with it
pub raised_floor : (floor next : ℕ) (s : Snapshot) → floor_after floor (Some s) ≡ Some next → (next ≡ s.floor) × (floor < s.floor) × (floor_at s.octets ≡ Some s.floor)
raised_floor floor next s h = go (nat_lt floor s.floor) (is_number s.floor (floor_at s.octets)) refl refl h
  where
    at : (o : Option ℕ) → is_number s.floor o ≡ true → o ≡ Some s.floor
    at None t = absurd cc
    at (Some m) t = ap Some (eqb-true m s.floor t)

    go : (a b : Bool) → nat_lt floor s.floor ≡ a → is_number s.floor (floor_at s.octets) ≡ b → cond (a && b) (Some s.floor) None ≡ Some next
        → (next ≡ s.floor) × (floor < s.floor) × (floor_at s.octets ≡ Some s.floor)
    go true true p q h = (let e : s.floor ≡ next = cc in sym e, ltb-true floor s.floor p, at (floor_at s.octets) q)
    go true false p q h = absurd cc
    go false b p q h = absurd cc

floor_parts : (octets : List ℕ) (floor : ℕ) → floor_at octets ≡ Some floor → (number_at octets ≡ floor) × (is_floor (number_at octets) ≡ true)
floor_parts octets floor h = go (nat_le 8 (length octets)) (is_floor (number_at octets)) refl h
  where
    go : (a b : Bool) → is_floor (number_at octets) ≡ b → cond (a && b) (Some (number_at octets)) None ≡ Some floor
        → (number_at octets ≡ floor) × (is_floor (number_at octets) ≡ true)
    go false b e h = absurd cc
    go true false e h = absurd cc
    go true true e h = (cc, e)

floor_bounds : (octets : List ℕ) (floor : ℕ) → floor_at octets ≡ Some floor → (1 ≤ floor) × (floor ≤ 1099511627775)
unfolding floor_end
floor_bounds octets floor h =
    let p = floor_parts octets floor h in
    let k = and_parts (nat_le 1 (number_at octets)) (nat_lt (number_at octets) 1099511627776) p.1 in
    let low : 1 ≤ number_at octets = leb-true 1 (number_at octets) k.0 in
    let high : number_at octets < 1099511627776 = ltb-true (number_at octets) 1099511627776 k.1 in
    let bound : number_at octets ≤ 1099511627775 = omega arith in
    (subst (λ n. 1 ≤ n) p.0 low, subst (λ n. n ≤ 1099511627775) p.0 bound)

pub snapshot_read : (s : Snapshot) → floor_at s.octets ≡ Some s.floor → snapshot_shown (snapshot_columns (snapshot_row s.floor s.octets)) ≡ Some (Some s)
snapshot_read s h =
    let k = floor_bounds s.octets s.floor h in
    let zero : eqb s.floor 0 ≡ false = let low : 1 ≤ s.floor = k.0 in grind (arith, nat_tests) in
    let same : eqb s.floor s.floor ≡ true = grind (arith, nat_tests) in
    rw (within_read 0 1099511627775 s.floor (omega arith) k.1, zero, h, same) refl

-- a promise that is not lowered is over the same votes
pub votes_under : {B : Type 0} (reading : List ℕ → Reading B) (p q : Option Ballot) (floor : ℕ) (tree : List Row) (vs : List (Vote B)) → NotLowered p q
    → AreVotes reading p floor tree vs → AreVotes reading q floor tree vs
votes_under reading p q floor tree vs up a = record {
  each = a.each;
  all = a.all;
  once = a.once;
  promised_all = all_from _ vs (λ v h. up v.ballot (all_has _ vs v a.promised_all h));
  ascend = a.ascend;
}

-- what another tree stands for
stays : (tree other : ℕ) (old new : Database) → Edits store_schema tree old new → other ≢ tree → (P : List Row → Type 0)
    → P (old.trees other) → P (new.trees other)
stays tree other old new edits differs P has = subst P (sym (edits.others other differs)) has

-- without a new snapshot the floor stays
pub floor_stays : {B : Type 0} (rows : Rows B) (n : Numbers) → floor_after (floor_in rows.snapshot) None ≡ Some n.floor → n.floor ≡ floor_in rows.snapshot
floor_stays rows n h = let e : floor_in rows.snapshot ≡ n.floor = cc in sym e

pub meta_reads : {B : Type 0} (reading : List ℕ → Reading B) (old new : Database) (rows : Rows B) (n : Numbers) → Reads reading old rows
    → PutsAlone store_schema 0 (meta_row n.boot (round_of n.promised) (node_of n.promised)) old new → are_numbers n ≡ true
    → n.floor ≡ floor_in rows.snapshot → NotLowered rows.promised n.promised
    → Reads reading new (written n None [] rows)
meta_reads reading old new rows n has put ok at up = (
  put.edits.schema,
  record {
    sound = put.edits.sound;
    has = record {
      meta = (
        _,
        put.alone,
        subst (λ floor. numbers_of 2 floor (meta_columns (meta_row n.boot (round_of n.promised) (node_of n.promised)))
            ≡ Some (record { boot = n.boot; promised = n.promised; floor = floor })) at (numbers_read n ok),
      );
      votes = stays 0 1 old new put.edits (λ e. omega (arith, e)) (λ tree. AreVotes reading n.promised (floor_in rows.snapshot) tree rows.votes)
          (votes_under reading rows.promised n.promised (floor_in rows.snapshot) (old.trees 1) rows.votes up has.1.has.votes);
      snapshot = stays 0 2 old new put.edits (λ e. omega (arith, e)) (λ tree. HasSnapshot tree rows.snapshot) has.1.has.snapshot;
    };
  },
)

pub vote_reads : {B : Type 0} (reading : List ℕ → Reading B) (old new : Database) (rows : Rows B) (v : Vote B) → Reads reading old rows
    → Edits store_schema 1 old new × AreVotes reading rows.promised (floor_in rows.snapshot) (new.trees 1) (put_vote v rows.votes)
    → Reads reading new (record rows { votes = put_vote v rows.votes })
vote_reads reading old new rows v has put = (
  put.0.schema,
  record {
    sound = put.0.sound;
    has = record {
      meta = stays 1 0 old new put.0 (λ e. omega (arith, e)) (λ tree. HasNumbers 2 tree (numbers_in_rows rows)) has.1.has.meta;
      votes = put.1;
      snapshot = stays 1 2 old new put.0 (λ e. omega (arith, e)) (λ tree. HasSnapshot tree rows.snapshot) has.1.has.snapshot;
    };
  },
)

-- the numbers of a row of `meta` beside another floor
numbers_beside : (version : ℕ) (row : Row) (n : Numbers) (floor : ℕ) → numbers_of version n.floor row ≡ Some n
    → numbers_of version floor row ≡ Some (record { boot = n.boot; promised = n.promised; floor = floor })
numbers_beside version row n floor h =
    go (not (is_number 1 (number (column row 0))) || not (is_number version (number (column row 1)))) (boot_in (column row 2)) (promise_in (column row 3) (column row 4)) h
  where
    numbers : ℕ → Option ℕ → Option (Option Ballot) → Option Numbers
    numbers at boot promised = option_and_then (λ b. option_map (λ p. record { boot = b; promised = p; floor = at }) promised) boot

    go : (b : Bool) (boot : Option ℕ) (promised : Option (Option Ballot)) → cond b None (numbers n.floor boot promised) ≡ Some n
        → cond b None (numbers floor boot promised) ≡ Some (record { boot = n.boot; promised = n.promised; floor = floor })
    go true boot promised h = absurd cc
    go false None promised h = absurd cc
    go false (Some b) None h = absurd cc
    go false (Some b) (Some p) h =
        let e : ◌≡◌ {A = Numbers} (record { boot = b; promised = p; floor = n.floor }) n = cc in
        λ i. Some (record { boot = (ap (λ (m : Numbers). m.boot) e) i; promised = (ap (λ (m : Numbers). m.promised) e) i; floor = floor })

-- the snapshot is put, and the votes up to its floor are forgotten
pub cut_reads : {B : Type 0} (reading : List ℕ → Reading B) (old mid new : Database) (rows : Rows B) (s : Snapshot) → Reads reading old rows
    → floor_at s.octets ≡ Some s.floor → PutsAlone store_schema 2 (snapshot_row s.floor s.octets) old mid
    → Keeps store_schema 1 (is_above s.floor) mid new × AreVotes reading rows.promised s.floor (new.trees 1) (votes_from (suc s.floor) rows.votes)
    → Reads reading new (record rows { snapshot = Some s; votes = votes_from (suc s.floor) rows.votes })
cut_reads reading old mid new rows s has begins put left =
    let row = has.1.has.meta in
    let edits = left.0.edits in (
      edits.schema,
      record {
        sound = edits.sound;
        has = record {
          meta = (
            row.0,
            edits.others 0 (λ e. omega (arith, e)) ∙ put.edits.others 0 (λ e. omega (arith, e)) ∙ row.1,
            numbers_beside 2 (meta_columns row.0) (numbers_in_rows rows) s.floor row.2,
          );
          votes = left.1;
          snapshot = (_, edits.others 2 (λ e. omega (arith, e)) ∙ put.alone, snapshot_read s begins);
        };
      },
    )

-- the votes before the snapshot's row was put
pub before_cut : {B : Type 0} (reading : List ℕ → Reading B) (old mid : Database) (rows : Rows B) (row : Row) → Reads reading old rows
    → PutsAlone store_schema 2 row old mid → AreVotes reading rows.promised (floor_in rows.snapshot) (mid.trees 1) rows.votes
before_cut reading old mid rows row has put =
    stays 2 1 old mid put.edits (λ e. omega (arith, e)) (λ tree. AreVotes reading rows.promised (floor_in rows.snapshot) tree rows.votes) has.1.has.votes

-- a store of version 1 gets the third table, without a snapshot, and the version
pub renewed_reads : {B : Type 0} (reading : List ℕ → Reading B) (old one two new : Database) (rows : Rows B) → StoresOld reading old.trees rows
    → are_numbers (numbers_in_rows rows) ≡ true → Makes old_tables snapshot_table old one → PutsAlone store_schema 2 (snapshot_row 0 []) one two
    → PutsAlone store_schema 0 (meta_row rows.boot (round_of rows.promised) (node_of rows.promised)) two new → Reads reading new rows
renewed_reads {B} reading old one two new rows has ok made first put =
    let plain = has.plain in (
      put.edits.schema,
      record {
        sound = put.edits.sound;
        has = record {
          meta = (_, put.alone, numbers_read (numbers_in_rows rows) ok);
          votes = subst (λ tree. AreVotes reading rows.promised (floor_in rows.snapshot) tree rows.votes)
              (sym (put.edits.others 1 (λ e. omega (arith, e)) ∙ first.edits.others 1 (λ e. omega (arith, e)) ∙ made.others.1.0))
              (subst (λ s. AreVotes reading rows.promised (floor_in s) (old.trees 1) rows.votes) (sym plain) has.votes);
          snapshot = (_, put.edits.others 2 (λ e. omega (arith, e)) ∙ first.alone, none_read ∙ ap Some (sym plain));
        };
      },
    )

-- the numbers of version 1
pub old_at_most_one : {B : Type 0} (reading : List ℕ → Reading B) (old one two : Database) (rows : Rows B) → StoresOld reading old.trees rows
    → Makes old_tables snapshot_table old one → PutsAlone store_schema 2 (snapshot_row 0 []) one two → HasAtMost 1 (two.trees 0)
old_at_most_one reading old one two rows has made first =
    subst (HasAtMost 1) (sym (first.edits.others 0 (λ e. omega (arith, e)) ∙ made.others.0)) (at_most_one 1 (old.trees 0) (numbers_in_rows rows) has.meta)
