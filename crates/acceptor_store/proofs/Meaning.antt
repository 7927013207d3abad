-- What rows read as, and what the trees that show them stand for: the same.
use Rattle.std.proofs.Common.{◌≡◌, ◌⊎◌, inl, inr, ⊎_elim, ℕ, ◌<◌, not, ◌||◌, Bool, true, false, cond, List, [], ◌∷◌, map, Option, Some, None, is_some, Ok, Err, eqb, refl, sym, ap, subst, ◌∙◌, arith}
use Rattle.std.specs.Prelude.{IsPermutation, ◌&&◌, nat_le, option_map, option_and_then}
use Rattle.std.specs.List.{AllByRecursion, IsDistinct}
use Rattle.std.proofs.lemmas.Bool.{leb-false, lt-leb}
use Rattle.std.proofs.lemmas.Bool.Decides.{nat_tests}
use Rattle.std.proofs.lemmas.List.Sorted.{IsPermutation-map, IsPermutation-sym, All-permutation, length_permutation}
use Rattle.std.proofs.lemmas.List.Elements.{All-from_recursion, recursion_from_All}
use Rattle.std.proofs.lemmas.Map.Keys.{IsDistinct-IsPermutation}
use Rattle.sqlite_value.specs.Order.{Row, column}
use Rattle.sqlite_trees.specs.Tree.{Trees}
use Rattle.sqlite_rules.specs.Lists.{Has}
use Rattle.sqlite.proofs.Callers.{one_permutation}
use Rattle.paxos_packets.specs.Snapshot.{Snapshot, floor_in}
use Rattle.paxos_packets.specs.Vote.{put_vote, vote_in}
use Rattle.paxos_packets.specs.declared.ballot.Ballot.{Ballot}
use Rattle.paxos_packets.specs.declared.vote.Vote.{Vote}
use Rattle.paxos_packets.specs.declared.rows.Rows.{Rows}
use Rattle.command_codec.specs.Number.{Reading}
use Rattle.store_keeper.specs.declared.fault.KeeperFault.TheVariants.{Version}
use Rattle.store_rows.specs.declared.rows.Numbers.{Numbers}
use Rattle.acceptor_store.specs.Tables.{meta_columns, vote_columns, snapshot_columns}
use Rattle.store_rows.specs.Rows.{number, is_number, boot_in, promise_in, vote_of, is_promised, with_row, votes_after, is_other_version, numbers_of, numbers_in, snapshot_in, TableRows, rows_of, rows_with, votes_with, numbers_with, or_damaged}
use Rattle.acceptor_store.specs.Statements.{key_of, AreShown}
use Rattle.acceptor_store.specs.Store.{AscendFrom, AreVotes, HasNumbers, HasSnapshot, StandsFor}
use Rattle.store_rows.specs.Numbers.{numbers_in_rows}
use Rattle.acceptor_store.specs.Once.{all_has, later, votes_once}
use Rattle.acceptor_store.proofs.Votes.{all_from, has_put_new, has_put, has_put_old, ascend_put, none_in, is_none_in}
use Rattle.acceptor_store.proofs.Putting.{vote_slot}
use Rattle.store_rows.proofs.Options.{and_then_is, map_is}

eqb_flip : (m n : ℕ) → eqb m n ≡ eqb n m
eqb_flip m n = grind (arith, nat_tests)

eqb_other : (m n : ℕ) → (m ≡ n → ⊥) → eqb m n ≡ false
eqb_other m n h = grind (arith, nat_tests)

eqb_apart : (m n : ℕ) → eqb m n ≡ false → m ≡ n → ⊥
eqb_apart m n e p = grind (arith, nat_tests)

-- a list and its permutation have the same elements

pub perm_has : {A : Type 0} (xs ys : List A) (x : A) → IsPermutation xs ys → Has xs x → Has ys x
perm_has {A} xs ys x p h =
    let all = All-permutation (Has ys) ys xs (IsPermutation-sym xs ys p) (All-from_recursion (Has ys) ys (all_from (Has ys) ys (λ y k. k))) in
    all_has (Has ys) xs x (recursion_from_All (Has ys) xs all) h

pub has_map : {A C : Type 0} (f : A → C) (xs : List A) (x : A) → Has xs x → Has (map f xs) (f x)
has_map f [] x h = absurd h
has_map f (y ∷ ys) x (inl e) = inl (ap f e)
has_map f (y ∷ ys) x (inr h) = inr (has_map f ys x h)

pub map_has : {A C : Type 0} (f : A → C) (xs : List A) (y : C) → Has (map f xs) y → (x : A) × Has xs x × (y ≡ f x)
map_has f [] y h = absurd h
map_has f (x ∷ xs) y (inl e) = (x, inl refl, e)
map_has f (x ∷ xs) y (inr h) = let k = map_has f xs y h in (k.0, inr k.1, k.2)

keys_shown : (tree : List Row) → map key_of (map vote_columns tree) ≡ map key_of tree
keys_shown [] = refl
keys_shown (r ∷ rs) = ap (λ (ks : List ℕ). key_of r ∷ ks) (keys_shown rs)

module _ {B : Type 0} (reading : List ℕ → Reading B) where
  key_is : (row : Row) (v : Vote B) → vote_of reading row ≡ Some v → key_of row ≡ v.slot
  key_is row v h = let s = (vote_slot reading row v h).0 in rw s refl

  with_row_is : (promised : Option Ballot) (floor : ℕ) (votes : List (Vote B)) (v : Vote B) (next : List (Vote B)) → with_row promised floor votes v ≡ Some next
      → (is_some (vote_in v.slot votes) ≡ false) × (is_promised promised v.ballot ≡ true) × (next ≡ put_vote v votes) × (floor < v.slot)
  with_row_is promised floor votes v next h =
      go (is_some (vote_in v.slot votes)) (is_promised promised v.ballot) (nat_le v.slot floor) refl refl refl h
    where
      go : (a b c : Bool) → is_some (vote_in v.slot votes) ≡ a → is_promised promised v.ballot ≡ b → nat_le v.slot floor ≡ c
          → cond (a || (not b || c)) None (Some (put_vote v votes)) ≡ Some next
          → (is_some (vote_in v.slot votes) ≡ false) × (is_promised promised v.ballot ≡ true) × (next ≡ put_vote v votes) × (floor < v.slot)
      go true b c p q l h = absurd cc
      go false false c p q l h = absurd cc
      go false true true p q l h = absurd cc
      go false true false p q l h = (p, q, cc, leb-false v.slot floor l)

  -- what the votes after some rows are
  record After (promised : Option Ballot) (floor : ℕ) (votes : List (Vote B)) (rows : List Row) (next : List (Vote B)) : Type 0 where
    each : AllByRecursion (λ row. (v : Vote B) × (vote_of reading row ≡ Some v) × Has next v) rows
    all : (x : Vote B) → Has next x → Has votes x ⊎ ((row : Row) × Has rows row × (vote_of reading row ≡ Some x))
    once : IsDistinct (λ m n. eqb m n) (map key_of rows)
    apart : AllByRecursion (λ row. (x : Vote B) → Has votes x → x.slot ≡ key_of row → ⊥) rows
    kept : (x : Vote B) → Has votes x → Has next x
    under : ((x : Vote B) → Has votes x → is_promised promised x.ballot ≡ true) → (x : Vote B) → Has next x → is_promised promised x.ballot ≡ true
    ascend : AscendFrom floor next

  none_after : (promised : Option Ballot) (floor : ℕ) (votes : List (Vote B)) → AscendFrom floor votes → After promised floor votes [] votes
  unfolding IsDistinct
  none_after promised floor votes up = record { each = tt; all = λ x h. inl h; once = tt; apart = tt; kept = λ x h. h; under = λ f. f; ascend = up }

  one_after : (promised : Option Ballot) (floor : ℕ) (votes : List (Vote B)) (row : Row) (rows : List Row) (next : List (Vote B)) (v : Vote B) → AscendFrom floor votes
      → vote_of reading row ≡ Some v → is_some (vote_in v.slot votes) ≡ false → is_promised promised v.ballot ≡ true → After promised floor (put_vote v votes) rows next
      → After promised floor votes (row ∷ rows) next
  unfolding IsDistinct
  one_after promised floor votes row rows next v up is free under it = record {
    each = ((v, is, it.kept v (has_put_new v votes)), it.each);
    all = λ x h. ⊎_elim (λ k. ⊎_elim (λ e. inr (row, inl refl, is ∙ ap Some (sym e))) (λ q. inl q.0) (has_put_old v floor votes x up k))
        (λ r. inr (r.0, inr r.1, r.2)) (it.all x h);
    once = (differ rows it.apart, it.once);
    apart = (λ x h s. none_in v.slot votes free x h (s ∙ key_is row v is), others rows it.apart);
    kept = λ x h. it.kept x (has_put v votes x h (none_in v.slot votes free x h));
    under = λ f. it.under (λ x h. ⊎_elim (λ e. subst (λ (u : Vote B). is_promised promised u.ballot ≡ true) (sym e) under) (λ q. f x q.0) (has_put_old v floor votes x up h));
    ascend = it.ascend;
  }
    where
      differ : (rs : List Row) → AllByRecursion (λ row. (x : Vote B) → Has (put_vote v votes) x → x.slot ≡ key_of row → ⊥) rs
          → AllByRecursion (λ m. eqb (key_of row) m ≡ false) (map key_of rs)
      differ [] h = tt
      differ (r ∷ rs) h = (eqb_other (key_of row) (key_of r) (λ e. h.0 v (has_put_new v votes) (sym (key_is row v is) ∙ e)), differ rs h.1)

      others : (rs : List Row) → AllByRecursion (λ row. (x : Vote B) → Has (put_vote v votes) x → x.slot ≡ key_of row → ⊥) rs
          → AllByRecursion (λ row. (x : Vote B) → Has votes x → x.slot ≡ key_of row → ⊥) rs
      others [] h = tt
      others (r ∷ rs) h = (λ x k. h.0 x (has_put v votes x k (none_in v.slot votes free x k)), others rs h.1)

  after : (promised : Option Ballot) (floor : ℕ) (votes : List (Vote B)) (rows : List Row) (next : List (Vote B)) → AscendFrom floor votes
      → votes_after reading promised floor votes rows ≡ Some next → After promised floor votes rows next
  after promised floor votes [] next up h = let e : votes ≡ next = cc in subst (After promised floor votes []) e (none_after promised floor votes up)
  after promised floor votes (row ∷ rows) next up h =
      let step = and_then_is (λ more. votes_after reading promised floor more rows) (option_and_then (with_row promised floor votes) (vote_of reading row)) next h in
      let vote = and_then_is (with_row promised floor votes) (vote_of reading row) step.0 step.1 in
      let put = with_row_is promised floor votes vote.0 step.0 vote.2 in
      let it = after promised floor (put_vote vote.0 votes) rows next (ascend_put vote.0 floor votes up put.3)
      (subst (λ (vs : List (Vote B)). votes_after reading promised floor vs rows ≡ Some next) put.2 step.2) in
      one_after promised floor votes row rows next vote.0 up vote.1 put.0 put.1 it

  complete : (promised : Option Ballot) (floor : ℕ) (votes : List (Vote B)) (rows : List Row) → AscendFrom floor votes
      → AllByRecursion (λ row. (v : Vote B) × (vote_of reading row ≡ Some v) × (is_promised promised v.ballot ≡ true) × (floor < v.slot)) rows
      → IsDistinct (λ m n. eqb m n) (map key_of rows) → AllByRecursion (λ row. (x : Vote B) → Has votes x → x.slot ≡ key_of row → ⊥) rows
      → (next : List (Vote B)) × (votes_after reading promised floor votes rows ≡ Some next)
  unfolding IsDistinct
  complete promised floor votes [] up all once apart = (votes, refl)
  complete promised floor votes (row ∷ rows) up all once apart =
      let v = all.0.0 in
      let low : nat_le v.slot floor ≡ false = let l : floor < v.slot = all.0.3 in lt-leb v.slot floor l in
      let key : key_of row ≡ v.slot = key_is row v all.0.1 in
      let free : is_some (vote_in v.slot votes) ≡ false = is_none_in v.slot votes (λ x h s. apart.0 x h (s ∙ sym key)) in
      let more = complete promised floor (put_vote v votes) rows (ascend_put v floor votes up all.0.3) all.1 once.1 (still v key rows once.0 apart.1) in
      (more.0, rw (all.0.1, free, all.0.2, low) more.1)
    where
      still : (v : Vote B) → key_of row ≡ v.slot → (rs : List Row) → AllByRecursion (λ m. eqb (key_of row) m ≡ false) (map key_of rs)
          → AllByRecursion (λ row. (x : Vote B) → Has votes x → x.slot ≡ key_of row → ⊥) rs
          → AllByRecursion (λ row. (x : Vote B) → Has (put_vote v votes) x → x.slot ≡ key_of row → ⊥) rs
      still v key [] d h = tt
      still v key (r ∷ rs) d h = (
        λ x k s. ⊎_elim (λ e. eqb_apart (key_of row) (key_of r) d.0 (key ∙ sym (ap (λ (u : Vote B). u.slot) e) ∙ s)) (λ q. h.0 x q.0 s) (has_put_old v floor votes x up k),
        still v key rs d.1 h.1,
      )

  -- rows that were read are those of the tree
  pub votes_found : (promised : Option Ballot) (floor : ℕ) (tree rows : List Row) (votes : List (Vote B)) → IsPermutation (map vote_columns tree) rows
      → votes_after reading promised floor [] rows ≡ Some votes → AreVotes reading promised floor tree votes
  votes_found promised floor tree rows votes same h =
      let it = after promised floor [] rows votes tt h in
      let back = IsPermutation-sym (map vote_columns tree) rows same in
      record {
        each = all_from _ tree (λ row k. all_has _ rows (vote_columns row) it.each (perm_has (map vote_columns tree) rows (vote_columns row) same (has_map vote_columns tree row k)));
        all = all_from _ votes (λ v k. ⊎_elim (λ none. absurd none)
            (λ r. let o = map_has vote_columns tree r.0 (perm_has rows (map vote_columns tree) r.0 back r.1) in
            (o.0, o.1, subst (λ (q : Row). vote_of reading q ≡ Some v) o.2 r.2)) (it.all v k));
        once = subst (IsDistinct (λ m n. eqb m n)) (keys_shown tree)
            (IsDistinct-IsPermutation (λ m n. eqb m n) eqb_flip (map key_of rows) (map key_of (map vote_columns tree)) (IsPermutation-map key_of rows (map vote_columns tree) back) it.once);
        promised_all = all_from _ votes (it.under (λ x none. absurd none));
        ascend = it.ascend;
      }

  -- what a tree shows is read again
  pub votes_loaded : (promised : Option Ballot) (floor : ℕ) (tree rows : List Row) (votes : List (Vote B)) → IsPermutation (map vote_columns tree) rows
      → AreVotes reading promised floor tree votes → votes_after reading promised floor [] rows ≡ Some votes
  votes_loaded promised floor tree rows votes same a =
      let back = IsPermutation-sym (map vote_columns tree) rows same in
      let all = all_from (λ row. (v : Vote B) × (vote_of reading row ≡ Some v) × (is_promised promised v.ballot ≡ true) × (floor < v.slot)) rows (λ r h.
      let o = map_has vote_columns tree r (perm_has rows (map vote_columns tree) r back h) in
      let w = all_has _ tree o.0 a.each o.1 in
      (w.0, ap (vote_of reading) o.2 ∙ w.1, all_has _ votes w.0 a.promised_all w.2, later floor votes w.0 a.ascend w.2)) in
      let once = IsDistinct-IsPermutation (λ m n. eqb m n) eqb_flip (map key_of (map vote_columns tree)) (map key_of rows)
      (IsPermutation-map key_of (map vote_columns tree) rows same) (subst (IsDistinct (λ m n. eqb m n)) (sym (keys_shown tree)) a.once) in
      let it = complete promised floor [] rows tt all once (all_from _ rows (λ row h x none. absurd none)) in
      it.1 ∙ ap Some (votes_once reading promised promised floor floor tree votes it.0 a (votes_found promised floor tree rows it.0 same it.1))

-- a table of one row

module _ {A : Type 0} (read : List Row → Option A) (none : read [] ≡ None) (more : (a b : Row) (rows : List Row) → read (a ∷ b ∷ rows) ≡ None) (columns : Row → Row) where
  pub one_found : (tree rows : List Row) (x : A) → IsPermutation (map columns tree) rows → read rows ≡ Some x
      → (row : Row) × (tree ≡ row ∷ []) × (read (columns row ∷ []) ≡ Some x)
  one_found [] [] x same h = absurd (let e : ◌≡◌ {A = Option A} None (Some x) = sym none ∙ h in cc)
  one_found [] (a ∷ rows) x same h = let n = length_permutation [] (a ∷ rows) same in absurd (omega arith)
  one_found (r ∷ []) rows x same h = (r, refl, ap read (sym (one_permutation (columns r) rows same)) ∙ h)
  one_found (r ∷ q ∷ tree) [] x same h = absurd (let e : ◌≡◌ {A = Option A} None (Some x) = sym none ∙ h in cc)
  one_found (r ∷ q ∷ tree) (a ∷ []) x same h = let n = length_permutation (map columns (r ∷ q ∷ tree)) (a ∷ []) same in absurd (omega arith)
  one_found (r ∷ q ∷ tree) (a ∷ b ∷ rows) x same h = absurd (let e : ◌≡◌ {A = Option A} None (Some x) = sym (more a b rows) ∙ h in cc)

-- rows of such a table are read alike in any order
module _ {A : Type 0} (read : List Row → A) (other : A) (none : read [] ≡ other) (more : (a b : Row) (rows : List Row) → read (a ∷ b ∷ rows) ≡ other) (columns : Row → Row) where
  pub one_same : (tree rows : List Row) → IsPermutation (map columns tree) rows → read rows ≡ read (map columns tree)
  one_same [] [] same = refl
  one_same [] (a ∷ rows) same = let n = length_permutation [] (a ∷ rows) same in absurd (omega arith)
  one_same (r ∷ []) rows same = ap read (one_permutation (columns r) rows same)
  one_same (r ∷ q ∷ tree) [] same = let n = length_permutation (map columns (r ∷ q ∷ tree)) [] same in absurd (omega arith)
  one_same (r ∷ q ∷ tree) (a ∷ []) same = let n = length_permutation (map columns (r ∷ q ∷ tree)) (a ∷ []) same in absurd (omega arith)
  one_same (r ∷ q ∷ tree) (a ∷ b ∷ rows) same = more a b rows ∙ sym (more (columns r) (columns q) (map columns tree))

pub numbers_found : (version : ℕ) (tree rows : List Row) (numbers : Numbers) → IsPermutation (map meta_columns tree) rows
    → numbers_in version numbers.floor rows ≡ Some numbers → HasNumbers version tree numbers
numbers_found version tree rows numbers = one_found (numbers_in version numbers.floor) refl (λ _ _ _. refl) meta_columns tree rows numbers

pub snapshot_found : (tree rows : List Row) (snapshot : Option Snapshot) → IsPermutation (map snapshot_columns tree) rows → snapshot_in rows ≡ Some snapshot
    → HasSnapshot tree snapshot
snapshot_found tree rows snapshot = one_found snapshot_in refl (λ _ _ _. refl) snapshot_columns tree rows snapshot

pub numbers_loaded : (version : ℕ) (tree rows : List Row) (numbers : Numbers) → IsPermutation (map meta_columns tree) rows → HasNumbers version tree numbers
    → numbers_in version numbers.floor rows ≡ Some numbers
numbers_loaded version tree rows numbers same (row, is, h) =
    let one = one_permutation (meta_columns row) rows (subst (λ ts. IsPermutation (map meta_columns ts) rows) is same) in
    ap (numbers_in version numbers.floor) one ∙ h

pub snapshot_loaded : (tree rows : List Row) (snapshot : Option Snapshot) → IsPermutation (map snapshot_columns tree) rows → HasSnapshot tree snapshot
    → snapshot_in rows ≡ Some snapshot
snapshot_loaded tree rows snapshot same (row, is, h) =
    let one = one_permutation (snapshot_columns row) rows (subst (λ ts. IsPermutation (map snapshot_columns ts) rows) is same) in
    ap snapshot_in one ∙ h

-- numbers that are read are those beside their floor, and of this version
module _ (floor : ℕ) (row : Row) where
  of_version : (a b c : Bool) (o : Option Numbers) (n : Numbers) → cond (not a || not c) None o ≡ Some n → a && not (b || c) ≡ false
  of_version false b c o n h = refl
  of_version true b false o n h = absurd cc
  of_version true false true o n h = refl
  of_version true true true o n h = refl

  pub is_this_version : (n : Numbers) → numbers_of 2 floor row ≡ Some n → is_other_version (row ∷ []) ≡ false
  is_this_version n h = of_version (is_number 1 (number (column row 0))) (is_number 1 (number (column row 1))) (is_number 2 (number (column row 1))) _ n h

-- the tables

-- the floor is the one that the numbers are read beside
pub floor_kept : (version floor : ℕ) (metas : List Row) (n : Numbers) → numbers_in version floor metas ≡ Some n → n.floor ≡ floor
floor_kept version floor [] n h = absurd cc
floor_kept version floor (row ∷ []) n h = go (not (is_number 1 (number (column row 0))) || not (is_number version (number (column row 1)))) h
  where
    go : (b : Bool) → cond b None (option_and_then (λ boot. option_map (λ promised. record { boot = boot; promised = promised; floor = floor })
        (promise_in (column row 3) (column row 4))) (boot_in (column row 2))) ≡ Some n → n.floor ≡ floor
    go true h = absurd cc
    go false h =
        let boot = and_then_is _ (boot_in (column row 2)) n h in
        let promised = map_is _ (promise_in (column row 3) (column row 4)) n boot.2 in
        sym (ap (λ (m : Numbers). m.floor) promised.2)
floor_kept version floor (row ∷ other ∷ rows) n h = absurd cc

some_of : {A : Type 0} (o : Option A) (x : A) → or_damaged o ≡ Ok x → o ≡ Some x
some_of None x h = absurd cc
some_of (Some y) x h = let e : y ≡ x = cc in ap Some e

other_or : {A : Type 0} (b : Bool) (o : Option A) (x : A) → cond b (Err Version) (or_damaged o) ≡ Ok x → o ≡ Some x
other_or true o x h = absurd cc
other_or false o x h = some_of o x h

module _ {B : Type 0} (reading : List ℕ → Reading B) (trees : Trees) (shown : TableRows) (are : AreShown trees shown) where
  found : (rows : Rows B) → option_and_then (numbers_with reading shown) (snapshot_in shown.snapshots) ≡ Some rows → StandsFor reading trees rows
  found rows h =
      let snapshot = and_then_is (numbers_with reading shown) (snapshot_in shown.snapshots) rows h in
      let numbers = and_then_is (votes_with reading shown.votes snapshot.0) (numbers_in 2 (floor_in snapshot.0) shown.metas) rows snapshot.2 in
      let votes = map_is (rows_with numbers.0 snapshot.0) (votes_after reading numbers.0.promised numbers.0.floor [] shown.votes) rows numbers.2 in
      let at : numbers.0.floor ≡ floor_in snapshot.0 = floor_kept 2 (floor_in snapshot.0) shown.metas numbers.0 numbers.1 in
      let same : numbers_in_rows (rows_with {B = B} numbers.0 snapshot.0 votes.0) ≡ numbers.0 =
      λ i. record { boot = numbers.0.boot; promised = numbers.0.promised; floor = sym at i } in
      let made : StandsFor reading trees (rows_with numbers.0 snapshot.0 votes.0) = record {
        meta = numbers_found 2 (trees 0) shown.metas (numbers_in_rows (rows_with {B = B} numbers.0 snapshot.0 votes.0)) are.metas (numbers.1 ∙ ap Some (sym same));
        votes = subst (λ floor. AreVotes reading numbers.0.promised floor (trees 1) votes.0) at
            (votes_found reading numbers.0.promised numbers.0.floor (trees 1) shown.votes votes.0 are.votes votes.1);
        snapshot = snapshot_found (trees 2) shown.snapshots snapshot.0 are.snapshots snapshot.1;
      } in
      subst (StandsFor reading trees) votes.2 made

  pub stands : (rows : Rows B) → rows_of reading shown ≡ Ok rows → StandsFor reading trees rows
  stands rows h = found rows (other_or (is_other_version shown.metas) _ rows h)

  pub loads : (rows : Rows B) → StandsFor reading trees rows → rows_of reading shown ≡ Ok rows
  loads rows it =
      let numbers = numbers_in_rows rows in
      let other : is_other_version shown.metas ≡ false =
      one_same is_other_version false refl (λ _ _ _. refl) meta_columns (trees 0) shown.metas are.metas
      ∙ ap (λ tree. is_other_version (map meta_columns tree)) it.meta.1 ∙ is_this_version numbers.floor (meta_columns it.meta.0) numbers it.meta.2 in
      rw (
        other,
        snapshot_loaded (trees 2) shown.snapshots rows.snapshot are.snapshots it.snapshot,
        numbers_loaded 2 (trees 0) shown.metas numbers are.metas it.meta,
        votes_loaded reading rows.promised (floor_in rows.snapshot) (trees 1) shown.votes rows.votes are.votes it.votes,
      ) refl
