-- A store is one store: trees stand for no two lists of votes, and for no two sets of rows.
use Rattle.std.proofs.Common.{◌≡◌, inl, inr, ℕ, ◌<◌, ◌≤◌, ◌||◌, not, Bool, true, false, cond, List, [], ◌∷◌, Option, Some, None, refl, ap, sym, ◌∙◌, subst, arith}
use Rattle.std.specs.Prelude.{option_map, option_and_then}
use Rattle.std.specs.List.{AllByRecursion}
use Rattle.sqlite_value.specs.Order.{Row, column}
use Rattle.sqlite_trees.specs.Tree.{Trees}
use Rattle.sqlite_rules.specs.Lists.{Has}
use Rattle.paxos_packets.specs.Rows.{rows_equal}
use Rattle.paxos_packets.specs.Snapshot.{floor_in}
use Rattle.paxos_packets.specs.declared.ballot.Ballot.{Ballot}
use Rattle.paxos_packets.specs.declared.vote.Vote.{Vote}
use Rattle.paxos_packets.specs.declared.rows.Rows.{Rows}
use Rattle.command_codec.specs.Number.{Reading}
use Rattle.store_rows.specs.declared.rows.Numbers.{Numbers}
use Rattle.acceptor_store.specs.Tables.{meta_columns, snapshot_columns}
use Rattle.store_rows.specs.Rows.{number, is_number, boot_in, promise_in, numbers_of, snapshot_shown}
use Rattle.acceptor_store.specs.Store.{AscendFrom, AreVotes, StandsFor, Stores}
use Rattle.store_rows.specs.Numbers.{numbers_in_rows}

pub all_has : {A : Type 0} (P : A → Type 0) (xs : List A) (x : A) → AllByRecursion P xs → Has xs x → P x
all_has P [] x h none = absurd none
all_has P (y ∷ ys) x h (inl e) = subst P (sym e) h.0
all_has P (y ∷ ys) x h (inr more) = all_has P ys x h.1 more

-- votes that ascend from above a slot are in later ones
pub later : {B : Type 0} (low : ℕ) (vs : List (Vote B)) (x : Vote B) → AscendFrom low vs → Has vs x → low < x.slot
later low [] x up none = absurd none
later {B = B} low (v ∷ vs) x up (inl e) = subst (λ (w : Vote B). low < w.slot) (sym e) up.0
later low (v ∷ vs) x up (inr h) = let k : v.slot < x.slot = later v.slot vs x up.1 h in let l : low < v.slot = up.0 in omega arith

pub ascend_lower : {B : Type 0} (low less : ℕ) (vs : List (Vote B)) → less ≤ low → AscendFrom low vs → AscendFrom less vs
ascend_lower low less [] l up = tt
ascend_lower low less (v ∷ vs) l up = (let k : low < v.slot = up.0 in omega arith, up.1)

-- without the vote in front, which is in an earlier slot
rest_has : {B : Type 0} (low : ℕ) (vs : List (Vote B)) (w : Vote B) (ws : List (Vote B)) → AscendFrom low vs → w.slot ≡ low
    → ((x : Vote B) → Has vs x → Has (w ∷ ws) x) → (x : Vote B) → Has vs x → Has ws x
rest_has {B} low vs w ws up is f x h = go (f x h)
  where
    go : Has (w ∷ ws) x → Has ws x
    go (inl e) =
        let k : low < x.slot = later low vs x up h in
        let same : x.slot ≡ w.slot = ap (λ (u : Vote B). u.slot) e in
        absurd (omega arith)
    go (inr more) = more

-- votes by ascending slot that have the same members are the same
pub same_votes : {B : Type 0} (low : ℕ) (vs ws : List (Vote B)) → AscendFrom low vs → AscendFrom low ws
    → ((x : Vote B) → Has vs x → Has ws x) → ((x : Vote B) → Has ws x → Has vs x) → vs ≡ ws
same_votes low [] [] up on f h = refl
same_votes low [] (w ∷ ws) up on f h = absurd (h w (inl refl))
same_votes low (v ∷ vs) [] up on f h = absurd (f v (inl refl))
same_votes {B} low (v ∷ vs) (w ∷ ws) up on f h = go (f v (inl refl)) (h w (inl refl)) (same_votes v.slot vs ws up.1)
  where
    first : Has (w ∷ ws) v → Has (v ∷ vs) w → v ≡ w
    first (inl e) k = e
    first (inr j) (inl e) = sym e
    first (inr j) (inr k) =
        let a : w.slot < v.slot = later w.slot ws v on.1 j in
        let b : v.slot < w.slot = later v.slot vs w up.1 k in
        absurd (omega arith)

    go : Has (w ∷ ws) v → Has (v ∷ vs) w
        → (AscendFrom v.slot ws → ((x : Vote B) → Has vs x → Has ws x) → ((x : Vote B) → Has ws x → Has vs x) → vs ≡ ws) → v ∷ vs ≡ w ∷ ws
    go j k more =
        let e = first j k in
        let s : v.slot ≡ w.slot = ap (λ (u : Vote B). u.slot) e in
        let tail = more (subst (λ n. AscendFrom n ws) (sym s) on.1)
        (rest_has v.slot vs w ws up.1 (sym s) (λ x m. f x (inr m)))
        (rest_has w.slot ws v vs on.1 s (λ x m. h x (inr m))) in
        λ i. e i ∷ tail i

module _ {B : Type 0} (reading : List ℕ → Reading B) where
  -- a tree has no two lists of votes
  pub votes_once : (p q : Option Ballot) (f g : ℕ) (tree : List Row) (vs us : List (Vote B)) → AreVotes reading p f tree vs → AreVotes reading q g tree us → us ≡ vs
  votes_once p q f g tree vs us a b =
      same_votes 0 us vs (ascend_lower g 0 us (omega arith) b.ascend) (ascend_lower f 0 vs (omega arith) a.ascend) (one q p g f us vs b a) (one p q f g vs us a b)
    where
      one : (p q : Option Ballot) (f g : ℕ) (vs us : List (Vote B)) → AreVotes reading p f tree vs → AreVotes reading q g tree us → (x : Vote B) → Has vs x → Has us x
      one p q f g vs us a b x h =
          let row = all_has _ vs x a.all h in
          let w = all_has _ tree row.0 b.each row.1 in
          let both : Some x ≡ Some w.0 = sym row.2 ∙ w.1 in
          let same : w.0 ≡ x = cc in
          subst (Has us) same w.2

-- a row of `meta` shows one boot number and one promise, beside whatever floor
numbers_once : (version f g : ℕ) (row : Row) (n m : Numbers) → numbers_of version f row ≡ Some n → numbers_of version g row ≡ Some m
    → (m.boot ≡ n.boot) × (m.promised ≡ n.promised)
numbers_once version f g row n m h k = go (is_number 1 (number (column row 0))) (is_number version (number (column row 1))) (boot_in (column row 2)) (promise_in (column row 3) (column row 4)) h k
  where
    numbers : ℕ → Option ℕ → Option (Option Ballot) → Option Numbers
    numbers floor boot promised = option_and_then (λ b. option_map (λ p. record { boot = b; promised = p; floor = floor }) promised) boot

    go : (a b : Bool) (boot : Option ℕ) (promised : Option (Option Ballot)) → cond (not a || not b) None (numbers f boot promised) ≡ Some n
        → cond (not a || not b) None (numbers g boot promised) ≡ Some m → (m.boot ≡ n.boot) × (m.promised ≡ n.promised)
    go false b boot promised h k = absurd cc
    go true false boot promised h k = absurd cc
    go true true None promised h k = absurd cc
    go true true (Some b) None h k = absurd cc
    go true true (Some b) (Some p) h k =
        let one : ◌≡◌ {A = Numbers} (record { boot = b; promised = p; floor = f }) n = cc in
        let other : ◌≡◌ {A = Numbers} (record { boot = b; promised = p; floor = g }) m = cc in
        (sym (ap (λ (n : Numbers). n.boot) other) ∙ ap (λ (n : Numbers). n.boot) one, sym (ap (λ (n : Numbers). n.promised) other) ∙ ap (λ (n : Numbers). n.promised) one)

pub stands_once : {B : Type 0} (reading : List ℕ → Reading B) (trees : Trees) (rows others : Rows B) → StandsFor reading trees rows → StandsFor reading trees others → others ≡ rows
stands_once {B} reading trees rows others a b =
    let heads : b.meta.0 ∷ [] ≡ a.meta.0 ∷ [] = sym b.meta.1 ∙ a.meta.1 in
    let head : b.meta.0 ≡ a.meta.0 = cc in
    let again = ap (λ r. numbers_of 2 (floor_in others.snapshot) (meta_columns r)) (sym head) ∙ b.meta.2 in
    let numbers = numbers_once 2 (floor_in rows.snapshot) (floor_in others.snapshot) (meta_columns a.meta.0) (numbers_in_rows rows) (numbers_in_rows others) a.meta.2 again in
    let tops : b.snapshot.0 ∷ [] ≡ a.snapshot.0 ∷ [] = sym b.snapshot.1 ∙ a.snapshot.1 in
    let top : b.snapshot.0 ≡ a.snapshot.0 = cc in
    let both : Some others.snapshot ≡ Some rows.snapshot = sym b.snapshot.2 ∙ ap (λ r. snapshot_shown (snapshot_columns r)) top ∙ a.snapshot.2 in
    let snapshot : others.snapshot ≡ rows.snapshot = cc in
    let votes = votes_once reading rows.promised others.promised (floor_in rows.snapshot) (floor_in others.snapshot) (trees 1) rows.votes others.votes a.votes b.votes in
    rows_equal others rows numbers.0 numbers.1 snapshot votes

pub stored_once : {B : Type 0} (reading : List ℕ → Reading B) (trees : Trees) (rows others : Rows B) → Stores reading trees rows → Stores reading trees others → others ≡ rows
stored_once reading trees rows others a b = stands_once reading trees rows others a.has b.has
