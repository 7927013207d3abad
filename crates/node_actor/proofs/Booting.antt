-- A boot begins, or does not.
use Rattle.std.proofs.Common.{◌≡◌, ◌⊎◌, inl, inr, ⊎_elim, ◌<◌, ◌≤◌, ◌+◌, ◌^◌, ◌∙◌, ℕ, suc, Bool, true, false, cond, Option, Some, None}
use Rattle.std.proofs.Common.{Result, Ok, Err, refl, sym, ap, subst, arith}
use Rattle.std.specs.Prelude.{IfOk, IfErr, List, nat_lt, is_some}
use Rattle.std.proofs.lemmas.Bool.{and_from, and_parts, false≢true, leb-true, lt-ltb, ltb-true, ltb-false}
use Rattle.paxos_packets.specs.Ballot.{ballot_same, ballot_sound}
use Rattle.paxos_packets.specs.Body.{IsEquality}
use Rattle.paxos_packets.specs.Rows.{raised, rows_equal}
use Rattle.paxos_packets.specs.Snapshot.{snapshot_same, snapshot_sound}
use Rattle.paxos_packets.specs.Snapshot as taken
use Rattle.paxos_packets.specs.Vote.{votes_equality}
use Rattle.paxos_packets.specs.declared.ballot.Ballot.{Ballot}
use Rattle.paxos_packets.specs.declared.rows.Rows.{Rows}
use Rattle.paxos_acceptor.specs.Acceptor as accepting
use Rattle.store_keeper.specs.Keeper.{FindsOr}
use Rattle.store_keeper.specs.declared.fault.KeeperFault.TheVariants as store
use Rattle.mail_table.specs.Covered.{with_boot}
use Rattle.actor_outboxes.specs.Outboxes.{Waiting}
use Rattle.paxos_packets.specs.declared.rows.Change.{Change}
use Rattle.actor_parts.specs.Tried.{change_of}
use Rattle.actor_parts.specs.declared.tried.FailedCommit.{FailedCommit}
use Rattle.actor_parts.specs.declared.fault.ActorFault.{ActorFault}
use Rattle.actor_parts.specs.declared.fault.ActorFault.TheVariants.{Keeper, Worn}
use Rattle.node_actor.specs.Compare.{same_promise, same_base, is_ahead, is_later, is_meant, fit_of}
use Rattle.node_actor.specs.declared.compare.Fit.{Fit}
use Rattle.node_actor.specs.declared.compare.Fit.TheVariants.{Left, Meant, Others}
use Rattle.node_actor.specs.Posts.{Posted}
use Rattle.node_actor.specs.Beginning.{IsLater, MayBegin, first_time, from_left, from_meant, IsEmpty, Boots}
use Rattle.actor_parts.specs.Snapshots.{is_no_log}
use Rattle.node_actor.specs.Preparing.{change_in, count_in, judge_of, Loads, Fits, anew, again, Found, found_left, found_meant, IsWorn, worn_left}
use Rattle.node_actor.specs.Preparing.{worn_meant}
use Rattle.node_actor.specs.Preparing.{Refuses, others, worn, strayed, Readied}

-- rows beside others

promise_same : (p : Option Ballot) → same_promise p p ≡ true
promise_same None = refl
promise_same (Some b) = ballot_same b

pub promise_is : (p q : Option Ballot) → same_promise p q ≡ true → p ≡ q
promise_is None None h = refl
promise_is (Some b) (Some c) h = ap Some (ballot_sound b c h)
promise_is None (Some c) h = absurd (false≢true h)
promise_is (Some b) None h = absurd (false≢true h)

base_same : (s : Option taken.Snapshot) → same_base s s ≡ true
base_same None = refl
base_same (Some s) = snapshot_same s

base_is : (s t : Option taken.Snapshot) → same_base s t ≡ true → s ≡ t
base_is None None h = refl
base_is (Some s) (Some t) h = ap Some (snapshot_sound s t h)
base_is None (Some t) h = absurd (false≢true h)
base_is (Some s) None h = absurd (false≢true h)

module _ {B : Type 0} (same : B → B → Bool) (ok : IsEquality same) where
  later_raised : (r : Rows B) → is_later same r (raised r) ≡ true
  later_raised r =
      and_from _ _ (lt-ltb r.boot (suc r.boot) (omega arith)) (and_from _ _ (promise_same r.promised)
      (and_from _ _ (base_same r.snapshot) ((votes_equality same ok).reflexive r.votes)))

  later_is : (k r x : Rows B) → is_ahead same k r ≡ true → is_later same r x ≡ true → IsLater k x
  later_is k r x ahead later =
      let a = and_parts _ _ ahead in
      let b = and_parts (same_promise k.promised r.promised) _ a.1 in
      let c = and_parts _ _ later in
      let d = and_parts (same_promise r.promised x.promised) _ c.1 in
      let low : k.boot ≤ r.boot = leb-true k.boot r.boot a.0 in
      let high : r.boot < x.boot = ltb-true r.boot x.boot c.0 in
      let promises : x.promised ≡ k.promised = sym (promise_is k.promised r.promised b.0 ∙ promise_is r.promised x.promised d.0) in
      let e = and_parts (same_base k.snapshot r.snapshot) _ b.1 in
      let f = and_parts (same_base r.snapshot x.snapshot) _ d.1 in
      let bases : x.snapshot ≡ k.snapshot = sym (base_is k.snapshot r.snapshot e.0 ∙ base_is r.snapshot x.snapshot f.0) in
      let votes : x.votes ≡ k.votes = sym ((votes_equality same ok).sound k.votes r.votes e.1
      ∙ (votes_equality same ok).sound r.votes x.votes f.1) in
      record { rows = rows_equal x (with_boot x.boot k) refl promises bases votes; later = omega (arith, low, high) }

module _ {B : Type 0} (same : B → B → Bool) (k r : Rows B) where
  fit_left : (f : Option (Change B)) → fit_of same f k r ≡ Left → is_ahead same k r ≡ true
  fit_left f h = go (is_ahead same k r) (is_meant same f k r) h
    where
      go : (a b : Bool) → cond {A = Fit} a Left (cond {A = Fit} b Meant Others) ≡ Left → a ≡ true
      go true b h = refl
      go false true h = absurd cc
      go false false h = absurd cc

  fit_meant : (f : Option (FailedCommit B)) → fit_of same (change_in f) k r ≡ Meant
      → (m : FailedCommit B) × (f ≡ Some m) × (is_ahead same (accepting.adopted k (change_of m)) r ≡ true)
  fit_meant f h = from f refl (go (is_ahead same k r) (is_meant same (change_in f) k r) h)
    where
      go : (a b : Bool) → cond {A = Fit} a Left (cond {A = Fit} b Meant Others) ≡ Meant → b ≡ true
      go true b h = absurd cc
      go false true h = refl
      go false false h = absurd cc

      from : (g : Option (FailedCommit B)) → f ≡ g → is_meant same (change_in g) k r ≡ true
          → (m : FailedCommit B) × (f ≡ Some m) × (is_ahead same (accepting.adopted k (change_of m)) r ≡ true)
      from None e on = absurd (false≢true on)
      from (Some m) e on = (m, e, on)

-- a change is one of a commit that failed
pub failed_some : {B : Type 0} (f : Option (FailedCommit B)) → is_some (change_in f) ≡ true → is_some f ≡ true
failed_some None h = h
failed_some (Some m) h = refl

-- what the store has is judged

module _ {Y : Type 0} where
  judge_found : (fit : Fit) (n count : ℕ) (m : Bool) → judge_of {Y = Y} fit n count ≡ Ok m
      → ((fit ≡ Left) × (m ≡ false) × (n < 2 ^ 62)) ⊎ ((fit ≡ Meant) × (m ≡ true) × (n + count < 2 ^ 62))
  judge_found Others n count m h = absurd cc
  judge_found Left n count m h = inl (go (nat_lt n (2 ^ 62)) refl h)
    where
      go : (b : Bool) → nat_lt n (2 ^ 62) ≡ b → cond {A = Result Bool (ActorFault Y)} b (Ok false) (Err Worn) ≡ Ok m
          → (Left ≡ Left) × (m ≡ false) × (n < 2 ^ 62)
      go true e h = (refl, cc, ltb-true n (2 ^ 62) e)
      go false e h = absurd cc
  judge_found Meant n count m h = inr (go (nat_lt (n + count) (2 ^ 62)) refl h)
    where
      go : (b : Bool) → nat_lt (n + count) (2 ^ 62) ≡ b → cond {A = Result Bool (ActorFault Y)} b (Ok true) (Err Worn) ≡ Ok m
          → (Meant ≡ Meant) × (m ≡ true) × (n + count < 2 ^ 62)
      go true e h = (refl, cc, ltb-true (n + count) (2 ^ 62) e)
      go false e h = absurd cc

  -- a refusal: other rows, or a worn word
  judge_refused : (fit : Fit) (n count : ℕ) (f : ActorFault Y) → judge_of fit n count ≡ Err f
      → ((fit ≡ Others) × (f ≡ Keeper store.Damaged))
      ⊎ ((f ≡ Worn) × (((fit ≡ Left) × (2 ^ 62 ≤ n)) ⊎ ((fit ≡ Meant) × (2 ^ 62 ≤ n + count))))
  judge_refused Others n count f h = inl (refl, cc)
  judge_refused Left n count f h = inr (go (nat_lt n (2 ^ 62)) refl h)
    where
      go : (b : Bool) → nat_lt n (2 ^ 62) ≡ b → cond {A = Result Bool (ActorFault Y)} b (Ok false) (Err Worn) ≡ Err f
          → (f ≡ Worn) × (((Left ≡ Left) × (2 ^ 62 ≤ n)) ⊎ ((Left ≡ Meant) × (2 ^ 62 ≤ n + count)))
      go true e h = absurd cc
      go false e h = (cc, inl (refl, ltb-false n (2 ^ 62) e))
  judge_refused Meant n count f h = inr (go (nat_lt (n + count) (2 ^ 62)) refl h)
    where
      go : (b : Bool) → nat_lt (n + count) (2 ^ 62) ≡ b → cond {A = Result Bool (ActorFault Y)} b (Ok true) (Err Worn) ≡ Err f
          → (f ≡ Worn) × (((Meant ≡ Left) × (2 ^ 62 ≤ n)) ⊎ ((Meant ≡ Meant) × (2 ^ 62 ≤ n + count)))
      go true e h = absurd cc
      go false e h = (cc, inr (refl, ltb-false (n + count) (2 ^ 62) e))

sums_are : {a b c d : ℕ} → a ≡ c → b ≡ d → a + b ≡ c + d
sums_are p q = λ i. p i + q i

module _ {B S Y K : Type 0} (same : B → B → Bool) (loaded : List ℕ → Option S) (holds finds : K → Rows B → Type 0) (is_faithful : K → Type 0)
    (failures : K → ℕ) (p : Posted B) (old mid : K) where
  module _ (k r : Rows B) (fit : Fit) (n count : ℕ) (some : p.rows ≡ Some k) (loads : Loads same holds finds is_faithful failures old mid r)
      (fits : fit_of same (change_in p.failed) k r ≡ fit) (counts : n ≡ p.seat.part.events) (many : count ≡ count_in p.failed) where
    pub found_of : (res : Result (Rows B × Bool) (ActorFault Y)) → IfOk res (λ it. (it.0 ≡ r) × (judge_of {Y = Y} fit n count ≡ Ok it.1))
        → IfOk res (λ it. Found same holds finds is_faithful failures p old mid it.0 it.1)
    found_of (Err f) h = tt
    found_of (Ok it) h =
        subst (λ y. Found same holds finds is_faithful failures p old mid y it.1) (sym h.0)
        (⊎_elim (λ x. found_left k some loads (fits ∙ x.0) x.1 (subst (λ e. e < 2 ^ 62) counts x.2))
        (λ x. found_meant k some loads (fits ∙ x.0) x.1 (subst (λ e. e < 2 ^ 62) (sums_are counts many) x.2))
        (judge_found {Y = Y} fit n count it.1 h.1))

    pub refused_of : (res : Result (Rows B × Bool) (ActorFault Y)) → IfErr res (λ f. judge_of fit n count ≡ Err f)
        → IfErr res (λ f. Refuses same loaded holds finds is_faithful failures p old mid f)
    refused_of (Ok it) h = tt
    refused_of (Err f) h =
        ⊎_elim (λ x. subst (λ g. Refuses same loaded holds finds is_faithful failures p old mid g) (sym x.1) (others k r some loads (fits ∙ x.0)))
        (λ x. subst (λ g. Refuses same loaded holds finds is_faithful failures p old mid g) (sym x.0) (worn (worn_of x.1)))
        (judge_refused fit n count f h)
      where
        worn_of : (((fit ≡ Left) × (2 ^ 62 ≤ n)) ⊎ ((fit ≡ Meant) × (2 ^ 62 ≤ n + count)))
            → IsWorn same holds finds is_faithful failures p old mid
        worn_of (inl x) = worn_left k r some loads (fits ∙ x.0) (subst (λ e. 2 ^ 62 ≤ e) counts x.1)
        worn_of (inr x) = worn_meant k r some loads (fits ∙ x.0) (subst (λ e. 2 ^ 62 ≤ e) (sums_are counts many) x.1)

-- a boot after that

module _ {B S K : Type 0} (same : B → B → Bool) (loaded : List ℕ → Option S) (holds finds : K → Rows B → Type 0) (is_faithful : K → Type 0)
    (failures : K → ℕ) (p : Posted B) (old mid : K) where
  loads_found : (r : Rows B) (m : Bool) → Found same holds finds is_faithful failures p old mid r m
      → Loads same holds finds is_faithful failures old mid r
  loads_found r m (found_left k some loads fits is counts) = loads
  loads_found r m (found_meant k some loads fits is counts) = loads

  pub loads_of : (r : Rows B) (m : Bool) → Fits same holds finds is_faithful failures p old mid r m
      → Loads same holds finds is_faithful failures old mid r
  loads_of r m (anew none off loads counts) = loads
  loads_of r m (again found) = loads_found r m found

  may_found : IsEquality same → (r x : Rows B) (m : Bool) → Found same holds finds is_faithful failures p old mid r m
      → is_later same r x ≡ true → MayBegin p x m
  may_found ok r x m (found_left k some loads fits is counts) later = from_left k some is (later_is same ok k r x
      (fit_left same k r (change_in p.failed) fits) later) counts
  may_found ok r x m (found_meant k some loads fits is counts) later =
      let meant = fit_meant same k r p.failed fits in
      from_meant k meant.0 some meant.1 is (later_is same ok (accepting.adopted k (change_of meant.0)) r x meant.2 later)
      (subst (λ f. p.seat.part.events + count_in f < 2 ^ 62) meant.1 counts)

  may_of : IsEquality same → (r x : Rows B) (m : Bool) → Fits same holds finds is_faithful failures p old mid r m
      → is_later same r x ≡ true → MayBegin p x m
  may_of ok r x m (anew none off loads counts) later = first_time none off counts
  may_of ok r x m (again found) later = may_found ok r x m found later

  -- rows in a later boot have the same snapshot
  pub snapshot_of : (r x : Rows B) → is_later same r x ≡ true → x.snapshot ≡ r.snapshot
  snapshot_of r x later =
      let c = and_parts (nat_lt r.boot x.boot) _ later in
      let d = and_parts (same_promise r.promised x.promised) _ c.1 in
      sym (base_is r.snapshot x.snapshot (and_parts (same_base r.snapshot x.snapshot) _ d.1).0)

  pub strayed_of : {Y : Type 0} (new : K) → IsEquality same → (r x : Rows B) (m : Bool)
      → Fits same holds finds is_faithful failures p old mid r m → is_no_log loaded r.snapshot ≡ false
      → Boots holds is_faithful mid new x → ((y : Rows B) → holds mid y → FindsOr finds mid new (raised y)) → is_later same r x ≡ false
      → Refuses same loaded holds finds is_faithful failures {Y = Y} p old new (Keeper store.Damaged)
  strayed_of new ok r x m fits readable boots finds_or later =
      strayed mid r m fits readable
      (λ f. false≢true (sym later ∙ subst (λ y. is_later same r y ≡ true) (sym (boots.booted f r (loads_of r m fits).held))
      (later_raised same ok r)))
      (record { may = λ e. absurd cc; found = finds_or })

  pub readied_of : (is_failed : K → Bool) (new : K) → IsEquality same → (r x : Rows B) (w : Waiting B) (m : Bool)
      → Fits same holds finds is_faithful failures p old mid r m → is_no_log loaded r.snapshot ≡ false → Boots holds is_faithful mid new x
      → ((y : Rows B) → holds mid y → FindsOr finds mid new (raised y)) → (is_faithful new → is_faithful mid) → is_failed new ≡ false
      → IsEmpty p.me p.members w → is_later same r x ≡ true
      → Readied same loaded holds finds is_faithful is_failed failures p old new (record { rows = x; outboxes = w; meant = m })
  readied_of is_failed new ok r x w m fits readable boots finds_or faithful whole empty later =
      record {
        mid = mid;
        rows = r;
        fits = fits;
        readable = readable;
        snapshot = snapshot_of r x later;
        found = finds_or;
        faithful = faithful;
        boots = record {
          held = boots.held;
          booted = λ f y h. boots.booted f y ((loads_of r m fits).stays.same_rows y h);
          within = boots.within;
        };
        may = may_of ok r x m fits later;
        whole = whole;
        empty = empty;
      }
