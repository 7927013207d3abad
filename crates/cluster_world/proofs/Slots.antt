-- The slots of a leader's proposals: one after the other, from the first one that it asked for.
use Rattle.std.proofs.Common.{◌≡◌, ⊎_elim, ℕ, zero, suc, ◌+◌, ◌<◌, ◌≤◌, Bool, true, false, not, ◌&&◌, refl, sym, ap, ◌∙◌, subst, arith}
use Rattle.std.proofs.Common.{List, [], ◌∷◌, ◌++◌, length, length-append, Some, None}
use Rattle.std.specs.Prelude.{slice_get, nat_lt, fold, if◌then◌else◌}
use Rattle.std.proofs.lemmas.Bool.{cond-true, cond-false, cond_both, lt-ltb, le-ltb}
use Rattle.cluster_world.proofs.Lists.{has_one, has_cases}
use Rattle.cluster_world.proofs.Reports.{lowest_is}
use Rattle.cluster_world.specs.Has.{Has, here, there}
use Rattle.paxos_packets.specs.Ballot.{same_ballot}
use Rattle.paxos_packets.specs.Members.{is_majority}
use Rattle.paxos_packets.specs.declared.ballot.Ballot.{Ballot}
use Rattle.paxos_packets.specs.declared.entry.Entry.{Entry}
use Rattle.paxos_packets.specs.declared.vote.Vote.{Vote}
use Rattle.paxos_proposer.specs.declared.promises.CountedPromise.{CountedPromise}
use Rattle.paxos_proposer.specs.Promises.{with_promises, calls, lowest}
use Rattle.paxos_proposer.specs.Proposals.{behind, stands}
use Rattle.paxos_proposer.specs.Proposer.{next_vote, submitted}
use Rattle.paxos_proposer.specs.Reports.{is_counted, reports, called_for}
use Rattle.paxos_proposer.specs.Role.{Role, Idle, Preparing, Leading}
use Rattle.world_rescue.specs.Course.{Seat, floor_of, propose_all, propose_new, proposes, hears}

-- votes in the slots after this one, one in each
abbrev pub AreAfter : {B : Type 0} → ℕ → List (Vote B) → Type 0
AreAfter slot [] = Unit {0}
AreAfter slot (v ∷ vs) = (v.slot ≡ suc slot) × AreAfter (suc slot) vs

pub after_at : {B : Type 0} (slot i : ℕ) (vs : List (Vote B)) → AreAfter slot vs → i < length vs
    → (v : Vote B) × (slice_get vs i ≡ Some v) × Has vs v × (v.slot ≡ suc (slot + i))
after_at slot i [] a l = absurd (omega arith)
after_at slot zero (v ∷ vs) a l = (v, refl, here, a.0 ∙ plain slot)
  where
    plain : (k : ℕ) → suc k ≡ suc (k + 0)
    plain k = omega arith
after_at slot (suc i) (v ∷ vs) a l =
    let r = after_at (suc slot) i vs a.1 (omega arith) in (r.0, r.1, there r.2, r.3 ∙ moved slot i)
  where
    moved : (k j : ℕ) → suc (suc k + j) ≡ suc (k + suc j)
    moved k j = omega arith

after_more : {B : Type 0} (slot : ℕ) (vs : List (Vote B)) (v : Vote B) → AreAfter slot vs → v.slot ≡ suc (slot + length vs) → AreAfter slot
    (vs ++ v ∷ [])
after_more slot [] v a e = (e ∙ plain slot, tt)
  where
    plain : (k : ℕ) → suc (k + 0) ≡ suc k
    plain k = omega arith
after_more slot (w ∷ vs) v a e = (a.0, after_more (suc slot) vs v a.1 (e ∙ moved slot (length vs)))
  where
    moved : (k c : ℕ) → suc (k + suc c) ≡ suc (suc k + c)
    moved k c = omega arith

-- of consecutive proposals those after the log

pub behind_whole : {B : Type 0} (applied slot : ℕ) (vs : List (Vote B)) → applied ≤ slot → AreAfter slot vs → behind applied vs ≡ vs
behind_whole applied slot [] l a = refl
behind_whole {B} applied slot (v ∷ vs) l a =
    cond-true (nat_lt applied v.slot) (v ∷ behind applied vs) (behind applied vs)
    (lt-ltb applied v.slot (subst (λ k. applied < k) (sym a.0) (above l)))
    ∙ ap (λ (ws : List (Vote B)). v ∷ ws) (behind_whole applied (suc slot) vs (more l) a.1)
  where
    above : applied ≤ slot → applied < suc slot
    above h = omega arith

    more : applied ≤ slot → applied ≤ suc slot
    more h = omega arith

pub behind_rest : {B : Type 0} (slot : ℕ) (vs ws : List (Vote B)) → AreAfter slot (vs ++ ws)
    → (behind (slot + length vs) (vs ++ ws) ≡ ws) × AreAfter (slot + length vs) ws
behind_rest slot [] ws a = (
  behind_whole (slot + 0) slot ws (omega arith) a,
  subst (λ k. AreAfter k ws) (plain slot) a,
)
  where
    plain : (k : ℕ) → k ≡ k + 0
    plain k = omega arith
behind_rest {B} slot (v ∷ vs) ws a =
    let r = behind_rest (suc slot) vs ws a.1 in (
      cond-false (nat_lt (slot + suc (length vs)) v.slot) (v ∷ behind (slot + suc (length vs)) (vs ++ ws))
          (behind (slot + suc (length vs)) (vs ++ ws))
          (low (length vs))
          ∙ (ap (λ k. behind k (vs ++ ws)) (moved slot (length vs)) ∙ r.0),
      subst (λ k. AreAfter k ws) (sym (moved slot (length vs))) r.1,
    )
  where
    moved : (k c : ℕ) → k + suc c ≡ suc k + c
    moved k c = omega arith

    low : (c : ℕ) → nat_lt (slot + suc c) v.slot ≡ false
    low c = ap (λ k. nat_lt (slot + suc c) k) a.0 ∙ le-ltb (slot + suc c) (suc slot) (omega arith)

-- as a role goes along

abbrev pub Ordered : {B : Type 0} → ℕ → Role B → Type 0
Ordered slot Idle = Unit {0}
Ordered slot (Preparing b first cs) = (first ≡ suc slot) × ((c : CountedPromise _) → Has cs c → c.floor ≤ slot)
Ordered slot (Leading b next table) = (next ≡ suc (slot + length table)) × AreAfter slot table

submits : {B : Type 0} (slot : ℕ) (e : Entry B) (r : Role B) → Ordered slot r → Ordered slot (submitted e r)
submits slot e Idle o = o
submits slot e (Preparing b first cs) o = o
submits {B} slot e (Leading b next table) o =
    (longer, after_more slot table (next_vote b next e) o.1 o.0)
  where
    longer : suc next ≡ suc (slot + length (table ++ next_vote b next e ∷ []))
    longer = let l = length-append table (next_vote b next e ∷ []) in go (length table) (length (table ++ next_vote b next e ∷ [])) o.0 l
      where
        go : (c d : ℕ) → next ≡ suc (slot + c) → d ≡ c + 1 → suc next ≡ suc (slot + d)
        go c d g h = omega arith

all_ordered : {B : Type 0} (slot : ℕ) (es : List (Entry B)) (r : Role B) → Ordered slot r → Ordered slot (propose_all es r)
all_ordered slot [] r o = o
all_ordered slot (e ∷ es) r o = all_ordered slot es (submitted e r) (submits slot e r o)

pub new_ordered : {B : Type 0} (same : B → B → Bool) (applied slot : ℕ) (es : List (Entry B)) (r : Role B) → Ordered slot r
    → Ordered slot (propose_new same applied es r)
new_ordered same applied slot [] r o = o
new_ordered {B} same applied slot (e ∷ es) r o = new_ordered same applied slot es (if stands same applied r e then r else submitted e r) one
  where
    one : Ordered slot (if stands same applied r e then r else submitted e r)
    one = cond_both (stands same applied r e) r (submitted e r) (λ (s : Role B). Ordered slot s) (λ t. o) (λ t. submits slot e r o)

module _ {B : Type 0} (same : B → B → Bool) (members applied : ℕ) (pending : List (Entry B)) (b : Ballot) (slot own : ℕ)
    (high : own ≤ slot) where
  hears_ordered : (k floor : ℕ) (vs : List (Vote B)) (r : Role B) → floor ≤ slot → Ordered slot r
      → Ordered slot (hears same members applied pending b k floor vs own r)
  hears_ordered k floor vs Idle l o = o
  hears_ordered k floor vs (Leading c next table) l o = o
  hears_ordered k floor vs (Preparing c first cs) l o = go (same_ballot b c && not (is_counted cs k))
    where
      one : CountedPromise B
      one = record { node = k; floor = floor; votes = vs }

      more : List (CountedPromise B)
      more = cs ++ one ∷ []

      floors : (d : CountedPromise B) → Has more d → d.floor ≤ slot
      floors d h =
          ⊎_elim (λ i. o.1 d i) (λ i. subst (λ (z : CountedPromise B). z.floor ≤ slot) (has_one i) l) (has_cases cs (one ∷ []) h)

      low : ℕ
      low = lowest first own more

      low_is : low ≡ suc slot
      low_is = lowest_is first own more (under own high o.0) (λ d h. under d.floor (floors d h) o.0) ∙ o.0
        where
          under : (a : ℕ) → a ≤ slot → first ≡ suc slot → a < first
          under a g e = omega arith

      es : List (Entry B)
      es = called_for low (reports more)

      begun : Ordered {B = B} slot (Leading c low [])
      begun = (low_is ∙ plain slot, tt)
        where
          plain : (k : ℕ) → suc k ≡ suc (k + 0)
          plain k = omega arith

      most : (m : Bool)
          → Ordered slot (proposes same applied pending (if m then Some es else None)
          (if m then Leading c low [] else Preparing c first more))
      most true = new_ordered same applied slot pending (propose_all es (Leading c low []))
          (all_ordered slot es (Leading c low []) begun)
      most false = (o.0, floors)

      go : (m : Bool)
          → Ordered slot
          (proposes same applied pending (if m then calls members first own more else None)
          (if m then with_promises members c first own more else Preparing c first cs))
      go true = most (is_majority members (is_counted more))
      go false = o

  pub led_ordered : (vs : Seat B → List (Vote B)) (seats : List (Seat B)) (r : Role B) → ((s : Seat B) → Has seats s → floor_of s ≤ slot)
      → Ordered slot r → Ordered slot (fold (λ r s. hears same members applied pending b s.number (floor_of s) (vs s) own r) r seats)
  led_ordered vs [] r f o = o
  led_ordered vs (s ∷ seats) r f o =
      led_ordered vs seats (hears same members applied pending b s.number (floor_of s) (vs s) own r) (λ t h. f t (there h))
      (hears_ordered s.number (floor_of s) (vs s) r (f s here) o)
