-- Who made a node lead: a majority whose reports end before the slot that it proposes in next.
use Rattle.std.proofs.Common.{◌≡◌, ◌⊎◌, inl, inr, ⊎_elim, ℕ, suc, ◌+◌, ◌-◌, ◌<◌, ◌≤◌, Bool, true, false, not, ◌&&◌, eqb, refl, sym, subst, arith}
use Rattle.std.proofs.Common.{List, [], ◌∷◌, ◌++◌, length, Some, None}
use Rattle.std.specs.Prelude.{fold, if◌then◌else◌}
use Rattle.std.proofs.lemmas.Bool.{cond_both, or_cases, eqb-true}
use Rattle.cluster_world.proofs.Leading.{called_length, first_below}
use Rattle.cluster_world.proofs.Lists.{has_one, has_cases}
use Rattle.cluster_world.proofs.Reports.{lowest_is}
use Rattle.cluster_world.specs.Has.{Has, here, there}
use Rattle.paxos_packets.specs.Ballot.{same_ballot}
use Rattle.paxos_packets.specs.Members.{is_majority}
use Rattle.paxos_packets.specs.declared.ballot.Ballot.{Ballot}
use Rattle.paxos_packets.specs.declared.entry.Entry.{Entry}
use Rattle.paxos_packets.specs.declared.vote.Vote.{Vote}
use Rattle.paxos_proposer.specs.declared.promises.CountedPromise.{CountedPromise}
use Rattle.paxos_proposer.specs.Promises.{with_promises, calls, lowest}
use Rattle.paxos_proposer.specs.Proposals.{stands}
use Rattle.paxos_proposer.specs.Proposer.{submitted}
use Rattle.paxos_proposer.specs.Reports.{is_counted, reports, past_reports, called_for}
use Rattle.paxos_proposer.specs.Role.{Role, Idle, Preparing, Leading}
use Rattle.world_rescue.specs.Course.{Seat, floor_of, propose_all, propose_new, proposes, hears}

-- who was counted
pub counted_is : {B : Type 0} (cs : List (CountedPromise B)) (k : ℕ) → is_counted cs k ≡ true → (c : CountedPromise B) × Has cs c × (c.node ≡ k)
counted_is [] k h = absurd (off h)
  where
    off : false ≡ true → ⊥
    off e = cc
counted_is (c ∷ cs) k h =
    ⊎_elim (λ e. (c, here, eqb-true c.node k e)) (λ e. let r = counted_is cs k e in (r.0, there r.1, r.2))
    (or_cases (eqb c.node k) (is_counted cs k) h)

-- it leads, and proposes next in this slot or a later one
abbrev pub IsPast : {B : Type 0} → ℕ → Role B → Type 0
IsPast slot Idle = ⊥
IsPast slot (Preparing b first cs) = ⊥
IsPast slot (Leading b next table) = slot ≤ next

submits_past : {B : Type 0} (slot : ℕ) (e : Entry B) (r : Role B) → IsPast slot r → IsPast slot (submitted e r)
submits_past slot e Idle h = h
submits_past slot e (Preparing b first cs) h = h
submits_past slot e (Leading b next table) h = more h
  where
    more : slot ≤ next → slot ≤ suc next
    more l = omega arith

pub new_past : {B : Type 0} (same : B → B → Bool) (applied slot : ℕ) (es : List (Entry B)) (r : Role B) → IsPast slot r
    → IsPast slot (propose_new same applied es r)
new_past same applied slot [] r h = h
new_past {B} same applied slot (e ∷ es) r h = new_past same applied slot es (if stands same applied r e then r else submitted e r) one
  where
    one : IsPast slot (if stands same applied r e then r else submitted e r)
    one = cond_both (stands same applied r e) r (submitted e r) (λ (s : Role B). IsPast slot s) (λ t. h) (λ t. submits_past slot e r h)

all_past : {B : Type 0} (slot : ℕ) (es : List (Entry B)) (b : Ballot) (next : ℕ) (table : List (Vote B)) → slot ≤ next + length es
    → IsPast slot (propose_all es (Leading b next table))
all_past slot [] b next table l = omega arith
all_past slot (e ∷ es) b next table l = all_past slot es b (suc next) _ (omega arith)

called_past : {B : Type 0} (first : ℕ) (vs : List (Vote B)) → past_reports first vs ≤ first + length (called_for first vs)
called_past first vs =
    let k = called_length vs first (past_reports first vs - first) in
    let j = first_below first vs in
    go (past_reports first vs) (length (called_for first vs)) k j
  where
    go : (p c : ℕ) → c ≡ p - first → first ≤ p → p ≤ first + c
    go p c e l = omega arith

module _ {B : Type 0} (same : B → B → Bool) (members applied : ℕ) (pending : List (Entry B)) (b : Ballot) (first own : ℕ)
    (high : own < first) (P : CountedPromise B → Type 0) (floors : (c : CountedPromise B) → P c → c.floor < first) where
  -- a majority whose promises were counted
  pub record Backed (r : Role B) : Type 0 where
    pub cs : List (CountedPromise B)
    pub most : is_majority members (is_counted cs) ≡ true
    pub from : (c : CountedPromise B) → Has cs c → P c
    pub past : IsPast (past_reports first (reports cs)) r
    pub made : r ≡ propose_new same applied pending (propose_all (called_for first (reports cs)) (Leading b first []))

  -- it leads so, or waits for more promises
  pub record Asks (r : Role B) : Type 0 where
    pub cs : List (CountedPromise B)
    pub role : r ≡ Preparing b first cs
    pub from : (c : CountedPromise B) → Has cs c → P c

  hears_one : (k floor : ℕ) (vs : List (Vote B)) (r : Role B) → P (record { node = k; floor = floor; votes = vs }) → Backed r ⊎ Asks r
      → Backed (hears same members applied pending b k floor vs own r) ⊎ Asks (hears same members applied pending b k floor vs own r)
  hears_one k floor vs r p e = ⊎_elim (λ w. inl (still r w)) (λ w. subst (λ z. Goal z) (sym w.role) (counts w.cs w.from)) e
    where
      Goal : Role B → Type 0
      Goal z = Backed (hears same members applied pending b k floor vs own z) ⊎ Asks (hears same members applied pending b k floor vs own z)

      still : (r : Role B) → Backed r → Backed (hears same members applied pending b k floor vs own r)
      still Idle w = w
      still (Preparing c f cs) w = absurd w.past
      still (Leading c next table) w = w

      counts : (cs : List (CountedPromise B)) → ((c : CountedPromise B) → Has cs c → P c) → Goal (Preparing b first cs)
      counts cs from = go (same_ballot b b && not (is_counted cs k))
        where
          more : List (CountedPromise B)
          more = cs ++ record { node = k; floor = floor; votes = vs } ∷ []

          es : List (Entry B)
          es = called_for first (reports more)

          from_more : (c : CountedPromise B) → Has more c → P c
          from_more c h =
              ⊎_elim (λ i. from c i) (λ i. subst P (has_one i) p) (has_cases cs (record { node = k; floor = floor; votes = vs } ∷ []) h)

          low_is : lowest first own more ≡ first
          low_is = lowest_is first own more high (λ c h. floors c (from_more c h))

          -- by the slot that it leads from
          LedAt : ℕ → Bool → Type 0
          LedAt l m =
              Backed (proposes same applied pending (if m then Some (called_for l (reports more)) else None)
              (if m then Leading b l [] else Preparing b first more))
              ⊎ Asks (proposes same applied pending (if m then Some (called_for l (reports more)) else None)
              (if m then Leading b l [] else Preparing b first more))

          most : (m : Bool) → is_majority members (is_counted more) ≡ m → LedAt first m
          most true q =
              inl (record {
                cs = more;
                most = q;
                from = from_more;
                past = new_past same applied (past_reports first (reports more)) pending (propose_all es (Leading b first []))
                    (all_past (past_reports first (reports more)) es b first [] (called_past first (reports more)));
                made = refl;
              })
          most false q = inr (record { cs = more; role = refl; from = from_more })

          go : (m : Bool)
              → Backed (proposes same applied pending (if m then calls members first own more else None)
              (if m then with_promises members b first own more else Preparing b first cs))
              ⊎ Asks (proposes same applied pending (if m then calls members first own more else None)
              (if m then with_promises members b first own more else Preparing b first cs))
          go true =
              subst (λ l. LedAt l (is_majority members (is_counted more))) (sym low_is) (most (is_majority members (is_counted more)) refl)
          go false = inr (record { cs = cs; role = refl; from = from })

  pub hears_all : (vs : Seat B → List (Vote B)) (seats : List (Seat B)) (r : Role B)
      → ((s : Seat B) → Has seats s → P (record { node = s.number; floor = floor_of s; votes = vs s })) → Backed r ⊎ Asks r
      → Backed (fold (λ r s. hears same members applied pending b s.number (floor_of s) (vs s) own r) r seats)
      ⊎ Asks (fold (λ r s. hears same members applied pending b s.number (floor_of s) (vs s) own r) r seats)
  hears_all vs [] r p e = e
  hears_all vs (s ∷ seats) r p e =
      hears_all vs seats (hears same members applied pending b s.number (floor_of s) (vs s) own r) (λ t h. p t (there h))
      (hears_one s.number (floor_of s) (vs s) r (p s here) e)
