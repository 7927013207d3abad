-- With the promises of all helpers a majority has promised: the node leads.
use Rattle.std.proofs.Common.{◌≡◌, ◌⊎◌, inl, inr, ⊎_elim, ℕ, Bool, true, false, not, ◌&&◌, ◌||◌, eqb, refl, sym, ap, ◌∙◌, subst, List, []}
use Rattle.std.proofs.Common.{◌∷◌, ◌++◌}
use Rattle.std.proofs.Common.{Some, None}
use Rattle.std.specs.Prelude.{fold, if◌then◌else◌}
use Rattle.std.proofs.lemmas.Bool.{or_left, or_right, eq-eqb, cond_both}
use Rattle.std.proofs.lemmas.List.Folds.{list_any-append}
use Rattle.cluster_world.proofs.Lists.{has_nil, has_cons}
use Rattle.cluster_world.proofs.Passing.{among, among_has, majority_more}
use Rattle.cluster_world.specs.Has.{Has}
use Rattle.paxos_packets.specs.Ballot.{same_ballot, ballot_same}
use Rattle.paxos_packets.specs.Members.{is_majority}
use Rattle.paxos_packets.specs.declared.ballot.Ballot.{Ballot}
use Rattle.paxos_packets.specs.declared.entry.Entry.{Entry}
use Rattle.paxos_packets.specs.declared.vote.Vote.{Vote}
use Rattle.paxos_proposer.specs.declared.promises.CountedPromise.{CountedPromise}
use Rattle.paxos_proposer.specs.Promises.{with_promises, calls, lowest}
use Rattle.paxos_proposer.specs.Proposals.{stands}
use Rattle.paxos_proposer.specs.Proposer.{asking, submitted, is_leading}
use Rattle.paxos_proposer.specs.Reports.{is_counted, reports, called_for}
use Rattle.paxos_proposer.specs.Role.{Role, Idle, Preparing, Leading}
use Rattle.world_rescue.specs.Course.{Seat, floor_of, propose_all, propose_new, proposes, hears}

-- a leader that proposes leads on

submits_on : {B : Type 0} (e : Entry B) (r : Role B) → is_leading r ≡ true → is_leading (submitted e r) ≡ true
submits_on e Idle h = h
submits_on e (Preparing b first cs) h = h
submits_on e (Leading b next table) h = refl

all_on : {B : Type 0} (es : List (Entry B)) (r : Role B) → is_leading r ≡ true → is_leading (propose_all es r) ≡ true
all_on [] r h = h
all_on (e ∷ es) r h = all_on es (submitted e r) (submits_on e r h)

new_on : {B : Type 0} (same : B → B → Bool) (applied : ℕ) (es : List (Entry B)) (r : Role B) → is_leading r ≡ true
    → is_leading (propose_new same applied es r) ≡ true
new_on same applied [] r h = h
new_on {B} same applied (e ∷ es) r h = new_on same applied es (if stands same applied r e then r else submitted e r) one
  where
    one : is_leading (if stands same applied r e then r else submitted e r) ≡ true
    one = cond_both (stands same applied r e) r (submitted e r) (λ (s : Role B). is_leading s ≡ true) (λ t. h) (λ t. submits_on e r h)

module _ {B : Type 0} (same : B → B → Bool) (members applied : ℕ) (pending : List (Entry B)) (b : Ballot) (first own : ℕ) where
  -- it leads, or it counted the promises of these nodes, which are no majority
  pub record Waits (ks : List ℕ) (r : Role B) : Type 0 where
    pub cs : List (CountedPromise B)
    pub role : r ≡ Preparing b first cs
    pub counted : (j : ℕ) → Has ks j → is_counted cs j ≡ true
    pub few : is_majority members (is_counted cs) ≡ false

  abbrev Elects : List ℕ → Role B → Type 0
  Elects ks r = (is_leading r ≡ true) ⊎ Waits ks r

  abbrev heard : ℕ → ℕ → List (Vote B) → Role B → Role B
  heard k floor vs r = hears same members applied pending b k floor vs own r

  leads_on : (k floor : ℕ) (vs : List (Vote B)) (r : Role B) → is_leading r ≡ true → is_leading (heard k floor vs r) ≡ true
  leads_on k floor vs Idle h = h
  leads_on k floor vs (Preparing c f cs) h = absurd (off h)
    where
      off : false ≡ true → ⊥
      off e = cc
  leads_on k floor vs (Leading c next table) h = refl

  counts_one : (k floor : ℕ) (vs : List (Vote B)) (ks : List ℕ) (cs : List (CountedPromise B))
      → ((j : ℕ) → Has ks j → is_counted cs j ≡ true) → is_majority members (is_counted cs) ≡ false
      → Elects (k ∷ ks) (heard k floor vs (Preparing b first cs))
  counts_one k floor vs ks cs counted few = go (same_ballot b b && not (is_counted cs k)) refl
    where
      more : List (CountedPromise B)
      more = cs ++ record { node = k; floor = floor; votes = vs } ∷ []

      low : ℕ
      low = lowest first own more

      es : List (Entry B)
      es = called_for low (reports more)

      counts : (j : ℕ) → is_counted more j ≡ (is_counted cs j || (eqb k j || false))
      counts j = list_any-append (λ (c : CountedPromise B). eqb c.node j) cs (record { node = k; floor = floor; votes = vs } ∷ [])

      all_counted : (j : ℕ) → Has (k ∷ ks) j → is_counted more j ≡ true
      all_counted j h =
          counts j
          ∙ ⊎_elim (λ (e : k ≡ j). or_right (is_counted cs j) (eqb k j || false) (or_left (eqb k j) false (eq-eqb k j e)))
          (λ i. or_left (is_counted cs j) (eqb k j || false) (counted j i)) (has_cons h)

      most : (m : Bool) → is_majority members (is_counted more) ≡ m
          → Elects (k ∷ ks) (proposes same applied pending (if m then Some es else None)
          (if m then Leading b low [] else Preparing b first more))
      most true e = inl (new_on same applied pending (propose_all es (Leading b low [])) (all_on es (Leading b low []) refl))
      most false e = inr (record { cs = more; role = refl; counted = all_counted; few = e })

      go : (m : Bool) → (same_ballot b b && not (is_counted cs k)) ≡ m
          → Elects (k ∷ ks)
          (proposes same applied pending (if m then calls members first own more else None)
          (if m then with_promises members b first own more else Preparing b first cs))
      go true e = most (is_majority members (is_counted more)) refl
      go false e =
          inr (record {
            cs = cs;
            role = refl;
            counted = λ j h. ⊎_elim (λ (i : k ≡ j). subst (λ z. is_counted cs z ≡ true) i known) (λ i. counted j i) (has_cons h);
            few = few;
          })
        where
          known : is_counted cs k ≡ true
          known = back (is_counted cs k) (ap (λ t. t && not (is_counted cs k)) (sym (ballot_same b)) ∙ e)
            where
              back : (t : Bool) → not t ≡ false → t ≡ true
              back true q = refl
              back false q = sym q

  hears_one : (k floor : ℕ) (vs : List (Vote B)) (ks : List ℕ) (r : Role B) → Elects ks r → Elects (k ∷ ks) (heard k floor vs r)
  hears_one k floor vs ks r e =
      ⊎_elim (λ l. inl (leads_on k floor vs r l))
      (λ w. subst (λ z. Elects (k ∷ ks) (heard k floor vs z)) (sym w.role) (counts_one k floor vs ks w.cs w.counted w.few)) e

  hears_all : (vs : Seat B → List (Vote B)) (seats : List (Seat B)) (ks : List ℕ) (r : Role B) → Elects ks r
      → Elects (fold (λ ks s. s.number ∷ ks) ks seats) (fold (λ r s. heard s.number (floor_of s) (vs s) r) r seats)
  hears_all vs [] ks r e = e
  hears_all vs (s ∷ seats) ks r e = hears_all vs seats (s.number ∷ ks) (heard s.number (floor_of s) (vs s) r)
      (hears_one s.number (floor_of s) (vs s) ks r e)

  -- so it leads in the end
  pub elected : (n : ℕ) (mine : List (Vote B)) (vs : Seat B → List (Vote B)) (seats : List (Seat B))
      → is_majority members (is_counted {B = B} (record { node = n; floor = own; votes = mine } ∷ [])) ≡ false
      → is_majority members (among (fold (λ ks s. s.number ∷ ks) (n ∷ []) seats)) ≡ true
      → is_leading (fold (λ r s. heard s.number (floor_of s) (vs s) r) (asking n b first own mine) seats) ≡ true
  elected n mine vs seats one enough =
      ⊎_elim (λ l. l)
      (λ w. absurd (off (sym w.few ∙ majority_more members (among ks) (is_counted w.cs) (λ j a. w.counted j (among_has ks j a)) enough)))
      (hears_all vs seats (n ∷ []) (asking n b first own mine)
      (inr (record {
        cs = record { node = n; floor = own; votes = mine } ∷ [];
        role = refl;
        counted = λ j h. ⊎_elim (λ (e : n ≡ j). or_left (eqb n j) false (eq-eqb n j e)) (λ i. absurd (has_nil i)) (has_cons h);
        few = one;
      })))
    where
      ks : List ℕ
      ks = fold (λ ks s. s.number ∷ ks) (n ∷ []) seats

      off : false ≡ true → ⊥
      off e = cc
