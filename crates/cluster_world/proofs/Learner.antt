-- Votes are counted, and entries learned.
use Rattle.std.proofs.Common.{◌≡◌, ◌⊎◌, inl, inr, ⊎_elim, ℕ, zero, suc, Bool, true, false, not, ◌&&◌, eqb, refl, sym, ap, ◌∙◌, subst, List, [], ◌∷◌}
use Rattle.std.proofs.Common.{Option, Some, None}
use Rattle.std.specs.Prelude.{nat_lt, option_map, ◌==◌}
use Rattle.std.specs.List.{find}
use Rattle.std.proofs.lemmas.Bool.{cond_both, cases_eq, eqb-true, ltb-true}
use Rattle.std.proofs.lemmas.List.{get_or-set_other}
use Rattle.std.specs.Option.{unwrap_or}
use Rattle.std.specs.Map.{lookup}
use Rattle.cluster_world.proofs.Lists.{has_cons, has_one, has_first}
use Rattle.paxos_packets.specs.Entry.{entry_equality, same_entry}
use Rattle.cluster_world.proofs.Invariant.{vote, Sent, Known, IsChosen, VoteOf, PacketsOk, NodeOk}
use Rattle.cluster_world.proofs.OneChosen.{chosen_one}
use Rattle.cluster_world.specs.Has.{Has, here, there}
use Rattle.paxos_packets.specs.Ballot.{same_ballot, ballot_sound}
use Rattle.paxos_packets.specs.Body.{IsEquality, numbers_joined}
use Rattle.paxos_packets.specs.Members.{is_in, no_nodes, set_with}
use Rattle.paxos_packets.specs.declared.ballot.Ballot.{Ballot}
use Rattle.paxos_packets.specs.declared.entry.Entry.{Entry}
use Rattle.paxos_packets.specs.declared.packet.Packet.{Packet}
use Rattle.paxos_packets.specs.declared.vote.Vote.{Vote}
use Rattle.paxos_packets.specs.declared.packet.Kind.TheVariants.{Accept, Accepted}
use Rattle.paxos_learner.specs.declared.tallies.SlotBallot.{SlotBallot}
use Rattle.paxos_learner.specs.Tallies.{Heard, same_place, place_of, nodes_heard, insert_entry}
use Rattle.paxos_learner.specs.declared.learned.LearnedEntry.{LearnedEntry}
use Rattle.paxos_learner.specs.Learner.{LearnerState}
use Rattle.paxos_learner.specs.Learned.{is_closed}
use Rattle.paxos_learner.specs.Learner.{learned_at, put_learned, is_known, learn, hears, is_other, disagrees}
use Rattle.paxos_learner.specs.Learner.{has_most, learn_chosen, count_vote, vote_disagrees}
use Rattle.paxos_planning.specs.Plan.{with_learner}
use Rattle.paxos_planning.specs.Node.{NodeState}

off : false ≡ true → ⊥
off e = cc

-- a test fails with its second part
none_of : (a : Bool) {b : Bool} → b ≡ false → (a && b) ≡ false
none_of true e = e
none_of false e = refl

pub place_sound : (p q : SlotBallot) → same_place p q ≡ true → p ≡ q
place_sound p q e =
    let k = numbers_joined p.slot q.slot (same_ballot p.ballot q.ballot) e in
    let b = ballot_sound p.ballot q.ballot k.1 in
    λ i. record { slot = k.0 i; ballot = b i }

no_node : (k : ℕ) → is_in no_nodes k ≡ false
no_node zero = refl
no_node (suc zero) = refl
no_node (suc (suc zero)) = refl
no_node (suc (suc (suc zero))) = refl
no_node (suc (suc (suc (suc zero)))) = refl
no_node (suc (suc (suc (suc (suc zero))))) = refl
no_node (suc (suc (suc (suc (suc (suc zero)))))) = refl
no_node (suc (suc (suc (suc (suc (suc (suc zero))))))) = refl
no_node (suc (suc (suc (suc (suc (suc (suc (suc k)))))))) = refl

-- a node that was heard at a place is in its tally
pub heard_at : (hs : Heard) (p : SlotBallot) (k : ℕ) → is_in (nodes_heard p hs) k ≡ true
    → (t : SlotBallot × List Bool) × Has hs t × (t.0 ≡ p) × (is_in t.1 k ≡ true)
heard_at [] p k e = absurd (off (sym (no_node k) ∙ e))
heard_at (t ∷ hs) p k e =
    cond_both (same_place p t.0) (Some t.1) (lookup (same_place p) hs) (λ o. is_in (unwrap_or o no_nodes) k ≡ true → Goal)
    (λ s f. (t, here, sym (place_sound p t.0 s), f))
    (λ s f. let r = heard_at hs p k f in (r.0, there r.1, r.2, r.3))
    e
  where
    Goal : Type 0
    Goal = (u : SlotBallot × List Bool) × Has (t ∷ hs) u × (u.0 ≡ p) × (is_in u.1 k ≡ true)

-- a tally after one more was heard is one of before, or that of its place
pub tally_cases : (hs : Heard) (p : SlotBallot) (set : List Bool) (u : SlotBallot × List Bool) → Has (insert_entry same_place hs p set) u
    → Has hs u ⊎ ((p ≡ u.0) × (set ≡ u.1))
tally_cases [] p set u h = let e = has_one h in inr (ap (λ z. z.0) e, ap (λ z. z.1) e)
tally_cases (t ∷ hs) p set u h =
    cond_both (same_place p t.0) ((t.0, set) ∷ hs) (t ∷ insert_entry same_place hs p set) (λ l. Has l u → Goal)
    (λ s i. ⊎_elim (λ e. inr (place_sound p t.0 s ∙ ap (λ z. z.0) e, ap (λ z. z.1) e)) (λ r. inl (there r)) (has_cons i))
    (λ s i. ⊎_elim (λ e. inl (has_first hs e)) (λ r. ⊎_elim (λ o. inl (there o)) inr (tally_cases hs p set u r)) (has_cons i))
    h
  where
    Goal : Type 0
    Goal = Has (t ∷ hs) u ⊎ ((p ≡ u.0) × (set ≡ u.1))

pub with_cases : (set : List Bool) (n k : ℕ) → is_in (set_with set n) k ≡ true → (k ≡ n) ⊎ (is_in set k ≡ true)
with_cases set n k e = ⊎_elim inl (λ d. inr (sym (get_or-set_other set n k true false d) ∙ e)) (cases_eq k n)

pub learned_cases : {B : Type 0} (f : LearnedEntry B) (gs : List (LearnedEntry B)) (u : LearnedEntry B) → Has (put_learned f gs) u
    → (f ≡ u) ⊎ Has gs u
learned_cases f [] u h = inl (has_one h)
learned_cases {B} f (g ∷ gs) u h =
    cond_both (nat_lt g.slot f.slot) (g ∷ put_learned f gs) (f ∷ (g ∷ gs)) (λ l. Has l u → Goal)
    (λ t k. ⊎_elim (λ s. inr (has_first gs s)) (λ r. ⊎_elim (λ s. inl s) (λ o. inr (there o)) (learned_cases f gs u r)) (has_cons k))
    (λ t k. has_cons k)
    h
  where
    Goal : Type 0
    Goal = (f ≡ u) ⊎ Has (g ∷ gs) u

pub learned_at_has : {B : Type 0} (slot : ℕ) (fs : List (LearnedEntry B)) (e : Entry B) → learned_at slot fs ≡ Some e
    → Has fs (record { slot = slot; entry = e })
learned_at_has slot [] e h = absurd (cc)
learned_at_has {B} slot (f ∷ fs) e h =
    cond_both (eqb f.slot slot) (Some f) (find (λ l. l.slot == slot) fs)
    (λ o. option_map (λ l. l.entry) o ≡ Some e → Has (f ∷ fs) (record { slot = slot; entry = e }))
    (λ t p. subst (λ z. Has (f ∷ fs) z) (λ i. record { slot = eqb-true f.slot slot t i; entry = same p i }) here)
    (λ t p. there (learned_at_has slot fs e p))
    h
  where
    same : Some f.entry ≡ Some e → f.entry ≡ e
    same p = cc

-- what a learner knows is so
pub record LearnerOk {B : Type 0} (members : ℕ) (sent : List (Packet B)) (l : LearnerState B) : Type 0 where
  pub heard : (t : SlotBallot × List Bool) → Has l.heard t → (k : ℕ) → is_in t.1 k ≡ true → VoteOf sent t.0 k
  pub learned : (f : LearnedEntry B) → Has l.learned f → IsChosen members sent f.slot f.entry

module _ {B : Type 0} (members : ℕ) (promised : ℕ → Option Ballot) (sent : List (Packet B)) (n : ℕ) where
  pub learner_of : (x : NodeState B) → NodeOk members promised sent n x → LearnerOk members sent x.learner
  learner_of x ok = record { heard = ok.heard; learned = ok.learned }

  pub with_learner_ok : (x : NodeState B) (l : LearnerState B) → NodeOk members promised sent n x → LearnerOk members sent l
      → NodeOk members promised sent n (with_learner l x)
  with_learner_ok x l ok lo = record { rows = ok.rows; role = ok.role; heard = lo.heard; learned = lo.learned }

  pub learn_ok : (l : LearnerState B) (slot : ℕ) (e : Entry B) → LearnerOk members sent l → IsChosen members sent slot e
      → LearnerOk members sent (learn slot e l)
  learn_ok l slot e ok chosen =
      cond_both (is_known slot l) l (record l { learned = put_learned f l.learned })
      (λ y. LearnerOk members sent y)
      (λ t. ok)
      (λ t. record {
        heard = ok.heard;
        learned = λ g h. ⊎_elim
            (λ d. subst (λ (z : LearnedEntry B). IsChosen members sent z.slot z.entry) d chosen) (λ o. ok.learned g o)
            (learned_cases f l.learned g h);
      })
    where
      f : LearnedEntry B
      f = record { slot = slot; entry = e }

  hears_ok : (l : LearnerState B) (k : ℕ) (v : Vote B) → LearnerOk members sent l → Sent sent k (Accepted v)
      → LearnerOk members sent (hears k v l)
  hears_ok l k v ok s =
      record {
        learned = ok.learned;
        heard = λ t i j q. ⊎_elim (λ o. ok.heard t o j q)
            (λ e. subst (λ z. VoteOf sent z j) e.0 (cast j (subst (λ z. is_in z j ≡ true) (sym e.1) q)))
            (tally_cases l.heard p (set_with (nodes_heard p l.heard) k) t i);
      }
    where
      p : SlotBallot
      p = place_of v

      cast : (j : ℕ) → is_in (set_with (nodes_heard p l.heard) k) j ≡ true → VoteOf sent p j
      cast j q =
          ⊎_elim (λ e. subst (λ z. VoteOf sent p z) (sym e) (record { entry = v.entry; is = s }))
          (λ r. let h = heard_at l.heard p j r in subst (λ z. VoteOf sent z j) h.2 (ok.heard h.0 h.1 j h.3))
          (with_cases (nodes_heard p l.heard) k j q)

  -- if no node is known to have voted, a vote is heard alone
  pub heard_alone : (l : LearnerState B) (k : ℕ) (v : Vote B) → LearnerOk members sent l → ((j : ℕ) → VoteOf sent (place_of v) j → ⊥) → (j : ℕ)
      → is_in (nodes_heard (place_of v) (hears k v l).heard) j ≡ true → j ≡ k
  heard_alone l k v ok none j q =
      let h = heard_at (hears k v l).heard p j q in
      ⊎_elim (λ o. absurd (none j (subst (λ z. VoteOf sent z j) h.2 (ok.heard h.0 o j h.3))))
      (λ e. ⊎_elim (λ s. s) (λ r. absurd (old r)) (with_cases (nodes_heard p l.heard) k j (subst (λ z. is_in z j ≡ true) (sym e.1) h.3)))
      (tally_cases l.heard p (set_with (nodes_heard p l.heard) k) h.0 h.1)
    where
      p : SlotBallot
      p = place_of v

      old : is_in (nodes_heard p l.heard) j ≡ true → ⊥
      old r = let g = heard_at l.heard p j r in none j (subst (λ z. VoteOf sent z j) g.2 (ok.heard g.0 g.1 j g.3))

  -- a majority was heard
  most_chosen : (l : LearnerState B) (v : Vote B) → PacketsOk members promised sent → LearnerOk members sent l → Known sent (Accept v)
      → has_most members v l ≡ true → IsChosen members sent v.slot v.entry
  most_chosen l v packets ok known t =
      record {
        ballot = v.ballot;
        quorum = is_in (nodes_heard (place_of v) l.heard);
        most = ltb-true _ _ t;
        voted = λ k m q. let h = heard_at l.heard (place_of v) k q in
            let o = subst (λ z. VoteOf sent z k) h.2 (ok.heard h.0 h.1 k h.3) in
            subst (λ e. Sent sent k (Accepted (vote v.slot v.ballot e)))
            (packets.one (vote v.slot v.ballot o.entry) v (packets.voted k (vote v.slot v.ballot o.entry) o.is) known refl refl) o.is;
      }

  learn_chosen_ok : (l : LearnerState B) (v : Vote B) → PacketsOk members promised sent → LearnerOk members sent l → Known sent (Accept v)
      → LearnerOk members sent (learn_chosen members v l)
  learn_chosen_ok l v packets ok known =
      cond_both (has_most members v l) (learn v.slot v.entry l) l (λ y. LearnerOk members sent y)
      (λ t. learn_ok l v.slot v.entry ok (most_chosen l v packets ok known t))
      (λ t. ok)

  pub count_ok : (l : LearnerState B) (k : ℕ) (v : Vote B) → PacketsOk members promised sent → LearnerOk members sent l
      → Sent sent k (Accepted v) → LearnerOk members sent (count_vote members k v l)
  count_ok l k v packets ok s =
      cond_both (is_closed l.floor v.slot) l (learn_chosen members v (hears k v l)) (λ y. LearnerOk members sent y) (λ t. ok)
      (λ t. learn_chosen_ok (hears k v l) v packets (hears_ok l k v ok s) (packets.voted k v s))

  -- no disagreement

  pub agrees : (same : B → B → Bool) → IsEquality same → (l : LearnerState B) (slot : ℕ) (e : Entry B) → PacketsOk members promised sent
      → LearnerOk members sent l → IsChosen members sent slot e → disagrees same slot e l ≡ false
  agrees same equal l slot e packets ok chosen = none_of (not (is_closed l.floor slot)) (go (learned_at slot l.learned) refl)
    where
      go : (o : Option (Entry B)) → learned_at slot l.learned ≡ o → is_other same e o ≡ false
      go None i = refl
      go (Some d) i =
          let p =
          chosen_one members promised sent packets slot d e
          (ok.learned (record { slot = slot; entry = d }) (learned_at_has slot l.learned d i)) chosen in
          ap not (subst (λ z. same_entry same d z ≡ true) p ((entry_equality same equal).reflexive d))

  pub vote_agrees : (same : B → B → Bool) → IsEquality same → (l : LearnerState B) (k : ℕ) (v : Vote B) → PacketsOk members promised sent
      → LearnerOk members sent l → Sent sent k (Accepted v) → vote_disagrees same members k v l ≡ false
  vote_agrees same equal l k v packets ok s = go (has_most members v (hears k v l)) refl
    where
      go : (b : Bool) → has_most members v (hears k v l) ≡ b → (b && disagrees same v.slot v.entry l) ≡ false
      go true t =
          agrees same equal l v.slot v.entry packets ok (most_chosen (hears k v l) v packets (hears_ok l k v ok s) (packets.voted k v s) t)
      go false t = refl
