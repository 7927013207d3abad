-- Votes cast in a ballot in which a node heard none but its own: they teach it nothing.
use Rattle.std.proofs.Common.{◌≡◌, ⊎_elim, ℕ, zero, suc, ◌<◌, ◌≤◌, Bool, true, false, eqb, refl, sym, ap, ◌∙◌, subst, arith, List, [], ◌∷◌}
use Rattle.std.proofs.Common.{length, Some, None}
use Rattle.std.specs.Prelude.{if◌then◌else◌}
use Rattle.std.specs.Map.{lookup}
use Rattle.std.specs.Option.{unwrap_or}
use Rattle.std.proofs.lemmas.Bool.{cond-false, cases_eq, cases_lt, and_from, eq-eqb, ne_eqb, lt-leb}
use Rattle.std.proofs.lemmas.List.{get_or-set_same, get_or-set_other, get_or_past, length-set}
use Rattle.cluster_world.proofs.AtOnce.{alone_is_few}
use Rattle.cluster_world.proofs.Learner.{place_sound, heard_at, tally_cases, with_cases}
use Rattle.cluster_world.proofs.Lists.{has_left, has_right, map_has}
use Rattle.cluster_world.specs.Has.{Has, here, there}
use Rattle.paxos_packets.specs.Ballot.{same_ballot, ballot_same}
use Rattle.paxos_packets.specs.Members.{IsMember, is_in, no_nodes, others, set_with}
use Rattle.paxos_packets.specs.Packet.{packet, to_others}
use Rattle.paxos_packets.specs.declared.ballot.Ballot.{Ballot}
use Rattle.paxos_packets.specs.declared.packet.Kind.{Kind}
use Rattle.paxos_packets.specs.declared.vote.Vote.{Vote}
use Rattle.paxos_learner.specs.declared.tallies.SlotBallot.{SlotBallot}
use Rattle.paxos_learner.specs.Tallies.{Heard, same_place, place_of, nodes_heard, insert_entry}
use Rattle.paxos_learner.specs.Learned.{is_closed}
use Rattle.paxos_learner.specs.Learner.{LearnerState, hears, has_most, learn, learn_chosen, count_vote}

-- in the slots from this one on node k heard of no vote in this ballot but its own
pub record HeardFrom {B : Type 0} (b : Ballot) (from k : ℕ) (l : LearnerState B) : Type 0 where
  pub only : (t : SlotBallot × List Bool) → Has l.heard t → (j : ℕ) → is_in t.1 j ≡ true → t.0.ballot ≡ b → from ≤ t.0.slot → j ≡ k

-- and in no slot at all
abbrev pub HeardOwn : {B : Type 0} → Ballot → ℕ → LearnerState B → Type 0
HeardOwn b k l = HeardFrom b 0 k l

pub heard_later : {B : Type 0} (b : Ballot) (from later k : ℕ) (l : LearnerState B) → from ≤ later → HeardFrom b from k l
    → HeardFrom b later k l
heard_later b from later k l g ok = record { only = λ t h j q e i. ok.only t h j q e (both t.0.slot i) }
  where
    both : (s : ℕ) → later ≤ s → from ≤ s
    both s i = omega arith

pub hears_own : {B : Type 0} (b : Ballot) (from k : ℕ) (v : Vote B) (l : LearnerState B) → HeardFrom b from k l → HeardFrom b from k
    (hears k v l)
hears_own b from k v l ok =
    record {
      only = λ t h j q e g. ⊎_elim (λ o. ok.only t o j q e g)
          (λ (i : (place_of v ≡ t.0) × (set_with (nodes_heard (place_of v) l.heard) k ≡ t.1)). ⊎_elim (λ m. m)
          (λ r. let u = heard_at l.heard (place_of v) j r in
          ok.only u.0 u.1 j u.3 (ap (λ p. p.ballot) (u.2 ∙ i.0) ∙ e) (subst (λ p. from ≤ p.slot) (sym (u.2 ∙ i.0)) g))
          (with_cases (nodes_heard (place_of v) l.heard) k j (subst (λ z. is_in z j ≡ true) (sym i.1) q)))
          (tally_cases l.heard (place_of v) (set_with (nodes_heard (place_of v) l.heard) k) t h);
    }

own_is_few : {B : Type 0} (members : ℕ) → 2 ≤ members → (b : Ballot) (from k : ℕ) (v : Vote B) (l : LearnerState B) → v.ballot ≡ b
    → from ≤ v.slot → HeardFrom b from k l → has_most members v l ≡ false
own_is_few members many b from k v l e g ok =
    alone_is_few members many (is_in (nodes_heard (place_of v) l.heard)) k
    (λ j q. let u = heard_at l.heard (place_of v) j q in
    ok.only u.0 u.1 j u.3 (ap (λ p. p.ballot) u.2 ∙ e) (subst (λ p. from ≤ p.slot) (sym u.2) g))

-- no slot above the floor is closed
pub none_closed : (floor slot : ℕ) → floor < slot → is_closed floor slot ≡ false
none_closed floor slot l = lt-leb slot floor l

-- so it learns nothing by one more of its own
pub counts_own : {B : Type 0} (members : ℕ) → 2 ≤ members → (b : Ballot) (from k : ℕ) (v : Vote B) (l : LearnerState B) → l.floor < v.slot
    → v.ballot ≡ b → from ≤ v.slot → HeardFrom b from k l → count_vote members k v l ≡ hears k v l
counts_own members many b from k v l open' e g ok =
    cond-false (is_closed l.floor v.slot) l (learn_chosen members v (hears k v l)) (none_closed l.floor v.slot open')
    ∙ cond-false (has_most members v (hears k v l)) (learn v.slot v.entry (hears k v l)) (hears k v l)
    (own_is_few members many b from k v (hears k v l) e g (hears_own b from k v l ok))

-- what is sent to the others is sent to each
pub has_others : (me n members : ℕ) → IsMember members n → (n ≡ me → ⊥) → Has (others me members) n
has_others me n zero m d = absurd (none m)
  where
    none : IsMember zero n → ⊥
    none h = omega arith
has_others me n (suc k) m d =
    ⊎_elim
    (λ (e : n ≡ suc k). has_right (others me k)
    (subst (λ (l : List ℕ). Has l n) (sym (cond-false (eqb (suc k) me) [] (suc k ∷ []) (ne_eqb (suc k) me (λ i. d (e ∙ i)))))
    (subst (λ z. Has (suc k ∷ []) z) (sym e) here)))
    (λ e. has_left _ (has_others me n k (m.0, less e m.1) d))
    (cases_eq n (suc k))
  where
    less : (n ≡ suc k → ⊥) → n ≤ suc k → n ≤ k
    less e l = omega arith

pub sent_to : {B : Type 0} (members me n : ℕ) (kind : Kind B) → IsMember members n → (n ≡ me → ⊥)
    → Has (to_others members me kind) (packet me kind n)
sent_to members me n kind m d = map_has (packet me kind) (has_others me n members m d)

-- which nodes were heard, after one more

place_same : (p : SlotBallot) → same_place p p ≡ true
place_same p = and_from (eqb p.slot p.slot) (same_ballot p.ballot p.ballot) (eq-eqb p.slot p.slot refl) (ballot_same p.ballot)

heard_there : (p : SlotBallot) (set : List Bool) (hs : Heard) → nodes_heard p (insert_entry same_place hs p set) ≡ set
heard_there p set [] = ap (λ t. unwrap_or (if t then Some set else None) no_nodes) (place_same p)
heard_there p set (t ∷ hs) = go (same_place p t.0) refl (heard_there p set hs)
  where
    go : (m : Bool) → same_place p t.0 ≡ m → nodes_heard p (insert_entry same_place hs p set) ≡ set
        → nodes_heard p (if m then (t.0, set) ∷ hs else t ∷ insert_entry same_place hs p set) ≡ set
    go true e more = ap (λ u. unwrap_or (if u then Some set else lookup (same_place p) hs) no_nodes) e
    go false e more =
        ap (λ u. unwrap_or (if u then Some t.1 else lookup (same_place p) (insert_entry same_place hs p set)) no_nodes) e ∙ more

heard_elsewhere : (p q : SlotBallot) (set : List Bool) (hs : Heard) → same_place p q ≡ false
    → nodes_heard p (insert_entry same_place hs q set) ≡ nodes_heard p hs
heard_elsewhere p q set [] d = ap (λ t. unwrap_or (if t then Some set else None) no_nodes) d
heard_elsewhere p q set (t ∷ hs) d = go (same_place q t.0) refl (heard_elsewhere p q set hs d)
  where
    other : same_place q t.0 ≡ true → same_place p t.0 ≡ false
    other e = subst (λ z. same_place p z ≡ false) (place_sound q t.0 e) d

    go : (m : Bool) → same_place q t.0 ≡ m → nodes_heard p (insert_entry same_place hs q set) ≡ nodes_heard p hs
        → nodes_heard p (if m then (t.0, set) ∷ hs else t ∷ insert_entry same_place hs q set) ≡ nodes_heard p (t ∷ hs)
    go true e more =
        ap (λ u. unwrap_or (if u then Some set else lookup (same_place p) hs) no_nodes) (other e)
        ∙ sym (ap (λ u. unwrap_or (if u then Some t.1 else lookup (same_place p) hs) no_nodes) (other e))
    go false e more = found (same_place p t.0) more
      where
        found : (u : Bool) → nodes_heard p (insert_entry same_place hs q set) ≡ nodes_heard p hs
            → unwrap_or (if u then Some t.1 else lookup (same_place p) (insert_entry same_place hs q set)) no_nodes
            ≡ unwrap_or (if u then Some t.1 else lookup (same_place p) hs) no_nodes
        found true m = refl
        found false m = m

-- each tally has room for the numbers 0 to 7
pub record AreEights (hs : Heard) : Type 0 where
  pub each : (t : SlotBallot × List Bool) → Has hs t → length t.1 ≡ 8

eight_at : (p : SlotBallot) (hs : Heard) → AreEights hs → length (nodes_heard p hs) ≡ 8
eight_at p [] ok = refl
eight_at p (t ∷ hs) ok = go (same_place p t.0) (eight_at p hs (record { each = λ u h. ok.each u (there h) }))
  where
    go : (m : Bool) → length (nodes_heard p hs) ≡ 8 → length (unwrap_or (if m then Some t.1 else lookup (same_place p) hs) no_nodes) ≡ 8
    go true h = ok.each t here
    go false h = h

pub eights_more : {B : Type 0} (k : ℕ) (v : Vote B) (l : LearnerState B) → AreEights l.heard → AreEights (hears k v l).heard
eights_more k v l ok =
    record {
      each = λ t h. ⊎_elim (λ o. ok.each t o)
          (λ (i : (place_of v ≡ t.0) × (set_with (nodes_heard (place_of v) l.heard) k ≡ t.1)).
          ap length (sym i.1) ∙ (length-set (nodes_heard (place_of v) l.heard) k true ∙ eight_at (place_of v) l.heard ok))
          (tally_cases l.heard (place_of v) (set_with (nodes_heard (place_of v) l.heard) k) t h);
    }

off : false ≡ true → ⊥
off e = cc

-- the node itself is heard then, and so are those that were
pub hears_itself : {B : Type 0} (k : ℕ) → k < 8 → (v : Vote B) (l : LearnerState B) → AreEights l.heard
    → is_in (nodes_heard (place_of v) (hears k v l).heard) k ≡ true
hears_itself k low v l ok =
    ap (λ set. is_in set k) (heard_there (place_of v) (set_with (nodes_heard (place_of v) l.heard) k) l.heard)
    ∙ get_or-set_same (nodes_heard (place_of v) l.heard) k true false (subst (λ m. k < m) (sym (eight_at (place_of v) l.heard ok)) low)

pub hears_still : {B : Type 0} (k : ℕ) (v : Vote B) (l : LearnerState B) → AreEights l.heard → (p : SlotBallot) (j : ℕ)
    → is_in (nodes_heard p l.heard) j ≡ true → is_in (nodes_heard p (hears k v l).heard) j ≡ true
hears_still {B} k v l ok p j h = go (same_place p (place_of v)) refl
  where
    set : List Bool
    set = set_with (nodes_heard (place_of v) l.heard) k

    kept : is_in (nodes_heard (place_of v) l.heard) j ≡ true → is_in set j ≡ true
    kept g =
        ⊎_elim
        (λ (e : j ≡ k). subst (λ i. is_in set i ≡ true) (sym e)
        (get_or-set_same (nodes_heard (place_of v) l.heard) k true false (inside e)))
        (λ d. get_or-set_other (nodes_heard (place_of v) l.heard) k j true false d ∙ g)
        (cases_eq j k)
      where
        inside : j ≡ k → k < length (nodes_heard (place_of v) l.heard)
        inside e =
            ⊎_elim (λ q. q)
            (λ q. absurd (off (sym (get_or_past (nodes_heard (place_of v) l.heard) k false q)
            ∙ subst (λ i. is_in (nodes_heard (place_of v) l.heard) i ≡ true) e g)))
            (cases_lt k (length (nodes_heard (place_of v) l.heard)))

    go : (m : Bool) → same_place p (place_of v) ≡ m → is_in (nodes_heard p (hears k v l).heard) j ≡ true
    go true e =
        subst (λ q. is_in (nodes_heard q (hears k v l).heard) j ≡ true) (sym (place_sound p (place_of v) e))
        (ap (λ s. is_in s j) (heard_there (place_of v) set l.heard)
        ∙ kept (subst (λ q. is_in (nodes_heard q l.heard) j ≡ true) (place_sound p (place_of v) e) h))
    go false e = ap (λ s. is_in s j) (heard_elsewhere p (place_of v) set l.heard e) ∙ h
