-- Applying at an event's end is applying at once: a vote of its own for a new proposal teaches a node nothing.
use Rattle.std.proofs.Common.{◌≡◌, ⊎_elim, ℕ, zero, suc, ◌+◌, ◌*◌, ◌<◌, ◌≤◌, Bool, true, false, eqb, refl, sym, ap, ◌∙◌, subst, arith}
use Rattle.std.proofs.Common.{List, [], ◌∷◌, ◌++◌, length, Option, Some, None, ◌&&◌}
use Rattle.std.specs.Prelude.{nat_lt, ◌==◌, if◌then◌else◌}
use Rattle.std.proofs.lemmas.Bool.{cond_both, cond-false, cases_Bool, ltb-true, ltb-false, ne_eqb, lt-ltb, eqb-true, and_parts}
use Rattle.cluster_world.proofs.Invariant.{VoteOf, AllSafe, vote, promises}
use Rattle.cluster_world.proofs.Growth.{all_safe_grows}
use Rattle.cluster_world.proofs.WithNode.{with_node}
use Rattle.cluster_world.proofs.Learner.{learner_of, heard_alone}
use Rattle.cluster_world.proofs.Proposals.{State, leads, propose_made, propose_full, propose_path, proposed_role}
use Rattle.cluster_world.proofs.Events.{mine}
use Rattle.cluster_world.proofs.Settling.{one_longer}
use Rattle.paxos_packets.specs.Members.{count_nodes, is_majority, is_in}
use Rattle.paxos_packets.specs.Packet.{to_others}
use Rattle.paxos_packets.specs.Snapshot.{Snapshot, floor_in}
use Rattle.paxos_packets.specs.declared.ballot.Ballot.{Ballot}
use Rattle.paxos_packets.specs.declared.entry.Entry.{Entry}
use Rattle.paxos_packets.specs.declared.packet.Packet.{Packet}
use Rattle.paxos_packets.specs.declared.vote.Vote.{Vote}
use Rattle.paxos_packets.specs.declared.packet.Kind.TheVariants.{Accepted}
use Rattle.paxos_proposer.specs.Role.{Role, Idle, Preparing, Leading}
use Rattle.paxos_proposer.specs.Proposer.{slot_end, next_vote}
use Rattle.paxos_learner.specs.declared.learned.LearnedEntry.{LearnedEntry}
use Rattle.paxos_learner.specs.Tallies.{place_of, nodes_heard}
use Rattle.paxos_learner.specs.Learned.{is_closed, learned_above}
use Rattle.paxos_learner.specs.Learner.{LearnerState, hears, has_most, learn, learn_chosen, run_with, run_from}
use Rattle.paxos_planning.specs.Node.{NodeState, Plan, log_length}
use Rattle.paxos_planning.specs.Plan.{send, vote as vote_at_end, count as count_at_end, cast as cast_at_end}
use Rattle.paxos_planning.specs.Proposals.{offer, propose_as as propose_as_at_end, propose as propose_at_end, propose_all as propose_all_at_end}
use Rattle.paxos_node.specs.Applying.{note, ends, go_down, apply_all, settle}
use Rattle.paxos_node.specs.Snapshots.{is_head_of, may_cut, rest_on, on_cut}
use Rattle.replica_machine.specs.Snapshot.{head_at}
use Rattle.cluster_world.specs.AtOnce as now
use Rattle.paxos_packets.specs.Body.{IsEquality}

-- nothing that it learned waits to be applied
abbrev pub AtRest : {B : Type 0} → NodeState B → Type 0
AtRest x = run_from (suc (log_length x)) x.learner.learned ≡ []

pub settle_rest : {B : Type 0} (n : ℕ) (t : Plan B) → AtRest t.node → settle n t ≡ t
settle_rest n t r = ap (λ es. apply_all n es t) r

-- at the end of an event it is so

passed : {B : Type 0} (f : LearnedEntry B) (fs : List (LearnedEntry B)) (s : ℕ) → f.slot < s → run_from s (f ∷ fs) ≡ run_from s fs
passed f fs s l =
    ap (λ a. run_with a (nat_lt f.slot s) f.entry (run_from (if a then suc s else s) fs)) (ne_eqb f.slot s apart)
    ∙ ap (λ b. run_with false b f.entry (run_from s fs)) (lt-ltb f.slot s l)
  where
    apart : f.slot ≡ s → ⊥
    apart e = omega arith

-- what is not above a floor is passed over
pub run_above : {B : Type 0} (floor : ℕ) (fs : List (LearnedEntry B)) (s : ℕ) → floor < s
    → run_from s (learned_above floor fs) ≡ run_from s fs
run_above floor [] s l = refl
run_above {B} floor (f ∷ fs) s l = go (nat_lt floor f.slot) refl (λ k i. run_above floor fs k i)
  where
    low : f.slot ≤ floor → f.slot < s
    low h = omega arith

    more : floor < suc s
    more = omega arith

    kept : (a : Bool) → ((k : ℕ) → floor < k → run_from k (learned_above floor fs) ≡ run_from k fs)
        → run_from (if a then suc s else s) (learned_above floor fs) ≡ run_from (if a then suc s else s) fs
    kept true rest = rest (suc s) more
    kept false rest = rest s l

    go : (b : Bool) → nat_lt floor f.slot ≡ b → ((k : ℕ) → floor < k → run_from k (learned_above floor fs) ≡ run_from k fs)
        → run_from s (if b then f ∷ learned_above floor fs else learned_above floor fs) ≡ run_from s (f ∷ fs)
    go true e rest = ap (λ es. run_with (eqb f.slot s) (nat_lt f.slot s) f.entry es) (kept (eqb f.slot s) rest)
    go false e rest = rest s l ∙ sym (passed f fs s (low (ltb-false floor f.slot e)))

run_tail : {B : Type 0} (fs : List (LearnedEntry B)) (s : ℕ) (e : Entry B) (es : List (Entry B)) → run_from s fs ≡ e ∷ es
    → run_from (suc s) fs ≡ es
run_tail [] s e es h = absurd (cc)
run_tail {B} (f ∷ fs) s e es h = go (λ k. run_tail fs s e es k) (eqb f.slot s) (nat_lt f.slot s) refl refl h
  where
    tail : {d : Entry B} {ds : List (Entry B)} → d ∷ ds ≡ e ∷ es → ds ≡ es
    tail h = cc

    nothing : ◌≡◌ {A = List (Entry B)} [] (e ∷ es) → ⊥
    nothing h = cc

    below_next : f.slot ≡ s → f.slot < suc s
    below_next q = omega arith

    below_too : f.slot < s → f.slot < suc s
    below_too q = omega arith

    go : (run_from s fs ≡ e ∷ es → run_from (suc s) fs ≡ es) → (a b : Bool) → eqb f.slot s ≡ a → nat_lt f.slot s ≡ b
        → run_with a b f.entry (run_from (if a then suc s else s) fs) ≡ e ∷ es → run_from (suc s) (f ∷ fs) ≡ es
    go more true b p q k = passed f fs (suc s) (below_next (eqb-true f.slot s p)) ∙ tail k
    go more false true p q k = passed f fs (suc s) (below_too (ltb-true f.slot s q)) ∙ more k
    go more false false p q k = absurd (nothing k)

rest_applied : {B : Type 0} (n : ℕ) (es : List (Entry B)) (o : Plan B)
    → run_from (suc (log_length o.node)) o.node.learner.learned ≡ es → AtRest (apply_all n es o).node
rest_applied n [] o h = h
rest_applied n (e ∷ es) o h =
    cond_both (ends n o.node e) (go_down (note e o)) (apply_all n es (note e o)) (λ z. AtRest z.node) (λ t. refl)
    (λ t. rest_applied n es (note e o)
    (ap (λ k. run_from (suc k) o.node.learner.learned) (one_longer (floor_in o.node.rows.snapshot) o.node.applied e)
    ∙ run_tail o.node.learner.learned (suc (log_length o.node)) e es h))

pub rest_settled : {B : Type 0} (n : ℕ) (o : Plan B) → AtRest (settle n o).node
rest_settled n o = rest_applied n (run_from (suc (log_length o.node)) o.node.learner.learned) o refl

-- nor after a cut
pub cut_rest : {B : Type 0} (n : ℕ) (t : Plan B) (o : Option Snapshot) → may_cut o t.node ≡ true → AtRest t.node → settle n (on_cut o t) ≡ on_cut o t
cut_rest n t None may rest = settle_rest n t rest
cut_rest n t (Some s) may rest =
    settle_rest n (rest_on false s t)
    (ap (λ k. run_from (suc k) (learned_above s.floor t.node.learner.learned)) (none_more s.floor)
    ∙ (run_above s.floor t.node.learner.learned (suc s.floor) (past s.floor)
    ∙ (ap (λ k. run_from (suc k) t.node.learner.learned) is ∙ rest)))
  where
    none_more : (k : ℕ) → k + 0 ≡ k
    none_more k = omega arith

    past : (k : ℕ) → k < suc k
    past k = omega arith

    is : s.floor ≡ log_length t.node
    is =
        eqb-true s.floor (log_length t.node)
        (and_parts (s.floor == log_length t.node) (is_head_of t.node (head_at s.octets))
        (and_parts (nat_lt 0 (length t.node.applied)) ((s.floor == log_length t.node) && is_head_of t.node (head_at s.octets)) may).1).0

-- packets may be sent before or after it
pub apply_send : {B : Type 0} (n : ℕ) (ps : List (Packet B)) (es : List (Entry B)) (o : Plan B)
    → apply_all n es (send ps o) ≡ send ps (apply_all n es o)
apply_send n ps [] o = refl
apply_send {B} n ps (e ∷ es) o = go (ends n o.node e) (apply_send n ps es (note e o))
  where
    go : (b : Bool) → apply_all n es (send ps (note e o)) ≡ send ps (apply_all n es (note e o))
        → (if b then go_down (note e (send ps o)) else apply_all n es (note e (send ps o)))
        ≡ send ps (if b then go_down (note e o) else apply_all n es (note e o))
    go true h = refl
    go false h = h

-- a step that teaches nothing
pub record Calm {B : Type 0} (t u : Plan B) : Type 0 where
  pub base : u.node.rows.snapshot ≡ t.node.rows.snapshot
  pub learned : u.node.learner.learned ≡ t.node.learner.learned
  pub log : u.node.applied ≡ t.node.applied
  pub pending : u.node.pending ≡ t.node.pending

pub calm_here : {B : Type 0} (t : Plan B) → Calm t t
calm_here t = record { base = refl; learned = refl; log = refl; pending = refl }

pub calm_rest : {B : Type 0} {t u : Plan B} → Calm t u → AtRest t.node → AtRest u.node
calm_rest c r = (λ i. run_from (suc (floor_in (c.base i) + length (c.log i))) (c.learned i)) ∙ r

-- it is the same at once and at the end
pub record Agrees {B : Type 0} (t u v : Plan B) : Type 0 where
  pub is : u ≡ v
  pub calm : Calm t v

pub agrees_here : {B : Type 0} (t : Plan B) → Agrees t t t
agrees_here t = record { is = refl; calm = calm_here t }

pub then_agrees : {B : Type 0} {t u v w : Plan B} (go : Plan B → Plan B) → Agrees t u v → Agrees v (go v) w → Agrees t (go u) w
then_agrees go a b =
    record {
      is = ap go a.is ∙ b.is;
      calm =
          record {
            base = b.calm.base ∙ a.calm.base;
            learned = b.calm.learned ∙ a.calm.learned;
            log = b.calm.log ∙ a.calm.log;
            pending = b.calm.pending ∙ a.calm.pending;
          };
    }

pub end_agrees : {B : Type 0} {t u v : Plan B} (n : ℕ) → AtRest t.node → Agrees t u v → settle n v ≡ u
end_agrees {v = v} n r a = settle_rest n v (calm_rest a.calm r) ∙ sym a.is

-- one node is no majority

count_none : (test : ℕ → Bool) (n : ℕ) → ((j : ℕ) → j ≤ n → test j ≡ true → ⊥) → count_nodes test n ≡ 0
count_none test zero h = refl
count_none test (suc n) h = go (test (suc n)) refl (count_none test n (λ j l. h j (omega arith)))
  where
    go : (b : Bool) → test (suc n) ≡ b → count_nodes test n ≡ 0 → (if b then 1 else 0) + count_nodes test n ≡ 0
    go true e z = absurd (h (suc n) (omega arith) e)
    go false e z = omega arith

count_one : (test : ℕ → Bool) (k n : ℕ) → ((j : ℕ) → test j ≡ true → j ≡ k) → count_nodes test n ≤ 1
count_one test k zero h = omega arith
count_one test k (suc n) h = go (test (suc n)) refl (count_one test k n h)
  where
    apart : (j : ℕ) → j ≤ n → j ≡ k → suc n ≡ k → ⊥
    apart j l a b = omega arith

    sum : {c : ℕ} → c ≡ 0 → 1 + c ≤ 1
    sum e = omega arith

    go : (b : Bool) → test (suc n) ≡ b → count_nodes test n ≤ 1 → (if b then 1 else 0) + count_nodes test n ≤ 1
    go true e l = sum (count_none test n (λ j i t. apart j i (h j t) (h (suc n) e)))
    go false e l = omega arith

pub alone_is_few : (members : ℕ) → 2 ≤ members → (test : ℕ → Bool) (k : ℕ) → ((j : ℕ) → test j ≡ true → j ≡ k) → is_majority members test ≡ false
alone_is_few members many test k h = go (is_majority members test) refl
  where
    few : count_nodes test members ≤ 1 → members < 2 * count_nodes test members → ⊥
    few a b = omega arith

    go : (b : Bool) → is_majority members test ≡ b → is_majority members test ≡ false
    go true e = absurd (few (count_one test k members h) (ltb-true members (2 * count_nodes test members) e))
    go false e = e

module _ {B : Type 0} (same : B → B → Bool) (equal : IsEquality same) (members : ℕ) (many : 2 ≤ members) (at : ℕ → NodeState B) (n : ℕ)
    (before : List (Packet B)) where
  abbrev St : Plan B → Type 0
  St t = State same equal members many at n before t

  -- no other can have voted for that slot in that ballot
  own_calm : (t : Plan B) (b : Ballot) (next : ℕ) (table : List (Vote B)) (e : Entry B) → St t → t.node.proposer.role ≡ Leading b next table
      → Calm t (cast_at_end same members n (next_vote b next e) (offer members n b next table e t))
  own_calm t b next table e inv is =
      record {
        base = refl;
        learned = cond_both (is_closed t.node.learner.floor next) t.node.learner (learn_chosen members v (hears n v t.node.learner))
            (λ (l : LearnerState B). l.learned ≡ t.node.learner.learned) (λ c. refl)
            (λ c. ap (λ (l : LearnerState B). l.learned) (cond-false (has_most members v (hears n v t.node.learner))
            (learn next e (hears n v t.node.learner)) (hears n v t.node.learner) few));
        log = refl;
        pending = refl;
      }
    where
      v : Vote B
      v = next_vote b next e

      all : List (Packet B)
      all = before ++ t.packets

      below_itself : next < next → ⊥
      below_itself l = omega arith

      nobody : (j : ℕ) → VoteOf all (place_of v) j → ⊥
      nobody j o =
          below_itself
          ((leads members many at n t.node all b next table inv is).made (vote next b o.entry)
          (inv.packets.voted j (vote next b o.entry) o.is) refl)

      few : has_most members v (hears n v t.node.learner) ≡ false
      few =
          alone_is_few members many (is_in (nodes_heard (place_of v) (hears n v t.node.learner).heard)) n
          (heard_alone members (promises (with_node at n t.node)) all n t.node.learner n v
          (learner_of members (promises (with_node at n t.node)) all n t.node (mine same equal members many at n before t inv)) nobody)

  proposes_as : (r : Role B) (e : Entry B) (t : Plan B) → t.node.proposer.role ≡ r → St t → AtRest t.node
      → Agrees t (now.propose_as same members n r e t) (propose_as_at_end same members n r e t)
  proposes_as Idle e t is inv rest = agrees_here t
  proposes_as (Preparing b floor cs) e t is inv rest = agrees_here t
  proposes_as (Leading b next table) e t is inv rest =
      record {
        is = ap (λ u. if nat_lt next slot_end then u else t)
            (ap (λ u. send (to_others members n (Accepted v)) u) (settle_rest n counted (calm_rest calm rest)));
        calm = cond_both (nat_lt next slot_end) (cast_at_end same members n v (offer members n b next table e t)) t (λ u. Calm t u)
            (λ l. calm) (λ l. calm_here t);
      }
    where
      v : Vote B
      v = next_vote b next e

      counted : Plan B
      counted = count_at_end same members n v (vote_at_end v (offer members n b next table e t))

      calm : Calm t (cast_at_end same members n v (offer members n b next table e t))
      calm = own_calm t b next table e inv is

  pub proposes : (e : Entry B) (t : Plan B) → St t → AtRest t.node
      → Agrees t (now.propose same members n e t) (propose_at_end same members n e t)
  proposes e t inv rest = proposes_as t.node.proposer.role e t refl inv rest

  -- what a new leader is called to propose
  pub recovers : (es : List (Entry B)) (t : Plan B) (b : Ballot) (next : ℕ) (table : List (Vote B)) → St t
      → t.node.proposer.role ≡ Leading b next table
      → AllSafe members (promises (with_node at n t.node)) (before ++ t.packets) b next es → AtRest t.node
      → Agrees t (now.propose_all same members n es t) (propose_all_at_end same members n es t)
  recovers [] t b next table inv is safe rest = agrees_here t
  recovers (e ∷ es) t b next table inv is safe rest =
      then_agrees (λ z. now.propose_all same members n es z) a
      (⊎_elim
      (λ l. let path = propose_path same equal members many at n before t b next table e inv is safe.0 in
      made l (recovers es u b (suc next) (table ++ next_vote b next e ∷ []) path.going.inv
      (proposed_role same equal members many at n before t b next table e)
      (all_safe_grows members path.going.grows b (suc next) es safe.1) (calm_rest (own_calm t b next table e inv is) rest)))
      full (cases_Bool (nat_lt next slot_end)))
    where
      u : Plan B
      u = cast_at_end same members n (next_vote b next e) (offer members n b next table e t)

      a : Agrees t (now.propose same members n e t) (propose_at_end same members n e t)
      a = proposes e t inv rest

      made : nat_lt next slot_end ≡ true → Agrees u (now.propose_all same members n es u) (propose_all_at_end same members n es u)
          → Agrees (propose_at_end same members n e t) (now.propose_all same members n es (propose_at_end same members n e t))
          (propose_all_at_end same members n es (propose_at_end same members n e t))
      made l h =
          subst (λ z. Agrees z (now.propose_all same members n es z) (propose_all_at_end same members n es z))
          (sym (propose_made same equal members many at n before t b next table e is l)) h

      nothing : (ds : List (Entry B)) → nat_lt next slot_end ≡ false
          → Agrees t (now.propose_all same members n ds t) (propose_all_at_end same members n ds t)
      nothing [] l = agrees_here t
      nothing (d ∷ ds) l =
          then_agrees (λ z. now.propose_all same members n ds z) (proposes d t inv rest)
          (subst (λ z. Agrees z (now.propose_all same members n ds z) (propose_all_at_end same members n ds z))
          (sym (propose_full same equal members many at n before t b next table d is l)) (nothing ds l))

      full : nat_lt next slot_end ≡ false
          → Agrees (propose_at_end same members n e t) (now.propose_all same members n es (propose_at_end same members n e t))
          (propose_all_at_end same members n es (propose_at_end same members n e t))
      full l =
          subst (λ z. Agrees z (now.propose_all same members n es z) (propose_all_at_end same members n es z))
          (sym (propose_full same equal members many at n before t b next table e is l)) (nothing es l)
