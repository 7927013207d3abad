-- A node that rests on a snapshot: what it applies then, and what is planned; and a node that does not, since the snapshot has its boot.
use Rattle.std.proofs.Common.{◌≡◌, ◌<◌, ◌≤◌, ◌+◌, ◌^◌, ℕ, suc, Bool, true, false, cond, not, Option, Some, List, [], ◌∷◌, ◌++◌, take, length}
use Rattle.std.proofs.Common.{refl, ap, sym, ◌∙◌, subst, arith, eqb, ltb, ◌⊎◌, inl, inr}
use Rattle.std.proofs.lemmas.Bool.{ltb-true}
use Rattle.std.proofs.lemmas.Bool.Decides.{nat_tests}
use Rattle.std.specs.Prelude.{nat_lt, nat_le}
use Rattle.paxos_packets.specs.Snapshot as taken
use Rattle.paxos_packets.specs.declared.entry.Entry.{Entry}
use Rattle.paxos_packets.specs.declared.packet.Kind.TheVariants.{Snapshot}
use Rattle.paxos_proposer.specs.declared.moves.Move.TheVariants.{Raised}
use Rattle.paxos_learner.specs.declared.learned.LearnedEntry.{LearnedEntry}
use Rattle.paxos_learner.specs.Learned.{Rises, Begins, learned_above}
use Rattle.paxos_learner.specs.Learner.{run_from, run_with, forgot}
use Rattle.paxos_learner.proofs.Beginning.{goes_on}
use Rattle.replica_machine.specs.declared.head.Head.{Head}
use Rattle.replica_machine.specs.declared.roll.Standing.{Standing}
use Rattle.replica_machine.specs.Snapshot.{head_at}
use Rattle.paxos_planning.specs.Node.{NodeState, Plan, log_length, told_length}
use Rattle.paxos_planning.specs.Parts.{learner_of}
use Rattle.paxos_planning.specs.Plan.{begun}
use Rattle.paxos_planning.specs.Replies.{saw}
use Rattle.paxos_planning.proofs.Standing.{no_front}
use Rattle.paxos_node.specs.declared.outcome.Outcome.{Outcome}
use Rattle.paxos_node.specs.Applying.{stands_at, standing_of, down, apply_all, settle, count_to_end, has_end}
use Rattle.paxos_node.specs.Adopting.{stays_up, adopted, Settled}
use Rattle.paxos_node.specs.Laws.{KeepsItsBoot}
use Rattle.paxos_node.specs.Outcome.{resting_with}
use Rattle.paxos_node.specs.Snapshots.{resting_on, settled_if, rest_on, take_in}
use Rattle.paxos_node.proofs.Ending.{noted, ended, applied_at_once, nothing_more, rises_short, short, ended_change, ended_packets, ended_applied, ended_disagrees, ended_up, ended_log, ended_node}

-- what was learned up to the floor is no part of a run after it

next_above : (floor slot : ℕ) (b : Bool) → floor < slot → floor < cond b (suc slot) slot
next_above floor slot true l = omega arith
next_above floor slot false l = l

run_left : {B : Type 0} (floor slot : ℕ) (ls : List (LearnedEntry B)) → floor < slot → run_from slot (learned_above floor ls) ≡ run_from slot ls
run_left floor slot [] l = refl
run_left {B} floor slot (x ∷ xs) l =
    go (nat_lt floor x.slot) refl (run_left floor (cond (eqb x.slot slot) (suc slot) slot) xs (next_above floor slot (eqb x.slot slot) l))
    (run_left floor slot xs l)
  where
    go : (b : Bool) → nat_lt floor x.slot ≡ b
        → run_from (cond (eqb x.slot slot) (suc slot) slot) (learned_above floor xs) ≡ run_from (cond (eqb x.slot slot) (suc slot) slot) xs
        → run_from slot (learned_above floor xs) ≡ run_from slot xs
        → run_from slot (cond b (x ∷ learned_above floor xs) (learned_above floor xs))
        ≡ run_with (eqb x.slot slot) (ltb x.slot slot) x.entry (run_from (cond (eqb x.slot slot) (suc slot) slot) xs)
    go true q more same = ap (λ (es : List (Entry B)). run_with (eqb x.slot slot) (ltb x.slot slot) x.entry es) more
    go false q more same =
        let other : eqb x.slot slot ≡ false = grind (arith, nat_tests) in
        let earlier : ltb x.slot slot ≡ true = grind (arith, nat_tests) in
        rw (other, earlier) same

-- what is left above the floor rises from it

rises_above : {B : Type 0} (k n floor : ℕ) (ls : List (LearnedEntry B)) → (k ≤ n) ⊎ (k ≤ floor) → k < 2 ^ 40 → Rises n ls
    → Rises k (learned_above floor ls)
rises_above k n floor [] l m r = m
rises_above {B} k n floor (x ∷ xs) l m r =
    go (nat_lt floor x.slot) refl l (rises_above x.slot x.slot floor xs (inl (omega arith)) (rises_short x.slot xs r.1) r.1)
    (λ d. rises_above k x.slot floor xs d m r.1)
  where
    go : (b : Bool) → nat_lt floor x.slot ≡ b → (k ≤ n) ⊎ (k ≤ floor) → Rises x.slot (learned_above floor xs)
        → ((k ≤ x.slot) ⊎ (k ≤ floor) → Rises k (learned_above floor xs))
        → Rises k (cond b (x ∷ learned_above floor xs) (learned_above floor xs))
    go true e (inl d) later rest = let h : n < x.slot = r.0 in (omega arith, later)
    go true e (inr d) later rest = let h : floor < x.slot = ltb-true floor x.slot e in (omega arith, later)
    go false e (inl d) later rest = let h : n < x.slot = r.0 in rest (inl (omega arith))
    go false e (inr d) later rest = rest (inr d)

-- what is planned

module _ {B : Type 0} (me members : ℕ) (x : NodeState B) (s : taken.Snapshot) where
  -- the node then, and the plan so far
  abbrev node_then : Bool → NodeState B
  node_then over = settled_if over (resting_on s x)

  abbrev so_far : Bool → Plan B
  so_far over = rest_on over s (begun x)

  stands_then : (over : Bool) → standing_of (node_then over) me ≡ stands_at (Some s) me
  stands_then true = refl
  stands_then false = refl

  boot_then : (over : Bool) → (node_then over).rows.boot ≡ x.rows.boot
  boot_then true = refl
  boot_then false = refl

  up_then : (over : Bool) → (node_then over).up ≡ x.up
  up_then true = refl
  up_then false = refl

  run_then : (over : Bool) → run_from (suc (log_length (node_then over))) (node_then over).learner.learned ≡ run_from (suc s.floor) x.learner.learned
  run_then true =
      ap (λ (n : ℕ). run_from (suc n) (learned_above s.floor x.learner.learned)) (nothing_more s.floor)
      ∙ run_left s.floor (suc s.floor) x.learner.learned (omega arith)
  run_then false =
      ap (λ (n : ℕ). run_from (suc n) (learned_above s.floor x.learner.learned)) (nothing_more s.floor)
      ∙ run_left s.floor (suc s.floor) x.learner.learned (omega arith)

  rise_then : (over : Bool) → x.learner.floor ≤ s.floor → x.learner.floor ≤ (node_then over).learner.floor
  rise_then true l = l
  rise_then false l = l

  begin_then : (over : Bool) (es : List (Entry B)) → Begins s.floor es (learned_above s.floor x.learner.learned)
      → Begins (node_then over).learner.floor ((node_then over).applied ++ es) (node_then over).learner.learned
  begin_then true es b = b
  begin_then false es b = b

  long_then : (over : Bool) (n : ℕ) → s.floor + n ≡ log_length (node_then over) + n
  long_then true n = ap (λ (m : ℕ). m + n) (sym (nothing_more s.floor))
  long_then false n = ap (λ (m : ℕ). m + n) (sym (nothing_more s.floor))

  longer_then : (over : Bool) (es : List (Entry B)) → s.floor + length es ≡ log_length (noted es (so_far over)).node
  longer_then true es = refl
  longer_then false es = refl

  adopts_then : (over is_down : Bool) (es : List (Entry B)) (log : ℕ)
      → adopted me members (resting_with s over (Raised s.floor ∷ []) [] es is_down log) x
      ≡ cond is_down (down (noted es (so_far over)).node.rows) (noted es (so_far over)).node
  adopts_then true true es log = refl
  adopts_then true false es log = refl
  adopts_then false true es log = refl
  adopts_then false false es log = refl

  pub rests : (over : Bool) (run applied : List (Entry B)) (is_down : Bool) (log : ℕ) → x.up ≡ true → x.learner.floor ≤ s.floor → s.floor < 2 ^ 40
      → Rises x.learner.floor x.learner.learned
      → run ≡ run_from (suc s.floor) x.learner.learned
      → applied ≡ take (count_to_end me x.rows.boot (stands_at (Some s) me) run) run
      → is_down ≡ has_end me x.rows.boot (stands_at (Some s) me) run
      → log ≡ cond is_down 0 (s.floor + length applied)
      → Settled me members x (so_far over) (resting_with s over (Raised s.floor ∷ []) [] applied is_down log)
  rests over run applied is_down log up low within rises run_is applied_is down_is log_is =
      record {
        agrees = ap (λ (u : Plan B). u.disagrees) whole ∙ ended_disagrees is_down now;
        change = ended_change is_down now ∙ ap (λ (u : Plan B). u.change) (sym whole);
        packets = ended_packets is_down now ∙ ap (λ (u : Plan B). u.packets) (sym whole);
        applied = ended_applied is_down now ∙ ap (λ (u : Plan B). u.applied) (sym whole);
        is_down = ended_up is_down now up_now ∙ ap (λ (u : Plan B). not u.node.up) (sym whole);
        fits = record {
          moves = (tt, tt);
          rises = rise_then over low;
          applied = begin_then over applied goes;
          within = subst (λ (n : ℕ). n < 2 ^ 40) (long_then over (length applied)) most;
          front = no_front (log_length (node_then over) + length applied) (stays_up me members o x).proposer.role (stays_up me members o x).pending;
        };
        node = adopts_then over is_down applied log ∙ ended_node is_down now ∙ ap (λ (u : Plan B). u.node) (sym whole);
        log = log_is ∙ ended_log is_down now (s.floor + length applied) up_now (longer_then over applied) ∙ ap (λ (u : Plan B). told_length u.node) (sym whole);
      }
    where
      stands : Standing
      stands = stands_at (Some s) me

      o : Outcome B
      o = resting_with s over (Raised s.floor ∷ []) [] applied is_down log

      now : Plan B
      now = noted applied (so_far over)

      up_now : now.node.up ≡ true
      up_now = up_then over ∙ up

      whole : settle me (so_far over) ≡ ended is_down now
      whole =
          applied_at_once me x.rows.boot (run_from (suc (log_length (node_then over))) (node_then over).learner.learned) stands (so_far over) (stands_then over)
          (boot_then over)
          ∙ ap (λ (r : List (Entry B)). ended (has_end me x.rows.boot stands r) (noted (take (count_to_end me x.rows.boot stands r) r) (so_far over)))
          (run_then over ∙ sym run_is)
          ∙ (λ i. ended (sym down_is i) (noted (sym applied_is i) (so_far over)))

      left : Rises s.floor (learned_above s.floor x.learner.learned)
      left = rises_above s.floor x.learner.floor s.floor x.learner.learned (inr (omega arith)) within rises

      goes : Begins s.floor applied (learned_above s.floor x.learner.learned)
      goes =
          subst (λ (es : List (Entry B)). Begins s.floor es (learned_above s.floor x.learner.learned))
          (ap (λ (r : List (Entry B)). take (count_to_end me x.rows.boot stands run) r) (run_then false ∙ sym run_is) ∙ sym applied_is)
          (goes_on s.floor [] [] (forgot s.floor (learner_of members x)) (count_to_end me x.rows.boot stands run) refl left)

      most : s.floor + length applied < 2 ^ 40
      most = short s.floor applied (learned_above s.floor x.learner.learned) goes left

-- a snapshot that has the node's present boot

kept : {A : Type 0} (b : Bool) (u v : A) → v ≡ u → cond b u v ≡ u
kept true u v h = refl
kept false u v h = h

pub boots_stay : {B : Type 0} → KeepsItsBoot B
boots_stay {B} same members me sender s head x p q r =
    ap (λ (t : Plan B). settle me t)
    (kept (nat_le s.floor (log_length x)) o (take_in me s (head_at s.octets) o)
    (ap (λ (h : Option Head). take_in me s h o) p ∙ ap (λ (b : Bool). cond b o (rest_on true s o)) q))
    ∙ ap (λ (es : List (Entry B)). apply_all me es o) r
  where
    o : Plan B
    o = begun (saw (Snapshot s) x)
