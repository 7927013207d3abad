-- What is sent again at a tick.
use Rattle.std.proofs.Common.{◌≡◌, ◌+◌, ◌≤◌, ℕ, Bool, true, false, cond, ◌||◌, List, [], ◌∷◌, ◌++◌, length, refl, ap, sym, ◌∙◌, arith}
use Rattle.std.specs.Prelude.{nat_lt}
use Rattle.std.specs.List.{flat_map}
use Rattle.std.proofs.lemmas.Bool.{ltb-false}
use Rattle.paxos_packets.specs.Members.{others}
use Rattle.paxos_packets.specs.declared.entry.Entry.{Entry}
use Rattle.paxos_packets.specs.declared.vote.Vote.{Vote}
use Rattle.paxos_packets.specs.declared.packet.Packet.{Packet}
use Rattle.paxos_learner.specs.Learned.{Begins, is_closed, is_learned}
use Rattle.paxos_learner.specs.Learner.{LearnerState, is_known}
use Rattle.paxos_learner.proofs.Beginning.{log_is_learned}
use Rattle.paxos_learner.proofs.Counting.{open_above}
use Rattle.paxos_proposer.specs.Proposals.{behind}
use Rattle.paxos_planning.specs.Ticking.{accepts_again}
use Rattle.paxos_planning.specs.Drafting.{asked_again}

-- of each slot of its log a node knows what it holds, so that its proposals there need not be looked at

log_is_known : {B : Type 0} (log : List (Entry B)) (l : LearnerState B) (slot : ℕ) → Begins l.floor log l.learned
    → slot ≤ l.floor + length log → is_known slot l ≡ true
log_is_known log l slot b k = go (is_closed l.floor slot) refl
  where
    go : (t : Bool) → is_closed l.floor slot ≡ t → (t || is_learned slot l.learned) ≡ true
    go true p = refl
    go false p = log_is_learned l.floor log l.learned slot b (open_above l.floor slot p) k

pub passes_over : {B : Type 0} (me members n : ℕ) (log : List (Entry B)) (l : LearnerState B) (votes : List (Vote B)) → n ≡ l.floor + length log
    → Begins l.floor log l.learned → flat_map (asked_again me (others me members) l) (behind n votes) ≡ accepts_again members me l votes
passes_over me members n log l [] q b = refl
passes_over {B} me members n log l (v ∷ vs) q b = go (nat_lt n v.slot) refl (passes_over me members n log l vs q b)
  where
    f : Vote B → List (Packet B)
    f = asked_again me (others me members) l

    none : is_known v.slot l ≡ true → f v ≡ []
    none p = rw p refl

    go : (t : Bool) → nat_lt n v.slot ≡ t → flat_map f (behind n vs) ≡ accepts_again members me l vs
        → flat_map f (cond t (v ∷ behind n vs) (behind n vs)) ≡ f v ++ accepts_again members me l vs
    go true p h = ap (λ (ps : List (Packet B)). f v ++ ps) h
    go false p h =
        let k : v.slot ≤ n = ltb-false n v.slot p in
        h ∙ ap (λ (ps : List (Packet B)). ps ++ accepts_again members me l vs) (sym (none (log_is_known log l v.slot b (omega arith))))
