-- A node to whose parts an outcome's moves are done is the one that adopts the outcome.
use Rattle.std.proofs.Common.{◌≡◌, ℕ, suc, ◌+◌, ◌<◌, ◌≤◌, ◌^◌, Bool, true, false, cond, Option, Some, None, List, [], ◌∷◌, ◌++◌, map, length}
use Rattle.std.proofs.Common.{refl, ap, sym, ◌∙◌, subst, arith}
use Rattle.paxos_packets.specs.Snapshot.{Snapshot}
use Rattle.paxos_packets.specs.declared.entry.Entry.{Entry}
use Rattle.paxos_packets.specs.declared.rows.Change.{Change}
use Rattle.paxos_acceptor.specs.Acceptor as accepting
use Rattle.paxos_learner.specs.declared.learned.LearnedEntry.{LearnedEntry}
use Rattle.paxos_learner.specs.Learned.{Begins}
use Rattle.paxos_learner.specs.Learner.{KeepsRoom}
use Rattle.paxos_learner.proofs.Beginning.{entries_are}
use Rattle.paxos_learner.proofs.Keeping.{kept_places}
use Rattle.paxos_proposer.specs.Moves.{promises_in, proposals_in}
use Rattle.paxos_proposer.specs.State as proposing
use Rattle.paxos_node.specs.declared.outcome.Outcome.{Outcome}
use Rattle.paxos_planning.specs.Front.{IsFront}
use Rattle.paxos_planning.specs.Node.{NodeState, log_length}
use Rattle.paxos_node.specs.Applying.{down}
use Rattle.paxos_node.specs.Held.{Room, Held, learner_in, additions, HasRoom, CanGoOn}
use Rattle.paxos_node.specs.Adopting.{Fits, rested, committed, moved_on, stays_up, adopted}
use Rattle.paxos_planning.specs.Parts.{first_learned}

-- one entry at most becomes pending

pub one_added : {B : Type 0} (o : Option (Entry B)) → additions o ≤ 1
one_added None = omega arith
one_added (Some e) = omega arith

-- both parts of a list

pub length_both : {X : Type 0} (xs ys : List X) → length (xs ++ ys) ≡ length xs + length ys
length_both [] ys = omega arith
length_both (x ∷ xs) ys = let h = length_both xs ys in omega arith

-- the first entries of what was learned, if it begins with a log and with what follows

pub first_both : {B : Type 0} (floor : ℕ) (log more : List (Entry B)) (ls : List (LearnedEntry B)) → Begins floor (log ++ more) ls
    → first_learned (length log + length more) ls ≡ log ++ more
first_both {B} floor log more ls h =
    ap (λ (n : ℕ). first_learned n ls) (sym (length_both log more)) ∙ ap (λ (l : List (LearnedEntry B)). map (λ m. m.entry) l) h
    ∙ entries_are (suc floor) (log ++ more)

-- a node that goes on

pub up_adopts : {B : Type 0} (me members : ℕ) (o : Outcome B) (x : NodeState B) → o.is_down ≡ false → stays_up me members o x ≡ adopted me members o x
up_adopts {B} me members o x h = sym (ap (λ (b : Bool). cond b (down (accepting.adopted x.rows o.change)) (stays_up me members o x)) h)

pub down_adopts : {B : Type 0} (me members : ℕ) (o : Outcome B) (x : NodeState B) → o.is_down ≡ true
    → down (accepting.adopted x.rows o.change) ≡ adopted me members o x
down_adopts {B} me members o x h = sym (ap (λ (b : Bool). cond b (down (accepting.adopted x.rows o.change)) (stays_up me members o x)) h)

-- in two steps: the change is committed, then the moves are done

module _ {B : Type 0} (o : Outcome B) (x : NodeState B) where
  abbrev at : Option Snapshot → Bool → Outcome B
  at s over = record o { change = record o.change { snapshot = s }; moves = record o.moves { over = over } }

  pub moves_on : (me members : ℕ) → moved_on me members o.moves o.applied (committed o.moves.over o.change x) ≡ stays_up me members o x
  moves_on me members = go o.change.snapshot o.moves.over
    where
      go : (s : Option Snapshot) (over : Bool)
          → moved_on me members (at s over).moves (at s over).applied (committed over (at s over).change x) ≡ stays_up me members (at s over) x
      go None over = refl
      go (Some s) true = refl
      go (Some s) false = refl

  as_long : log_length (committed o.moves.over o.change x) ≡ log_length (rested o.moves.over o.change.snapshot x)
  as_long = go o.change.snapshot o.moves.over
    where
      go : (s : Option Snapshot) (over : Bool) → log_length (committed over (at s over).change x) ≡ log_length (rested over s x)
      go None over = refl
      go (Some s) true = refl
      go (Some s) false = refl

  pub goes_with : (me members : ℕ) (room : Room) (failed : Bool) → HasRoom o (record { me = me; members = members; state = x; room = room; failed = failed })
      → Fits me members o x → (k : Held B) → k.me ≡ me → k.members ≡ members → k.state ≡ committed o.moves.over o.change x
      → k.room.proposer ≡ room.proposer → room.learner.votes ≤ k.room.learner.votes
      → KeepsRoom (learner_in (record { me = me; members = members; state = x; room = room; failed = failed })) (learner_in k)
      → room.pending ≤ k.room.pending → CanGoOn o.moves o.applied k
  goes_with me members room failed has fits k p q r proposer votes places pending =
      subst (λ (j : Held B). CanGoOn o.moves o.applied j) (sym whole)
      (record {
        moves = fits.moves;
        begins = fits.applied;
        within = subst (λ (n : ℕ). n + length o.applied < 2 ^ 40) (sym as_long) fits.within;
        front =
            subst (λ (y : NodeState B). IsFront o.moves.front (log_length (committed o.moves.over o.change x) + length o.applied) y.proposer.role y.pending)
            (sym (moves_on me members))
            (subst (λ (n : ℕ). IsFront o.moves.front (n + length o.applied) (stays_up me members o x).proposer.role (stays_up me members o x).pending)
            (sym as_long) fits.front);
        proposer =
            subst (λ (m : proposing.Room). proposing.HasRoom (promises_in o.moves.proposer) (proposals_in o.moves.proposer) m) (sym proposer) has.proposer;
        learner = record {
          votes = (let h = has.learner.votes in omega (arith, h, votes));
          places =
              kept_places o.moves.news (learner_in before) (learner_in now)
              (subst (λ (j : Held B). KeepsRoom (learner_in before) (learner_in j)) whole places) has.learner.places;
        };
        pending = (let h = has.pending in omega (arith, h, pending));
      })
    where
      before : Held B
      before = record { me = me; members = members; state = x; room = room; failed = failed }

      now : Held B
      now = record k { me = me; members = members; state = committed o.moves.over o.change x }

      whole : k ≡ now
      whole = λ i. record k { me = p i; members = q i; state = r i }

-- the change has a snapshot

module _ {B : Type 0} (over : Bool) (change : Change B) (x : NodeState B) where
  pub rests_at : (s : Snapshot) → change.snapshot ≡ Some s → log_length (rested over change.snapshot x) < 2 ^ 40 → s.floor + 0 < 2 ^ 40
  rests_at s p l = go over (subst (λ (o : Option Snapshot). log_length (rested over o x) < 2 ^ 40) p l)
    where
      go : (b : Bool) → log_length (rested b (Some s) x) < 2 ^ 40 → s.floor + 0 < 2 ^ 40
      go true k = k
      go false k = k
