-- What a course goes by once its node is level is what the node is then.
use Rattle.std.proofs.Common.{◌≡◌, ℕ, suc, ◌+◌, ◌<◌, ◌≤◌, ◌^◌, max, Bool, true, false, cond, List, [], ◌∷◌, ◌++◌, length, leb, Option, Some, None, refl, sym, ap, ◌∙◌, subst, arith}
use Rattle.std.specs.Prelude.{All, nat_le, ◌||◌, if◌then◌else◌, filter}
use Rattle.std.proofs.lemmas.Bool.{leb-true}
use Rattle.std.proofs.lemmas.Bool.Decides.{nat_tests}
use Rattle.std.proofs.lemmas.List.Elements.{All-nil, All-cons, All-head, All-tail, All-filter}
use Rattle.paxos_packets.specs.Rows.{last_boot}
use Rattle.paxos_packets.specs.Snapshot.{Snapshot, floor_in}
use Rattle.paxos_packets.specs.Vote.{votes_from}
use Rattle.paxos_packets.specs.declared.entry.Entry.{Entry}
use Rattle.paxos_packets.specs.declared.entry.Entry.TheVariants.{Boot}
use Rattle.paxos_packets.specs.declared.vote.Vote.{Vote}
use Rattle.paxos_proposer.specs.Proposer.{round_end, slot_end}
use Rattle.paxos_planning.specs.Node.{NodeState, log_length}
use Rattle.paxos_node.specs.Adopting.{pending_behind}
use Rattle.paxos_node.specs.Applying.{stands_at}
use Rattle.paxos_node.specs.declared.event.Event.{Event}
use Rattle.paxos_node.specs.declared.event.Event.TheVariants.{Start, Crash, Restart}
use Rattle.paxos_packets.specs.declared.packet.Kind.TheVariants as kinds
use Rattle.paxos_node.specs.Events.{last_number}
use Rattle.replica_machine.specs.Roll.{is_wanted_by}
use Rattle.world_rescue.specs.Course.{Crew, delivered}
use Rattle.world_rescue.specs.Level.{Level, IsLevelOf, crew_by, with_own}
use Rattle.world_rescue.specs.Reaching.{Source, preparing, learned_after, holds_boot, falls_after, goes_over, begins_over, node_over, turn_over, reach_by, reached_by, fetch}
use Rattle.world_rescue.proofs.Listing.{joined}
use Rattle.world_rescue.specs.Room.{IsUpTo, LeavesRoom}

-- ---- votes from a slot on

le_true : (a b : ℕ) → leb a b ≡ true → a ≤ b
le_true a b h = grind (arith, nat_tests)

le_false : (a b : ℕ) → leb a b ≡ false → b < a
le_false a b h = grind (arith, nat_tests)

is_le : (a b : ℕ) → a ≤ b → leb a b ≡ true
is_le a b h = grind (arith, nat_tests)

not_le : (a b : ℕ) → b < a → leb a b ≡ false
not_le a b h = grind (arith, nat_tests)

-- those from a slot on are among those from an earlier one on
from_kept : {B : Type 0} (low first : ℕ) (vs : List (Vote B)) → low ≤ first → votes_from first vs ≡ votes_from first (votes_from low vs)
from_kept low first [] l = refl
from_kept {B} low first (v ∷ vs) l = go (leb low v.slot) (leb first v.slot) refl refl (from_kept low first vs l)
  where
    go : (b c : Bool) → leb low v.slot ≡ b → leb first v.slot ≡ c → votes_from first vs ≡ votes_from first (votes_from low vs)
        → cond c (v ∷ votes_from first vs) (votes_from first vs) ≡ votes_from first (cond b (v ∷ votes_from low vs) (votes_from low vs))
    go true true e f i = rw f (ap (λ (us : List (Vote B)). v ∷ us) i)
    go true false e f i = rw f i
    go false false e f i = i
    go false true e f i =
        let m : v.slot < low = le_false low v.slot e in
        let k : first ≤ v.slot = le_true first v.slot f in
        absurd (omega (arith, m, k, l))

-- none is in a later slot, if none of those from an earlier slot on is
all_low : {B : Type 0} (low slot : ℕ) (vs : List (Vote B)) → low ≤ suc slot → All (λ (v : Vote B). v.slot ≤ slot) (votes_from low vs)
    → All (λ (v : Vote B). v.slot ≤ slot) vs
all_low {B} low slot [] l h = All-nil (λ (v : Vote B). v.slot ≤ slot)
all_low {B} low slot (v ∷ vs) l h = go (leb low v.slot) refl h (all_low low slot vs l)
  where
    P : Vote B → Type 0
    P u = u.slot ≤ slot

    go : (b : Bool) → leb low v.slot ≡ b → All P (cond b (v ∷ votes_from low vs) (votes_from low vs)) → (All P (votes_from low vs) → All P vs) → All P (v ∷ vs)
    go true e h f = All-cons P v vs (All-head P v (votes_from low vs) h) (f (All-tail P v (votes_from low vs) h))
    go false e h f = All-cons P v vs (under (le_false low v.slot e)) (f h)
      where
        under : v.slot < low → v.slot ≤ slot
        under m = omega (arith, l, m)

-- ---- the node in the three cases

module _ {B : Type 0} (l : Level B) (n : ℕ) (x : NodeState B) where
  -- it goes on from the snapshot
  pub rides_is : (s : Snapshot) (run : List (Entry B)) → run ≡ learned_after s x → l.boot ≡ x.rows.boot → l.seen ≡ suc x.proposer.seen
      → l.snapshot ≡ Some s → l.log ≡ s.floor + length run
      → l.pending ≡ pending_behind (stands_at (Some s)) run (filter (is_wanted_by (stands_at (Some s))) x.pending) → l.taken ≡ x.taken
      → IsLevelOf x.rows.votes l (goes_over s (preparing n x))
  rides_is s run is boot seen snapshot log pending taken =
      record {
        boot = λ h. boot;
        seen = seen ∙ most x.proposer.seen;
        snapshot = snapshot;
        log = log ∙ ap (λ (es : List (Entry B)). s.floor + length es) is;
        pending = λ h. left;
        count = ap length left;
        taken = taken;
        votes = λ first h. from_kept (suc s.floor) first x.rows.votes h;
      }
    where
      most : (k : ℕ) → suc k ≡ max k (suc k)
      most k = omega arith

      left : l.pending ≡ pending_behind (stands_at (Some s)) (learned_after s x) (filter (is_wanted_by (stands_at (Some s))) x.pending)
      left =
          pending
          ∙ ap (λ (es : List (Entry B)). pending_behind (stands_at (Some s)) es (filter (is_wanted_by (stands_at (Some s))) x.pending)) is

  -- it begins its next boot on the snapshot
  pub begun_is : (s : Snapshot) → (x.rows.boot < 2 ^ 48 → l.boot ≡ suc x.rows.boot) → l.seen ≡ suc x.proposer.seen → l.snapshot ≡ Some s
      → l.log ≡ s.floor → l.pending ≡ Boot n l.boot ∷ [] → l.taken ≡ 0
      → IsLevelOf x.rows.votes l (begins_over n s (preparing n x))
  begun_is s boot seen snapshot log pending taken =
      record {
        boot = λ h. boot (up x.rows.boot (2 ^ 48) h);
        seen = seen;
        snapshot = snapshot;
        log = log ∙ none s.floor;
        pending = λ h. pending ∙ ap (λ (k : ℕ). Boot n k ∷ []) (boot (up x.rows.boot (2 ^ 48) h));
        count = ap length pending;
        taken = taken;
        votes = λ first h. from_kept (suc s.floor) first x.rows.votes h;
      }
    where
      up : (k end : ℕ) → suc k ≤ end → k < end
      up k end h = omega arith

      none : (k : ℕ) → k ≡ k + 0
      none k = omega arith

-- ---- the events, if the node takes the snapshot

module _ {B : Type 0} (n : ℕ) (t : Source) (x : NodeState B) where
  pub over_events : (e0 e1 e2 e3 turn : List (Event B)) → e1 ≡ e0 ++ Start n ∷ [] → e2 ≡ e1 ++ fetch n (suc (log_length x)) t → e3 ≡ e2 ++ turn
      → turn ≡ turn_over n t x → e3 ≡ e0 ++ reach_by n x (Some t)
  over_events e0 e1 e2 e3 turn p q r is =
      joined e0 e2 e3 (Start n ∷ fetch n (suc (log_length x)) t) turn (joined e0 e1 e2 (Start n ∷ []) (fetch n (suc (log_length x)) t) p q) r
      ∙ ap (λ (es : List (Event B)). e0 ++ ((Start n ∷ fetch n (suc (log_length x)) t) ++ es)) is

  pub free_turn : false ≡ holds_boot n t.snapshot x → (if falls_after n t.snapshot x then Restart n ∷ [] else []) ≡ turn_over n t x
  free_turn e =
      ap (λ (b : Bool). if b then Crash n ∷ Restart n ∷ delivered t.number (kinds.Snapshot t.snapshot) n ∷ []
      else (if falls_after n t.snapshot x then Restart n ∷ [] else [])) e

  pub free_node : false ≡ holds_boot n t.snapshot x
      → (if falls_after n t.snapshot x then begins_over n t.snapshot (preparing n x) else goes_over t.snapshot (preparing n x))
      ≡ node_over n t.snapshot (preparing n x)
  free_node e =
      ap (λ (b : Bool). if b || falls_after n t.snapshot x then begins_over n t.snapshot (preparing n x) else goes_over t.snapshot (preparing n x)) e

-- ---- what is left to the node that is level

pub slot_fits : (k : ℕ) → k < slot_end → k < 2 ^ 40
unfolding slot_end
slot_fits k l = l

later_boot : (n : ℕ) → n < last_boot → suc n < 2 ^ 48
unfolding last_boot
later_boot n l = go 281474976710655 281474976710656 l (leb-true 281474976710656 281474976710656 refl)
  where
    go : (a b : ℕ) → n < a → suc a ≤ b → suc n < b
    go a b l h = omega arith

module _ {B : Type 0} (n : ℕ) (x : NodeState B) where
  pub reached_boot : (o : Option Source) → x.rows.boot < last_boot → (reached_by n x o).rows.boot < 2 ^ 48
  reached_boot o l = of o
    where
      less : (k end : ℕ) → suc k < end → k < end
      less k end h = omega arith

      same : x.rows.boot < 2 ^ 48
      same = less x.rows.boot (2 ^ 48) (later_boot x.rows.boot l)

      by : (s : Snapshot) (b : Bool) → (if b then begins_over n s (preparing n x) else goes_over s (preparing n x)).rows.boot < 2 ^ 48
      by s true = later_boot x.rows.boot l
      by s false = same

      of : (o : Option Source) → (reached_by n x o).rows.boot < 2 ^ 48
      of None = same
      of (Some t) = by t.snapshot (holds_boot n t.snapshot (preparing n x) || falls_after n t.snapshot (preparing n x))

  pub reached_taken : (o : Option Source) → x.taken < last_number → (reached_by n x o).taken < last_number
  reached_taken o l = of o
    where
      least : (k end : ℕ) → k < end → 0 < end
      least k end h = omega arith

      by : (s : Snapshot) (b : Bool) → (if b then begins_over n s (preparing n x) else goes_over s (preparing n x)).taken < last_number
      by s true = least x.taken last_number l
      by s false = l

      of : (o : Option Source) → (reached_by n x o).taken < last_number
      of None = l
      of (Some t) = by t.snapshot (holds_boot n t.snapshot (preparing n x) || falls_after n t.snapshot (preparing n x))

  -- it has seen no fewer rounds
  pub reached_seen : (o : Option Source) → suc (reached_by n x o).proposer.seen < round_end → suc x.proposer.seen < round_end
  reached_seen o l = of o l
    where
      less : (k r end : ℕ) → k ≤ r → suc r < end → suc k < end
      less k r end h m = omega arith

      later : (k : ℕ) → k ≤ suc k
      later k = omega arith

      most : (k : ℕ) → k ≤ max k (suc k)
      most k = omega arith

      by : (s : Snapshot) (b : Bool) → suc (if b then begins_over n s (preparing n x) else goes_over s (preparing n x)).proposer.seen < round_end
          → suc x.proposer.seen < round_end
      by s true h = less x.proposer.seen (suc x.proposer.seen) round_end (later x.proposer.seen) h
      by s false h = less x.proposer.seen (max x.proposer.seen (suc x.proposer.seen)) round_end (most x.proposer.seen) h

      of : (o : Option Source) → suc (reached_by n x o).proposer.seen < round_end → suc x.proposer.seen < round_end
      of None h = h
      of (Some t) h = by t.snapshot (holds_boot n t.snapshot (preparing n x) || falls_after n t.snapshot (preparing n x)) h

-- the rounds and slots of the node that is level leave room to the course

module _ {B : Type 0} (c : Crew B) (l : Level B) (x : NodeState B) (is : IsLevelOf c.own.node.rows.votes l x) (round slot most : ℕ)
    (low : IsUpTo round slot most (with_own c x)) where
  pub level_low : IsUpTo round slot most (crew_by c l)
  level_low =
      record {
        seen = subst (λ (k : ℕ). k ≤ round) (sym is.seen) low.seen;
        log = none (floor_in l.snapshot) floor;
        votes = all_low (suc (floor_in x.rows.snapshot)) slot c.own.node.rows.votes (up (floor_in x.rows.snapshot) low.floor)
            (subst (λ (vs : List (Vote B)). All (λ (v : Vote B). v.slot ≤ slot) vs)
            (sym (is.votes (suc (floor_in x.rows.snapshot)) (next (floor_in x.rows.snapshot))))
            (some (suc (floor_in x.rows.snapshot)) x.rows.votes low.votes));
        floor = floor;
        pending = subst (λ (k : ℕ). k ≤ most) (sym is.count) low.pending;
        helpers = low.helpers;
      }
    where
      floor : floor_in l.snapshot ≤ slot
      floor = subst (λ (o : Option Snapshot). floor_in o ≤ slot) (sym is.snapshot) low.floor

      none : (k : ℕ) → k ≤ slot → k + 0 ≤ slot
      none k h = omega arith

      up : (k : ℕ) → k ≤ slot → suc k ≤ suc slot
      up k h = omega arith

      next : (k : ℕ) → k < suc k
      next k = omega arith

      some : (first : ℕ) (vs : List (Vote B)) → All (λ (v : Vote B). v.slot ≤ slot) vs → All (λ (v : Vote B). v.slot ≤ slot) (votes_from first vs)
      some first vs h = All-filter (λ (v : Vote B). nat_le first v.slot) (λ (v : Vote B). v.slot ≤ slot) vs h

  pub log_low : l.log ≤ slot
  log_low = subst (λ (k : ℕ). k ≤ slot) (sym is.log) low.log

module _ {B : Type 0} (c : Crew B) (round slot most : ℕ) (low : IsUpTo round slot most c) (room : LeavesRoom round slot most) where
  pub has_round : suc c.own.node.proposer.seen < round_end
  has_round = go c.own.node.proposer.seen round_end low.seen room.rounds
    where
      go : (k end : ℕ) → k ≤ round → suc (suc (suc round)) < end → suc k < end
      go k end h m = omega arith

  pub has_slot : log_length c.own.node < slot_end
  has_slot = go (log_length c.own.node) slot_end low.log room.slots
    where
      go : (k end : ℕ) → k ≤ slot → slot + (most + most + 3) ≤ end → k < end
      go k end h m = omega arith
