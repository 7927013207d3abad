-- Whether the votes that a leader would cast in an event disagree with what was learned, stated without what it proposes: its entries are gone
-- through in order, each with the slot that it would have.
use denote.Ref.{Bor}
use Rattle.std.specs.Prelude.{◌≡◌, ◌≤◌, ℕ, suc, Bool, false, not, ◌&&◌, ◌||◌, nat_lt, nat_le, Option, Some, None, List, [], ◌∷◌, ◌++◌, drop, if◌then◌else◌}
use Rattle.std.specs.List.{list_any}
use Rattle.paxos_packets.specs.Entry.{same_entry}
use Rattle.paxos_packets.specs.declared.ballot.Ballot.{Ballot}
use Rattle.paxos_packets.specs.declared.entry.Entry.{Entry}
use Rattle.paxos_packets.specs.declared.entry.Entry.TheVariants as entry
use Rattle.paxos_packets.specs.declared.vote.Vote.{Vote}
use Rattle.paxos_proposer.specs.Proposals.{stands_among, behind}
use Rattle.paxos_proposer.specs.Proposer.{slot_end, next_vote}
use Rattle.paxos_proposer.specs.Role.{Role, Idle, Preparing, Leading}
use Rattle.paxos_learner.specs.Learner.{LearnerState, vote_disagrees}
use Rattle.paxos_planning.specs.Parts.{Whole}
use Rattle.paxos_planning.specs.declared.walking.Lead.{Lead}
use Rattle.paxos_planning.specs.declared.walking.Earlier.{Earlier}
use Rattle.paxos_planning.specs.declared.walking.Earlier.TheVariants.{Proposed, Called}
use Rattle.paxos_packets.specs.Snapshot.{floor_in}
use Rattle.paxos_proposer.specs.Promises.{promised, called_by}
use Rattle.paxos_proposer.specs.Reports.{called_for}
use Rattle.paxos_planning.specs.Node.{NodeState, log_length}
use Rattle.paxos_planning.specs.declared.walking.Walk.{Walk}
use Rattle.paxos_planning.specs.declared.wanted.Wanted.{Wanted}
use Rattle.paxos_planning.specs.declared.wanted.Wanted.TheVariants.{Held, Noop, Item}

-- an entry by reference
abbrev pub entry_of : {B : Type 0} → Wanted B → Entry B
entry_of (Held e) = e.now
entry_of Noop = entry.Noop
entry_of (Item node boot seq transport body) = entry.Item node boot seq transport body.now

-- the entry that a promise calls for, by the one that was reported
abbrev pub called_entry : {B : Type 0} → Option (Bor (Entry B)) → Entry B
called_entry None = entry.Noop
called_entry (Some e) = e.now

-- how far the entries are gone through: the slot of the next proposal; the last of them, to which no equal one is proposed any more; and
-- whether a vote would disagree
pub record Walked (B : Type 0) : Type 0 where
  pub next : ℕ
  pub recent : List (Entry B)
  pub other : Bool

-- the same, if these are gone through
abbrev pub walked_through : {B : Type 0} → List (Entry B) → Walk → Walked B
walked_through es w = record { next = w.next; recent = drop w.from es; other = w.other }

-- the entry is proposed: a slot is left, and it does not stand
abbrev pub proposes_then : {B : Type 0} → (B → B → Bool) → ℕ → List (Vote B) → ℕ → List (Entry B) → Entry B → Bool
proposes_then same applied proposed next recent e =
    nat_lt next slot_end && (not (stands_among same applied e proposed) && not (list_any (λ d. same_entry same d e) recent))

-- the leader's vote for it in this slot would disagree
abbrev pub differs : {B : Type 0} → (B → B → Bool) → ℕ → ℕ → Ballot → LearnerState B → ℕ → Entry B → Bool
differs same members me b l slot e = nat_lt slot slot_end && vote_disagrees same members me (next_vote b slot e) l

module _ {B : Type 0} (same : B → B → Bool) (members me applied : ℕ) (b : Ballot) (proposed : List (Vote B)) (l : LearnerState B) where
  -- what is proposed in a slot that is applied does not stand
  abbrev pub walk_by : Bool → Entry B → Walked B → Walked B
  walk_by proposes e w =
      record {
        next = if proposes then suc w.next else w.next;
        recent = if proposes && nat_le w.next applied then [] else w.recent ++ e ∷ [];
        other = w.other || (proposes && differs same members me b l w.next e);
      }

  abbrev pub walk_on : Entry B → Walked B → Walked B
  walk_on e w = walk_by (proposes_then same applied proposed w.next w.recent e) e w

  abbrev pub walk_all : List (Entry B) → Walked B → Walked B
  walk_all [] w = w
  walk_all (e ∷ es) w = walk_all es (walk_on e w)

abbrev pub walk_from : {B : Type 0} → ℕ → Bool → Walked B
walk_from next other = record { next = next; recent = []; other = other }

-- whether a vote for one of these entries disagrees, if the member leads
abbrev pub proposes_other : {B : Type 0} → (B → B → Bool) → ℕ → ℕ → ℕ → LearnerState B → Role B → List (Entry B) → Bool
proposes_other same members me applied l Idle es = false
proposes_other same members me applied l (Preparing b first promises) es = false
proposes_other same members me applied l (Leading b next proposed) es =
    (walk_all same members me applied b (behind applied proposed) l es (walk_from next false)).other

-- what a promise calls for is proposed first, in the slots from the one on that it makes the member lead from: its votes, the slot after them, and
-- whether one disagrees

abbrev pub called_votes : {B : Type 0} → Ballot → ℕ → List (Entry B) → List (Vote B)
called_votes b slot [] = []
called_votes b slot (e ∷ es) = if nat_lt slot slot_end then next_vote b slot e ∷ called_votes b (suc slot) es else []

abbrev pub slot_after : {B : Type 0} → ℕ → List (Entry B) → ℕ
slot_after slot [] = slot
slot_after slot (e ∷ es) = if nat_lt slot slot_end then slot_after (suc slot) es else slot

abbrev pub called_other : {B : Type 0} → (B → B → Bool) → ℕ → ℕ → Ballot → LearnerState B → ℕ → List (Entry B) → Bool
called_other same members me b l slot [] = false
called_other same members me b l slot (e ∷ es) = differs same members me b l slot e || called_other same members me b l (suc slot) es

-- whether one of the votes of a member disagrees that a promise makes lead, and that calls for these entries; then it pushes
abbrev pub leads_to_other : {B : Type 0} → (B → B → Bool) → ℕ → ℕ → ℕ → LearnerState B → Ballot → ℕ → List (Entry B) → List (Entry B) → Bool
leads_to_other same members me applied l b first called pending =
    (walk_all same members me applied b (called_votes b first called) l pending
    (walk_from (slot_after first called) (called_other same members me b l first called))).other

-- by the role after the promise, and what it calls for
abbrev pub called_of : {B : Type 0} → (B → B → Bool) → ℕ → ℕ → ℕ → LearnerState B → List (Entry B) → Role B → Option (List (Entry B)) → Bool
called_of same members me applied l pending r None = false
called_of same members me applied l pending Idle (Some called) = false
called_of same members me applied l pending (Preparing b first promises) (Some called) = false
called_of same members me applied l pending (Leading b next proposed) (Some called) =
    leads_to_other same members me applied l b next called pending

abbrev pub promise_other : {B : Type 0} → (B → B → Bool) → ℕ → ℕ → ℕ → Ballot → ℕ → List (Vote B) → NodeState B → Bool
promise_other same members me sender b floor votes x =
    called_of same members me (log_length x) x.learner x.pending
    (promised members sender b floor votes (floor_in x.rows.snapshot) x.proposer.role)
    (called_by members sender b floor votes (floor_in x.rows.snapshot) x.proposer.role)

-- what was proposed before the entries that are gone through
abbrev pub votes_of : {B : Type 0} → Earlier B → List (Vote B)
votes_of (Proposed votes) = votes.now
votes_of (Called called) = called_votes called.ballot called.first (called_for called.first called.votes)

-- the entries are gone through from there
abbrev pub goes_from : {B : Type 0} → (B → B → Bool) → Whole B → Lead B → List (Entry B) → Walked B
goes_from same w lead es =
    walk_all same w.members w.me lead.applied lead.ballot (votes_of lead.earlier) w.state.learner es (walk_from lead.next lead.other)

-- where it leads; without it none disagrees

abbrev pub Leads : {B : Type 0} → (B → B → Bool) → Whole B → Option (Lead B) → Type 0
Leads {B} same w None = (es : List (Entry B))
    → proposes_other same w.members w.me (log_length w.state) w.state.learner w.state.proposer.role es ≡ false
Leads {B} same w (Some lead) = (1 ≤ lead.next) × ((es : List (Entry B))
    → proposes_other same w.members w.me (log_length w.state) w.state.learner w.state.proposer.role es
    ≡ (goes_from same w lead es).other)

abbrev pub LeadsBy : {B : Type 0} → (B → B → Bool) → Whole B → ℕ → Ballot → ℕ → List (Vote B) → Option (Lead B) → Type 0
LeadsBy same w sender b floor votes None = promise_other same w.members w.me sender b floor votes w.state ≡ false
LeadsBy same w sender b floor votes (Some lead) = (1 ≤ lead.next)
    × (promise_other same w.members w.me sender b floor votes w.state ≡ (goes_from same w lead w.state.pending).other)
