-- One member as a learner: an entry is learned if a majority is heard to have voted for it in one ballot, or if a
-- member reports that it was (Lamport 2001, section 2.3).
use Rattle.std.specs.Prelude.{◌≡◌, ℕ, suc, Bool, true, false, not, ◌&&◌, ◌||◌, nat_lt, nat_le, ◌==◌, Option, Some, None, option_map, List, [], ◌∷◌}
use Rattle.std.specs.Prelude.{filter, if◌then◌else◌}
use Rattle.std.specs.List.{find}
use Rattle.paxos_packets.specs.Members.{is_in, is_majority, set_with}
use Rattle.paxos_packets.specs.Entry.{same_entry}
use Rattle.paxos_packets.specs.declared.ballot.Ballot.{Ballot}
use Rattle.paxos_packets.specs.declared.entry.Entry.{Entry}
use Rattle.paxos_packets.specs.declared.vote.Vote.{Vote}
use Rattle.paxos_learner.specs.declared.learned.LearnedEntry.{LearnedEntry}
pub use Rattle.paxos_learner.specs.Learned.{is_learned}
use Rattle.paxos_learner.specs.Learned.{Shelf, is_closed, learned_above, has_place}
use Rattle.paxos_learner.specs.Tallies.{Heard, Table, place_of, nodes_heard, hear, heard_above}

-- what a learner heard and learned above a floor, up to which a snapshot gives the log; it is lost in a crash
pub record LearnerState (B : Type 0) : Type 0 where
  pub floor : ℕ
  pub heard : Heard
  -- by ascending slot
  pub learned : List (LearnedEntry B)

-- a learner that has just begun
abbrev pub unheard : {B : Type 0} → ℕ → LearnerState B
unheard floor = record { floor = floor; heard = []; learned = [] }

-- a snapshot gives the log up to this floor, which is not below the one before: what is not above it is forgotten
abbrev pub forget : {B : Type 0} → ℕ → LearnerState B → LearnerState B
forget floor l = record { floor = floor; heard = heard_above floor l.heard; learned = learned_above floor l.learned }

-- a vote of this node was heard
abbrev pub hears : {B : Type 0} → ℕ → Vote B → LearnerState B → LearnerState B
hears node v l = record l { heard = hear node (place_of v) l.heard }

-- entries that were learned

abbrev pub learned_at : {B : Type 0} → ℕ → List (LearnedEntry B) → Option (Entry B)
learned_at slot learned = option_map (λ l. l.entry) (find (λ l. l.slot == slot) learned)

-- by ascending slot
abbrev pub put_learned : {B : Type 0} → LearnedEntry B → List (LearnedEntry B) → List (LearnedEntry B)
put_learned l [] = l ∷ []
put_learned l (m ∷ ms) = if nat_lt m.slot l.slot then m ∷ put_learned l ms else l ∷ (m ∷ ms)

-- it is known what the slot holds: it is closed, or an entry was learned in it
abbrev pub is_known : {B : Type 0} → ℕ → LearnerState B → Bool
is_known slot l = is_closed l.floor slot || is_learned slot l.learned

-- what is reported of a slot then changes nothing
abbrev pub learn : {B : Type 0} → ℕ → Entry B → LearnerState B → LearnerState B
learn slot entry l =
    if is_known slot l then l
    else record l { learned = put_learned (record { slot = slot; entry = entry }) l.learned }

-- the same, of the entries learned above the floor alone
abbrev pub learn_among : {B : Type 0} → ℕ → Entry B → List (LearnedEntry B) → List (LearnedEntry B)
learn_among slot entry learned =
    if is_learned slot learned then learned else put_learned (record { slot = slot; entry = entry }) learned

-- it is another entry than the one that was learned there; of a closed slot none is
abbrev pub is_other : {B : Type 0} → (B → B → Bool) → Entry B → Option (Entry B) → Bool
is_other same entry None = false
is_other same entry (Some e) = not (same_entry same e entry)

abbrev pub disagrees : {B : Type 0} → (B → B → Bool) → ℕ → Entry B → LearnerState B → Bool
disagrees same slot entry l = not (is_closed l.floor slot) && is_other same entry (learned_at slot l.learned)

-- a vote is counted

-- a majority is heard to have cast this vote
abbrev pub has_most : {B : Type 0} → ℕ → Vote B → LearnerState B → Bool
has_most members v l = is_majority members (is_in (nodes_heard (place_of v) l.heard))

-- with a vote of this member a majority is heard to have voted in this ballot and slot
abbrev pub makes_majority : {B : Type 0} → ℕ → ℕ → Ballot → ℕ → LearnerState B → Bool
makes_majority members node b slot l =
    is_majority members (is_in (set_with (nodes_heard (record { slot = slot; ballot = b }) l.heard) node))

abbrev pub learn_chosen : {B : Type 0} → ℕ → Vote B → LearnerState B → LearnerState B
learn_chosen members v l = if has_most members v l then learn v.slot v.entry l else l

-- a vote in a closed slot changes nothing
abbrev pub count_vote : {B : Type 0} → ℕ → ℕ → Vote B → LearnerState B → LearnerState B
count_vote members node v l = if is_closed l.floor v.slot then l else learn_chosen members v (hears node v l)

abbrev pub vote_disagrees : {B : Type 0} → (B → B → Bool) → ℕ → ℕ → Vote B → LearnerState B → Bool
vote_disagrees same members node v l = has_most members v (hears node v l) && disagrees same v.slot v.entry l

-- the entries of the slots from this one on, up to the first that isn't learned; earlier slots are passed over
abbrev pub run_with : {B : Type 0} → Bool → Bool → Entry B → List (Entry B) → List (Entry B)
run_with true earlier e rest = e ∷ rest
run_with false true e rest = rest
run_with false false e rest = []

abbrev pub run_from : {B : Type 0} → ℕ → List (LearnedEntry B) → List (Entry B)
run_from slot [] = []
run_from slot (l ∷ ls) =
    run_with (l.slot == slot) (nat_lt l.slot slot) l.entry (run_from (if l.slot == slot then suc slot else slot) ls)

-- what was learned in the slots from this one on, and below that one
abbrev pub learned_within : {B : Type 0} → ℕ → ℕ → List (LearnedEntry B) → List (LearnedEntry B)
learned_within first past learned = filter (λ l. nat_le first l.slot && nat_lt l.slot past) learned

-- a learner that knows the members

pub record State (B : Type 0) : Type 0 where
  pub members : ℕ
  pub learner : LearnerState B

-- for how many places more votes may be heard, and which slots ahead have a place for their entry
pub record Room : Type 0 where
  pub votes : ℕ
  pub places : List ℕ

-- what callers see of a learner
pub record Held (B : Type 0) : Type 0 where
  pub state : State B
  pub room : Room

abbrev pub held_of : {B : Type 0} → ℕ → Table → Shelf B → Held B
held_of members table shelf =
    record {
      state = record { members = members; learner = record { floor = shelf.floor; heard = table.heard; learned = shelf.learned } };
      room = record { votes = table.room; places = shelf.places };
    }

-- the slot is closed, an entry was learned in it, or there is a place for one
abbrev pub has_room_at : {B : Type 0} → ℕ → Held B → Bool
has_room_at slot l = is_closed l.state.learner.floor slot || has_place slot l.state.learner.learned l.room.places

-- no slot loses its place
abbrev pub KeepsRoom : {B : Type 0} → Held B → Held B → Type 0
KeepsRoom old new = (slot : ℕ) → has_room_at slot old ≡ true → has_room_at slot new ≡ true

abbrev pub begun : {B : Type 0} → ℕ → ℕ → State B
begun members floor = record { members = members; learner = unheard floor }

abbrev pub forgot : {B : Type 0} → ℕ → State B → State B
forgot floor s = record { members = s.members; learner = forget floor s.learner }

abbrev pub voted : {B : Type 0} → ℕ → Vote B → State B → State B
voted node v s = record { members = s.members; learner = count_vote s.members node v s.learner }

abbrev pub told : {B : Type 0} → ℕ → Entry B → State B → State B
told slot entry s = record { members = s.members; learner = learn slot entry s.learner }
