-- What a learner is to hear, and what it would be then, stated by the learner as it is and by what is new.
use Rattle.std.specs.Prelude.{◌≡◌, ◌≤◌, ℕ, true, Option, Some, None, List, [], ◌∷◌, ◌++◌, fold, length}
use Rattle.std.specs.Option.{option_or, unwrap_or}
use Rattle.std.specs.Map.{lookup}
use Rattle.paxos_packets.specs.declared.entry.Entry.{Entry}
use Rattle.paxos_learner.specs.declared.hearing.News.{News}
use Rattle.paxos_learner.specs.declared.hearing.News.TheVariants.{Cast, Told}
use Rattle.paxos_learner.specs.declared.learned.LearnedEntry.{LearnedEntry}
use Rattle.paxos_learner.specs.declared.tallies.SlotBallot.{SlotBallot}
use Rattle.paxos_learner.specs.Learned.{Rises}
use Rattle.paxos_learner.specs.Tallies.{Heard, same_place, nodes_heard}
use Rattle.paxos_learner.specs.Learner.{LearnerState, State, Held, has_room_at, learned_at, put_learned, voted, told}

-- a vote that was cast, or an entry that is reported as learned
abbrev pub hear_news : {B : Type 0} → News B → State B → State B
hear_news (Cast node v) s = voted node v s
hear_news (Told slot e) s = told slot e s

abbrev pub hear_all : {B : Type 0} → List (News B) → State B → State B
hear_all news s = fold (λ so_far n. hear_news n so_far) s news

-- what callers see: the learner as it is, and what it is to hear
pub record Draft (B : Type 0) : Type 0 where
  pub before : State B
  pub news : List (News B)

-- the learner that heard it
abbrev pub after : {B : Type 0} → Draft B → State B
after d = hear_all d.news d.before

abbrev pub and_news : {B : Type 0} → News B → Draft B → Draft B
and_news n d = record { before = d.before; news = d.news ++ n ∷ [] }

-- the entry in the slot: what was gained goes before what was there
abbrev pub over : {B : Type 0} → ℕ → List (LearnedEntry B) → List (LearnedEntry B) → Option (Entry B)
over slot gained learned = option_or (learned_at slot gained) (learned_at slot learned)

-- an entry is gained if none was learned
abbrev pub gain : {B : Type 0} → ℕ → Entry B → Option (Entry B) → List (LearnedEntry B) → List (LearnedEntry B)
gain slot e (Some d) gained = gained
gain slot e None gained = put_learned (record { slot = slot; entry = e }) gained

-- of a learner that was and one that is: the sets that changed, and the entries that were gained, are what is new; and what it learned
-- ascends by slot from above its floor
pub record IsOver {B : Type 0} (changed : Heard) (gained : List (LearnedEntry B)) (old new : LearnerState B) : Type 0 where
  pub floor : new.floor ≡ old.floor
  pub heard : (p : SlotBallot) → nodes_heard p new.heard ≡ unwrap_or (lookup (same_place p) changed) (nodes_heard p old.heard)
  pub learned : (slot : ℕ) → learned_at slot new.learned ≡ over slot gained old.learned
  pub rises : Rises new.floor new.learned

-- room for it

abbrev pub slot_of : {B : Type 0} → News B → ℕ
slot_of (Cast node v) = v.slot
slot_of (Told slot e) = slot

-- there is a place for the entry of each
abbrev pub HavePlaces : {B : Type 0} → List (News B) → Held B → Type 0
HavePlaces [] l = Unit {0}
HavePlaces (n ∷ ns) l = (has_room_at (slot_of n) l ≡ true) × HavePlaces ns l

-- and for their votes
pub record HasRoomFor {B : Type 0} (news : List (News B)) (l : Held B) : Type 0 where
  pub votes : length news ≤ l.room.votes
  pub places : HavePlaces news l
