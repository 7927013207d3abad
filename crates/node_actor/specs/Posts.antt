-- What is left of an actor (docs/CONSENSUS.md, "A node with its store").
use Rattle.std.specs.Prelude.{◌≡◌, ℕ, Bool, Option, Some, None, List, [], ◌∷◌}
use Rattle.paxos_packets.specs.Members.{IsMember}
use Rattle.paxos_packets.specs.declared.rows.Rows.{Rows}
use Rattle.paxos_node.specs.declared.outcome.Outcome.{Outcome}
use Rattle.paxos_node.specs.declared.view.Opened.TheVariants.{Never, With}
use Rattle.paxos_node.specs.Adopting.{adopted}
use Rattle.paxos_node.specs.View.{Viewed}
use Rattle.paxos_node.specs.Events.{outcome_of}
use Rattle.paxos_node.specs.declared.event.Event.{Event}
use Rattle.paxos_planning.specs.Node.{told_length}
use Rattle.mail_table.specs.Boxes.{Follows, MayMake}
use Rattle.mail_table.specs.Seats.{Seated, knows}
use Rattle.mail_table.specs.Views.{moving, renewing}
use Rattle.mail_table.specs.declared.part.Part.{Part}
use Rattle.actor_parts.specs.Tried.{IsMeant}
use Rattle.actor_parts.specs.declared.tried.FailedCommit.{FailedCommit}
use Rattle.actor_parts.specs.declared.tried.FailedCommit.TheVariants.{One, Round}
use Rattle.actor_parts.specs.declared.tried.Tried.{Tried}

-- the node's number, the members, its last rows if it was ever opened, what a failed commit was to leave, and its seat at the table
pub record Posted (B : Type 0) : Type 0 where
  pub me : ℕ
  pub members : ℕ
  pub rows : Option (Rows B)
  pub failed : Option (FailedCommit B)
  pub seat : Seated B

-- these are the rows of the node that is seen, if it was ever opened
abbrev pub AreRowsOf : {B : Type 0} → Option (Rows B) → Viewed B → Type 0
AreRowsOf None seen = seen.opened ≡ Never
AreRowsOf {B} (Some k) seen = (seen.node.rows ≡ k) × ((first : Rows B) × (seen.opened ≡ With first))

-- the seat after the step of an event, and after those of events that were tried, one after another

abbrev pub advanced_by : {B : Type 0} → (B → B → Bool) → Event B → Seated B → Seated B
advanced_by same e s =
    knows (moving (outcome_of same s.members e s.part.seen.node).node (outcome_of same s.members e s.part.seen.node).packets s.part) s

abbrev pub advanced_all : {B : Type 0} → (B → B → Bool) → List (Tried B) → Seated B → Seated B
advanced_all same [] s = s
advanced_all same (t ∷ ts) s = advanced_all same ts (advanced_by same t.event s)

-- each event is a possible one of the node that the view shows then, and so long is its log after it
abbrev pub AreSteps : {B : Type 0} → (B → B → Bool) → ℕ → List (Tried B) → Part B → Type 0
AreSteps same n [] x = Unit {0}
AreSteps same n (t ∷ ts) x =
    MayMake n x t.event × (t.log ≡ told_length (outcome_of same n t.event x.seen.node).node)
    × AreSteps same n ts (moving (outcome_of same n t.event x.seen.node).node (outcome_of same n t.event x.seen.node).packets x)

-- the seat may yet take the steps of what a failed commit was to leave
abbrev pub MayYet : {B : Type 0} → (B → B → Bool) → ℕ → Part B → FailedCommit B → Type 0
MayYet same n x (One o) = Follows same n x o
MayYet same n x (Round c ts) = AreSteps same n ts x

-- what holds of every post: the seat is the node's, and knows its rows; what the failed commit was to leave is planned of the node that the seat
-- knows, and its steps may yet be taken
pub record IsLeft {B : Type 0} (same : B → B → Bool) (p : Posted B) : Type 0 where
  pub member : IsMember p.members p.me
  pub me : p.seat.part.me ≡ p.me
  pub members : p.seat.members ≡ p.members
  pub rows : AreRowsOf p.rows p.seat.part.seen
  pub failed : (m : FailedCommit B) → p.failed ≡ Some m
      → IsMeant same p.me p.members p.seat.part.seen.node m × MayYet same p.members p.seat.part m

-- it is what is left of the view that the seat has: it has the rows of the view's node, and what this had planned to leave
pub record LeftOf {B : Type 0} (same : B → B → Bool) (p : Posted B) (v : Seated B) : Type 0 where
  pub seat : p.seat ≡ v
  pub rows : p.rows ≡ Some v.part.seen.node.rows
  pub failed : (m : FailedCommit B) → p.failed ≡ Some m → IsMeant same p.me p.members v.part.seen.node m

-- the seat after the step of an outcome, after those of what a failed commit was to leave, and after its renewal with rows

abbrev pub advanced : {B : Type 0} → Outcome B → Seated B → Seated B
advanced o s = knows (moving (adopted s.part.me s.members o s.part.seen.node) o.packets s.part) s

abbrev pub stepped : {B : Type 0} → (B → B → Bool) → FailedCommit B → Seated B → Seated B
stepped same (One o) s = advanced o s
stepped same (Round c ts) s = advanced_all same ts s

abbrev pub renewed : {B : Type 0} → Rows B → Seated B → Seated B
renewed r s = knows (renewing r s.part) s
