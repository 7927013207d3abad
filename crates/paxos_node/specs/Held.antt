-- What callers see of a node in code: its number, the members, the node, and for how much more it has memory.
use Rattle.std.specs.Prelude.{◌≡◌, ◌≤◌, ◌<◌, ◌+◌, ◌^◌, ℕ, Bool, false, Option, Some, None, List, ◌++◌, length}
use Rattle.paxos_packets.specs.declared.entry.Entry.{Entry}
use Rattle.paxos_proposer.specs.Moves.{promises_in, proposals_in, ArePossible}
use Rattle.paxos_proposer.specs.State as proposing
use Rattle.paxos_learner.specs.Hearing.{HasRoomFor, hear_all}
use Rattle.paxos_learner.specs.Learned.{Begins}
use Rattle.paxos_learner.specs.Learner as learning
use Rattle.paxos_node.specs.declared.outcome.Outcome.{Outcome}
use Rattle.paxos_planning.specs.Front.{IsFront}
use Rattle.paxos_planning.specs.Node.{NodeState, log_length}
use Rattle.paxos_planning.specs.Parts.{learner_of, proposer_of}
use Rattle.paxos_node.specs.Moved.{Moved}
use Rattle.paxos_node.specs.Adopting.{moved_on}

-- a number for each part, but for the learner, which also has places for slots
pub record Room : Type 0 where
  pub votes : ℕ
  pub proposer : proposing.Room
  pub learner : learning.Room
  pub pending : ℕ

pub record Held (B : Type 0) : Type 0 where
  pub me : ℕ
  pub members : ℕ
  pub state : NodeState B
  pub room : Room
  pub failed : Bool

abbrev pub learner_in : {B : Type 0} → Held B → learning.Held B
learner_in h = record { state = learner_of h.members h.state; room = h.room.learner }

-- how many entries become pending
abbrev pub additions : {B : Type 0} → Option (Entry B) → ℕ
additions None = 0
additions (Some e) = 1

-- it has not failed, and there is memory for all that the outcome adds
pub record HasRoom {B : Type 0} (o : Outcome B) (h : Held B) : Type 0 where
  pub votes : length o.change.votes ≤ h.room.votes
  pub proposer : proposing.HasRoom (promises_in o.moves.proposer) (proposals_in o.moves.proposer) h.room.proposer
  pub learner : HasRoomFor o.moves.news (learner_in h)
  pub pending : additions o.moves.added ≤ h.room.pending
  pub stands : h.failed ≡ false

-- a node that has committed its change goes on: each move is possible in its turn, what is applied is what is learned next, the front stands
-- then, and there is memory for all of it
pub record CanGoOn {B : Type 0} (m : Moved B) (applied : List (Entry B)) (h : Held B) : Type 0 where
  pub moves : ArePossible m.proposer (proposer_of h.me h.members h.state)
  pub begins : Begins h.state.learner.floor (h.state.applied ++ applied) (hear_all m.news (learner_of h.members h.state)).learner.learned
  pub within : log_length h.state + length applied < 2 ^ 40
  pub front : IsFront m.front (log_length h.state + length applied) (moved_on h.me h.members m applied h.state).proposer.role
      (moved_on h.me h.members m applied h.state).pending
  pub proposer : proposing.HasRoom (promises_in m.proposer) (proposals_in m.proposer) h.room.proposer
  pub learner : HasRoomFor m.news (learner_in h)
  pub pending : additions m.added ≤ h.room.pending
