-- What majorities hold of what is chosen, and what is known of a ballot before its own node promises it (docs/CONSENSUS.md, "What holds over
-- every list of events").
use Rattle.std.specs.Prelude.{◌≡◌, ℕ, ◌≤◌, ◌<◌, Bool, true, false, List}
use Rattle.paxos_packets.specs.Ballot.{below}
use Rattle.paxos_packets.specs.Members.{IsMajority, IsMember, is_in}
use Rattle.paxos_packets.specs.declared.ballot.Ballot.{Ballot}
use Rattle.paxos_packets.specs.declared.entry.Entry.{Entry}
use Rattle.paxos_packets.specs.declared.packet.Kind.TheVariants.{Prepare, Accept, Accepted}
use Rattle.paxos_packets.specs.declared.vote.Vote.{Vote}
use Rattle.paxos_packets.specs.Snapshot.{floor_in}
use Rattle.paxos_acceptor.specs.Acceptor.{may_promise}
use Rattle.paxos_learner.specs.declared.tallies.SlotBallot.{SlotBallot}
use Rattle.paxos_planning.specs.Node.{NodeState}
use Rattle.paxos_node.specs.declared.event.Event.{Event}
use Rattle.cluster_world.specs.Chosen.{WasSent, Chosen}
use Rattle.cluster_world.specs.Has.{Has}
use Rattle.cluster_world.specs.World.{World, node_at, played}

-- the node has cast this vote, and it is the last that it cast in its slot
abbrev pub HasVote : {B : Type 0} → List (NodeState B) → ℕ → Vote B → Type 0
HasVote nodes k v = Has (node_at nodes k).rows.votes v

-- a member of the set has a vote for the entry in the slot; and each one that has a vote there, not below it, has one for the entry, too
pub record Holds {B : Type 0} (members : ℕ) (nodes : List (NodeState B)) (set : ℕ → Bool) (slot : ℕ) (entry : Entry B) : Type 0 where
  pub node : ℕ
  pub member : IsMember members node
  pub within : set node ≡ true
  pub ballot : Ballot
  pub has : HasVote nodes node (record { slot = slot; ballot = ballot; entry = entry })
  pub above : (k : ℕ) (v : Vote B) → HasVote nodes k v → v.slot ≡ slot → below v.ballot ballot ≡ false → v.entry ≡ entry

-- the slot is above the floor of each member of the set
abbrev pub IsAboveFloors : {B : Type 0} → ℕ → List (NodeState B) → (ℕ → Bool) → ℕ → Type 0
IsAboveFloors members nodes set slot = (k : ℕ) → IsMember members k → set k ≡ true → floor_in (node_at nodes k).rows.snapshot < slot

-- each majority holds what is chosen, above the floors of its members
abbrev pub MajoritiesHold : (B : Type 0) → (B → B → Bool) → Type 0
MajoritiesHold B same =
    (members : ℕ) → 3 ≤ members → (events : List (Event B)) (slot : ℕ) (entry : Entry B) →
    Chosen members (played same members events).sent slot entry → (set : ℕ → Bool) → IsMajority members set →
    IsAboveFloors members (played same members events).nodes set slot →
    Holds members (played same members events).nodes set slot entry

-- nobody asked for the ballot's promise or for a vote in it, nobody cast one, and nobody heard one
pub record IsFresh {B : Type 0} (w : World B) (b : Ballot) : Type 0 where
  pub unasked : (k first : ℕ) → WasSent w.sent k (Prepare b first) → ⊥
  pub unproposed : (k : ℕ) (v : Vote B) → WasSent w.sent k (Accept v) → v.ballot ≡ b → ⊥
  pub uncast : (k : ℕ) (v : Vote B) → WasSent w.sent k (Accepted v) → v.ballot ≡ b → ⊥
  pub unheld : (k : ℕ) (v : Vote B) → HasVote w.nodes k v → v.ballot ≡ b → ⊥
  pub unheard :
      (k j : ℕ) (t : SlotBallot × List Bool) → Has (node_at w.nodes k).learner.heard t → is_in t.1 j ≡ true → t.0.ballot ≡ b → ⊥

-- so it is with each ballot that its own node may promise yet
abbrev pub NewBallotsAreFresh : (B : Type 0) → (B → B → Bool) → Type 0
NewBallotsAreFresh B same =
    (members : ℕ) → 3 ≤ members → (events : List (Event B)) (b : Ballot) →
    may_promise (node_at (played same members events).nodes b.node).rows.promised b ≡ true → IsFresh (played same members events) b
