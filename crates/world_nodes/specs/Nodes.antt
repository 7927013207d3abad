-- What callers see of one member of a cluster: its number, the members, and its node, which runs or has only its rows.
use Rattle.std.specs.Prelude.{◌≡◌, ℕ, suc, true, Option, Some, None, List, []}
use Rattle.paxos_learner.specs.Learner.{run_from}
use Rattle.paxos_packets.specs.declared.entry.Entry.{Entry}
use Rattle.paxos_planning.specs.Drafting.{listed}
use Rattle.paxos_planning.specs.Node.{NodeState, log_length}
use Rattle.paxos_node.specs.Applying.{down}
use Rattle.paxos_node.specs.Held.{HasRoom}
use Rattle.paxos_node.specs.declared.outcome.Outcome.{Outcome}
use Rattle.world_nodes.specs.declared.world_node.NodeStatus.{NodeStatus}
use Rattle.world_nodes.specs.declared.world_node.NodeStatus.TheVariants.{Up, Down}

pub record MemberNode (B : Type 0) : Type 0 where
  pub me : ℕ
  pub members : ℕ
  pub status : NodeStatus B

-- the node there
abbrev pub node_in : {B : Type 0} → NodeStatus B → NodeState B
node_in (Up n) = n.state
node_in (Down rows) = down rows

abbrev pub node_of : {B : Type 0} → MemberNode B → NodeState B
node_of s = node_in s.status

-- it keeps what its node has committed
abbrev pub went_down : {B : Type 0} → NodeStatus B → NodeStatus B
went_down p = Down (node_in p).rows

-- a node that runs is this member's, and up
abbrev pub IsOfMember : {B : Type 0} → ℕ → ℕ → NodeStatus B → Type 0
IsOfMember me members (Up n) = (n.me ≡ me) × (n.members ≡ members) × (n.state.up ≡ true)
IsOfMember me members (Down rows) = Unit {0}

-- a node that runs has memory for all that the outcome adds
abbrev pub HasRoomIn : {B : Type 0} → Outcome B → NodeStatus B → Type 0
HasRoomIn o (Up n) = HasRoom o n
HasRoomIn o (Down rows) = ⊥

-- nothing that it learned waits to be applied
abbrev pub IsAtRest : {B : Type 0} → NodeState B → Type 0
IsAtRest x = run_from (suc (log_length x)) x.learner.learned ≡ []

-- what an event that is planned so brings into the world; nothing if it is refused
abbrev pub made_in : {B : Type 0} → Option (Outcome B) → List (Entry B)
made_in None = []
made_in (Some o) = listed o.moves.added
