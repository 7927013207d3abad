-- The rounds that a node knows of, and the slots in which a leader proposes (docs/CONSENSUS.md, "One node").
use Rattle.std.specs.Prelude.{◌≡◌, ◌⊎◌, ℕ, ◌≤◌, Bool, List}
use Rattle.paxos_packets.specs.declared.packet.Packet.{Packet}
use Rattle.paxos_proposer.specs.Proposals.{AreUpTo}
use Rattle.paxos_proposer.specs.Proposer.{round_of}
use Rattle.paxos_proposer.specs.Role.{Role, Idle, Preparing, Leading}
use Rattle.paxos_planning.specs.Node.{NodeState}
use Rattle.paxos_planning.specs.Replies.{round_in}
use Rattle.paxos_node.specs.declared.event.Event.{Event}
use Rattle.cluster_world.specs.Has.{Has}
use Rattle.cluster_world.specs.World.{node_at, played}

-- it is the greatest round in a packet that was sent, or there is none
abbrev pub WasSentRound : {B : Type 0} → List (Packet B) → ℕ → Type 0
WasSentRound {B} sent r = (r ≡ 0) ⊎ ((p : Packet B) × Has sent p × (round_in p.kind ≡ r))

-- the round of the ballot under way
abbrev pub IsRoundOfRole : {B : Type 0} → (ℕ → Type 0) → Role B → Type 0
IsRoundOfRole P Idle = Unit {0}
IsRoundOfRole P (Preparing b first promises) = P b.round
IsRoundOfRole P (Leading b next proposed) = P b.round

-- each round that a node holds: the greatest that it saw, that of its promise, and that of its own ballot
pub record HoldsRounds {B : Type 0} (P : ℕ → Type 0) (x : NodeState B) : Type 0 where
  pub seen : P x.proposer.seen
  pub promised : P (round_of x.rows.promised)
  pub role : IsRoundOfRole P x.proposer.role

-- was sent in a packet
abbrev pub RoundsWereSent : (B : Type 0) → (B → B → Bool) → Type 0
RoundsWereSent B same =
    (members : ℕ) → 3 ≤ members → (events : List (Event B)) (n : ℕ) →
    HoldsRounds (WasSentRound (played same members events).sent) (node_at (played same members events).nodes n)

-- what a leader proposed is in the slots right below its next one, one in each
abbrev pub FollowOneAnother : {B : Type 0} → Role B → Type 0
FollowOneAnother Idle = Unit {0}
FollowOneAnother (Preparing b first promises) = Unit {0}
FollowOneAnother (Leading b next proposed) = AreUpTo next proposed

abbrev pub ProposalsFollow : (B : Type 0) → (B → B → Bool) → Type 0
ProposalsFollow B same =
    (members : ℕ) (events : List (Event B)) (n : ℕ) → FollowOneAnother (node_at (played same members events).nodes n).proposer.role
