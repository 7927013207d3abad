-- What a feed is given of an actor.
use Rattle.std.specs.Prelude.{◌≡◌, ℕ, nat_lt, min, List, [], ◌∷◌, length}
use Rattle.paxos_proposer.specs.Proposer.{is_leading}
use Rattle.actor_outboxes.specs.Outboxes.{Waiting, waiting}
use Rattle.actor_parts.specs.Parts.{open_slots}
use Rattle.node_actor.specs.Actor.{Acting}
use Rattle.actor_run.specs.declared.feed.Seen.{Seen}
use Rattle.actor_run.specs.declared.round_feed.RoundSeen.{RoundSeen}
use Rattle.paxos_packets.specs.Snapshot.{floor_in}
use Rattle.paxos_planning.specs.Node.{told_length}

-- how many packets wait for a member, as far as 16 bits count them
abbrev pub count_for : {B : Type 0} → ℕ → Waiting B → ℕ
count_for k w = min (length (waiting k w)) 65535

-- the same for each member that there may be, member 1 first
abbrev pub counts : {B : Type 0} → Waiting B → List ℕ
counts w = count_for 1 w ∷ count_for 2 w ∷ count_for 3 w ∷ count_for 4 w ∷ count_for 5 w ∷ count_for 6 w ∷ count_for 7 w ∷ []

-- what is shown of an actor and its last turn, beside how many commits it has made
pub record Shows {B M K : Type 0} (a : Acting B M K) (s : Seen) : Type 0 where
  pub peer : s.from ≡ a.last.from
  pub heard : s.heard ≡ a.last.heard
  pub posted : s.posted ≡ a.last.posted
  pub applied : s.applied ≡ told_length a.node.state
  pub floor : s.floor ≡ floor_in a.node.state.rows.snapshot
  pub pending : s.pending ≡ nat_lt 0 (length a.node.state.pending)
  pub entries : s.pending_entries ≡ length a.node.state.pending
  pub waits : s.waiting ≡ counts a.waiting
  pub leads : s.leads ≡ is_leading a.node.state.proposer.role
  pub promised : s.promised ≡ a.node.state.rows.promised
  pub slots : s.open_slots ≡ open_slots a.node.state

-- what is shown of an actor and its last round, beside how many commits it has made
pub record ShowsRound {B M K : Type 0} (a : Acting B M K) (s : RoundSeen) : Type 0 where
  pub came : s.came.now ≡ a.last.came
  pub posted : s.posted ≡ a.last.posted
  pub applied : s.applied ≡ told_length a.node.state
  pub floor : s.floor ≡ floor_in a.node.state.rows.snapshot
  pub pending : s.pending ≡ length a.node.state.pending
  pub waits : s.waiting ≡ counts a.waiting
  pub leads : s.leads ≡ is_leading a.node.state.proposer.role
  pub promised : s.promised ≡ a.node.state.rows.promised
  pub slots : s.open_slots ≡ open_slots a.node.state
