-- What an event makes of a node, so far: what it is, commits and sends (docs/CONSENSUS.md, "One node").
use Rattle.std.specs.Prelude.{ℕ, Bool, false, ◌||◌, Some, List, [], ◌++◌}
use Rattle.paxos_packets.specs.Vote.{put_vote}
use Rattle.paxos_packets.specs.Packet.{to_others}
use Rattle.paxos_packets.specs.declared.ballot.Ballot.{Ballot}
use Rattle.paxos_packets.specs.declared.entry.Entry.{Entry}
use Rattle.paxos_packets.specs.declared.vote.Vote.{Vote}
use Rattle.paxos_packets.specs.declared.packet.Kind.TheVariants.{Accepted}
use Rattle.paxos_packets.specs.declared.packet.Packet.{Packet}
use Rattle.paxos_packets.specs.declared.rows.Change.{Change}
use Rattle.paxos_packets.specs.Rows.{no_change}
use Rattle.paxos_acceptor.specs.Acceptor.{with_promise, with_vote}
use Rattle.paxos_proposer.specs.Role.{Role}
use Rattle.paxos_proposer.specs.Proposer.{step_down}
use Rattle.paxos_learner.specs.Learner.{LearnerState}
use Rattle.paxos_learner.specs.Learner.{learn, disagrees, count_vote, vote_disagrees}
use Rattle.paxos_planning.specs.Node.{NodeState, Plan}

-- parts of a node

abbrev pub with_role : {B : Type 0} → Role B → NodeState B → NodeState B
with_role role x = record x { proposer = record { role = role; seen = x.proposer.seen } }

abbrev pub with_learner : {B : Type 0} → LearnerState B → NodeState B → NodeState B
with_learner l x = record x { learner = l }

abbrev pub with_pending : {B : Type 0} → List (Entry B) → NodeState B → NodeState B
with_pending pending x = record x { pending = pending }

-- a promise, and a vote with its promise; either may end its own ballot
abbrev pub promised_at : {B : Type 0} → Ballot → NodeState B → NodeState B
promised_at b x =
    record x { rows = with_promise b x.rows; proposer = record { role = step_down b x.proposer.role; seen = x.proposer.seen } }

abbrev pub voted_at : {B : Type 0} → Vote B → NodeState B → NodeState B
voted_at v x =
    record x { rows = with_vote v x.rows; proposer = record { role = step_down v.ballot x.proposer.role; seen = x.proposer.seen } }

-- a member's vote is counted, and so an entry may be learned
abbrev pub counted_at : {B : Type 0} → ℕ → ℕ → Vote B → NodeState B → NodeState B
counted_at members node v x = record x { learner = count_vote members node v x.learner }

-- the outcome of an event at this node, before anything happened
abbrev pub begun : {B : Type 0} → NodeState B → Plan B
begun x = record { node = x; change = no_change; packets = []; applied = []; disagrees = false }

abbrev pub send : {B : Type 0} → List (Packet B) → Plan B → Plan B
send packets o = record o { packets = o.packets ++ packets }

-- what is committed with what the event commits already
abbrev pub and_promise : {B : Type 0} → Ballot → Change B → Change B
and_promise b c = record c { promised = Some b }

abbrev pub and_vote : {B : Type 0} → Vote B → Change B → Change B
and_vote v c = record c { promised = Some v.ballot; votes = put_vote v c.votes }

abbrev pub promise : {B : Type 0} → Ballot → Plan B → Plan B
promise b o = record o { node = promised_at b o.node; change = and_promise b o.change }

abbrev pub vote : {B : Type 0} → Vote B → Plan B → Plan B
vote v o = record o { node = voted_at v o.node; change = and_vote v o.change }

abbrev pub count : {B : Type 0} → (B → B → Bool) → ℕ → ℕ → Vote B → Plan B → Plan B
count same members node v o =
    record o {
      node = counted_at members node v o.node;
      disagrees = o.disagrees || vote_disagrees same members node v o.node.learner;
    }

-- it hears what a slot holds
abbrev pub hear_learned : {B : Type 0} → (B → B → Bool) → ℕ → Entry B → Plan B → Plan B
hear_learned same slot entry o =
    record o {
      node = with_learner (learn slot entry o.node.learner) o.node;
      disagrees = o.disagrees || disagrees same slot entry o.node.learner;
    }

-- a vote is cast: committed, counted, and sent to the others
abbrev pub cast : {B : Type 0} → (B → B → Bool) → ℕ → ℕ → Vote B → Plan B → Plan B
cast same members me v o = send (to_others members me (Accepted v)) (count same members me v (vote v o))
