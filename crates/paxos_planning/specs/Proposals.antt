-- What a node proposes: what a majority's promises call for, what is pending, and what is forwarded to it (docs/CONSENSUS.md, "Events":
-- Propose and Push; Lamport 2001, section 3).
use Rattle.std.specs.Prelude.{ℕ, Bool, false, ◌&&◌, nat_lt, ◌==◌, Option, Some, None, List, [], ◌∷◌, ◌++◌, take, fold}
use Rattle.std.specs.Prelude.{if◌then◌else◌}
use Rattle.std.specs.List.{list_any}
use Rattle.paxos_packets.specs.Entry.{same_entry}
use Rattle.paxos_packets.specs.Packet.{packet, to_others}
use Rattle.paxos_packets.specs.declared.ballot.Ballot.{Ballot}
use Rattle.paxos_packets.specs.declared.entry.Entry.{Entry}
use Rattle.paxos_packets.specs.declared.vote.Vote.{Vote}
use Rattle.paxos_packets.specs.declared.packet.Kind.TheVariants.{Accept, Forward}
use Rattle.paxos_packets.specs.declared.packet.Packet.{Packet}
use Rattle.paxos_proposer.specs.Role.{Role, Idle, Preparing, Leading}
use Rattle.paxos_proposer.specs.Proposer.{slot_end, next_vote, offered, is_leading}
use Rattle.paxos_proposer.specs.Reports.{called_for}
use Rattle.paxos_planning.specs.Node.{Plan, log_length}
use Rattle.paxos_planning.specs.Plan.{with_role, send, cast}

-- the entry is proposed to the others in the leader's next slot
abbrev pub offer : {B : Type 0} → ℕ → ℕ → Ballot → ℕ → List (Vote B) → Entry B → Plan B → Plan B
offer members me b next proposed e o =
    record o {
      node = with_role (offered b next proposed e) o.node;
      packets = o.packets ++ to_others members me (Accept (next_vote b next e));
    }

-- a leader offers the entry and casts its own vote for it; it does nothing if no slot is left
abbrev pub propose_as : {B : Type 0} → (B → B → Bool) → ℕ → ℕ → Role B → Entry B → Plan B → Plan B
propose_as same members me Idle e o = o
propose_as same members me (Preparing b first promises) e o = o
propose_as same members me (Leading b next proposed) e o =
    if nat_lt next slot_end then cast same members me (next_vote b next e) (offer members me b next proposed e o)
    else o

abbrev pub propose : {B : Type 0} → (B → B → Bool) → ℕ → ℕ → Entry B → Plan B → Plan B
propose same members me e o = propose_as same members me o.node.proposer.role e o

abbrev pub propose_all : {B : Type 0} → (B → B → Bool) → ℕ → ℕ → List (Entry B) → Plan B → Plan B
propose_all same members me es o = fold (λ so_far e. propose same members me e so_far) o es

-- a majority has promised: the node leads, and proposes what the reports call for
abbrev pub lead : {B : Type 0} → (B → B → Bool) → ℕ → ℕ → Ballot → ℕ → List (Vote B) → Plan B → Plan B
lead same members me b first votes o =
    propose_all same members me (called_for first votes) (record o { node = with_role (Leading b first []) o.node })

-- it is proposed in this ballot, in a slot that isn't applied yet
abbrev pub stands : {B : Type 0} → (B → B → Bool) → ℕ → Role B → Entry B → Bool
stands same applied Idle e = false
stands same applied (Preparing b first promises) e = false
stands same applied (Leading b next proposed) e = list_any (λ v. nat_lt applied v.slot && same_entry same v.entry e) proposed

abbrev pub propose_new : {B : Type 0} → (B → B → Bool) → ℕ → ℕ → Entry B → Plan B → Plan B
propose_new same members me e o =
    if stands same (log_length o.node) o.node.proposer.role e then o
    else propose same members me e o

abbrev pub propose_each : {B : Type 0} → (B → B → Bool) → ℕ → ℕ → List (Entry B) → Plan B → Plan B
propose_each same members me es o = fold (λ so_far e. propose_new same members me e so_far) o es

-- what is forwarded to the node whose ballot is promised: the first 64 pending entries
abbrev pub forwarded : {B : Type 0} → ℕ → Option Ballot → List (Entry B) → List (Packet B)
forwarded me None es = []
forwarded me (Some p) [] = []
forwarded me (Some p) (e ∷ es) = if p.node == me then [] else packet me (Forward (take 64 (e ∷ es))) p.node ∷ []

-- a leader proposes what is pending, and another node forwards it
abbrev pub push : {B : Type 0} → (B → B → Bool) → ℕ → ℕ → Plan B → Plan B
push same members me o =
    if is_leading o.node.proposer.role then propose_each same members me o.node.pending o
    else send (forwarded me o.node.rows.promised o.node.pending) o
