-- One node between two events, and what an event makes of it (docs/CONSENSUS.md, "One node").
use Rattle.std.specs.Prelude.{ℕ, ◌+◌, Bool, List, length, if◌then◌else◌}
use Rattle.paxos_packets.specs.Snapshot.{floor_in}
use Rattle.paxos_packets.specs.declared.entry.Entry.{Entry}
use Rattle.paxos_packets.specs.declared.packet.Packet.{Packet}
use Rattle.paxos_packets.specs.declared.rows.Change.{Change}
use Rattle.paxos_packets.specs.declared.rows.Rows.{Rows}
use Rattle.paxos_proposer.specs.Role.{ProposerState}
use Rattle.paxos_learner.specs.Learner.{LearnerState}

-- one node; all but the rows is lost in a crash
pub record NodeState (B : Type 0) : Type 0 where
  -- what it has committed
  pub rows : Rows B
  pub up : Bool
  pub proposer : ProposerState B
  pub learner : LearnerState B
  -- its log above the floor, up to which its snapshot gives the log: what it has applied, lowest slot first
  pub applied : List (Entry B)
  -- the entries that it wants to see in the log
  pub pending : List (Entry B)
  -- how many acts it has taken in its boot
  pub taken : ℕ

-- the length of its log, which is the slot of its last entry
abbrev pub log_length : {B : Type 0} → NodeState B → ℕ
log_length x = floor_in x.rows.snapshot + length x.applied

-- as it is told to others: a node that is down tells of no log
abbrev pub told_length : {B : Type 0} → NodeState B → ℕ
told_length x = if x.up then log_length x else 0

-- what an event makes of a node, so far or at its end; no code makes one
pub record Plan (B : Type 0) : Type 0 where
  pub node : NodeState B
  -- what it commits, in one commit
  pub change : Change B
  -- the packets that it sends
  pub packets : List (Packet B)
  -- the entries that it applies
  pub applied : List (Entry B)
  -- whether it heard another entry for a slot that it had learned
  pub disagrees : Bool
