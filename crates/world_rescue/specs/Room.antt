-- The rounds and slots that a course needs.
use Rattle.std.specs.Prelude.{ℕ, suc, ◌+◌, ◌≤◌, ◌<◌, Bool, true, nat_le, All, length}
use Rattle.paxos_packets.specs.declared.vote.Vote.{Vote}
use Rattle.paxos_planning.specs.Node.{log_length}
use Rattle.paxos_proposer.specs.Proposer.{round_of, round_end, slot_end}
use Rattle.paxos_proposer.specs.Role.{Role, Idle, Preparing, Leading}
use Rattle.world_rescue.specs.Course.{Seat, Crew, floor_of}

-- each slot that it proposed in is there
abbrev pub has_slots : {B : Type 0} → Role B → Bool
has_slots Idle = true
has_slots (Preparing b first promises) = true
has_slots (Leading b next proposed) = nat_le next slot_end

-- a helper promised no later round, cast no vote in a later slot, and has no later floor
pub record HoldsUpTo {B : Type 0} (round slot : ℕ) (s : Seat B) : Type 0 where
  pub promised : round_of s.node.rows.promised ≤ round
  pub votes : All (λ (v : Vote B). v.slot ≤ slot) s.node.rows.votes
  pub floor : floor_of s ≤ slot

-- the crew has seen and promised no later round, its votes, its floors and its node's log are in no later slot, and no more entries are
-- pending at its node
pub record IsUpTo {B : Type 0} (round slot most : ℕ) (c : Crew B) : Type 0 where
  pub seen : c.own.node.proposer.seen ≤ round
  pub log : log_length c.own.node ≤ slot
  pub votes : All (λ (v : Vote B). v.slot ≤ slot) c.own.node.rows.votes
  pub floor : floor_of c.own ≤ slot
  pub pending : length c.own.node.pending ≤ most
  pub helpers : All (λ (s : Seat B). HoldsUpTo round slot s) c.helpers

-- after these there are rounds for three ballots, and slots for twice what is pending and three more
pub record LeavesRoom (round slot most : ℕ) : Type 0 where
  pub rounds : suc (suc (suc round)) < round_end
  pub slots : slot + (most + most + 3) ≤ slot_end
