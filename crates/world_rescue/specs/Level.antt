-- What a course goes by once its node is level, in place of the node's state: it copies no log, and no vote up to the log's length.
use Rattle.std.specs.Prelude.{◌≡◌, ℕ, ◌<◌, ◌≤◌, ◌^◌, List, [], length, Option}
use Rattle.paxos_packets.specs.Snapshot.{Snapshot, floor_in}
use Rattle.paxos_packets.specs.Vote.{votes_from}
use Rattle.paxos_packets.specs.declared.entry.Entry.{Entry}
use Rattle.paxos_packets.specs.declared.vote.Vote.{Vote}
use Rattle.paxos_proposer.specs.Proposer.{resting}
use Rattle.paxos_planning.specs.Node.{NodeState, log_length}
use Rattle.world_rescue.specs.Seats.{Seat, Crew}

pub record Level (B : Type 0) : Type 0 where
  pub boot : ℕ
  pub seen : ℕ
  pub snapshot : Option Snapshot
  -- the length of its log
  pub log : ℕ
  pub pending : List (Entry B)
  pub taken : ℕ

-- it is what is known of the node with this state. The node's next boot is stated for one that has a boot left, and its votes above its floor
-- are those that it cast before
pub record IsLevelOf {B : Type 0} (cast : List (Vote B)) (l : Level B) (x : NodeState B) : Type 0 where
  pub boot : x.rows.boot ≤ 2 ^ 48 → l.boot ≡ x.rows.boot
  pub seen : l.seen ≡ x.proposer.seen
  pub snapshot : l.snapshot ≡ x.rows.snapshot
  pub log : l.log ≡ log_length x
  pub pending : x.rows.boot ≤ 2 ^ 48 → l.pending ≡ x.pending
  pub count : length l.pending ≡ length x.pending
  pub taken : l.taken ≡ x.taken
  pub votes : (first : ℕ) → floor_in x.rows.snapshot < first → votes_from first cast ≡ votes_from first x.rows.votes

-- the node by what is known of it: its log is stated beside it
abbrev pub seat_by : {B : Type 0} → Seat B → Level B → Seat B
seat_by s l =
    record {
      number = s.number;
      node =
          record s.node {
            rows = record s.node.rows { boot = l.boot; snapshot = l.snapshot };
            proposer = resting l.seen;
            applied = [];
            pending = l.pending;
            taken = l.taken;
          };
    }

-- the crew of that node
abbrev pub crew_by : {B : Type 0} → Crew B → Level B → Crew B
crew_by c l = record c { own = seat_by c.own l }

-- the crew, once its node has this state
abbrev pub with_own : {B : Type 0} → Crew B → NodeState B → Crew B
with_own c x = record c { own = record { number = c.own.number; node = x } }
