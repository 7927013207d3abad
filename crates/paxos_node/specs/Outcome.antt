-- Outcomes, from what an event does, what is applied at its end, and the entry that becomes pending.
use Rattle.std.specs.Prelude.{ℕ, Bool, false, Option, Some, None, List, [], Result, Ok, Err}
use Rattle.paxos_packets.specs.declared.entry.Entry.{Entry}
use Rattle.paxos_packets.specs.Rows.{snapshot_change}
use Rattle.paxos_packets.specs.Snapshot.{Snapshot}
use Rattle.paxos_proposer.specs.declared.moves.Move.{Move}
use Rattle.paxos_learner.specs.declared.hearing.News.{News}
use Rattle.paxos_planning.specs.declared.effects.Effects.{Effects}
use Rattle.paxos_node.specs.declared.fault.NodeFault.{NodeFault}
use Rattle.paxos_node.specs.declared.outcome.Outcome.{Outcome}

-- these effects, with what is applied then, the length of the log after it, and how many of the first pending entries stand
abbrev pub outcome_with : {B : Type 0} → Effects B → List (Entry B) → Bool → ℕ → ℕ → Outcome B
outcome_with e applied is_down log front =
    record {
      change = e.change;
      packets = e.packets.items;
      applied = applied;
      is_down = is_down;
      moves = record { proposer = e.moves.items; news = e.news.items; added = None; over = false; front = front; log = log };
    }

-- resting on the snapshot, which came in a packet or not, with these moves of the proposer and this news, and what is applied then
abbrev pub resting_with : {B : Type 0} → Snapshot → Bool → List (Move B) → List (News B) → List (Entry B) → Bool → ℕ → Outcome B
resting_with s over moves news applied is_down log =
    record {
      change = snapshot_change s;
      packets = [];
      applied = applied;
      is_down = is_down;
      moves = record { proposer = moves; news = news; added = None; over = over; front = 0; log = log };
    }

-- an outcome by which the entry becomes pending
abbrev pub with_added : {B : Type 0} → Option (Entry B) → Outcome B → Outcome B
with_added added o = record o { moves = record o.moves { added = added } }

abbrev pub added_in : {B : Type 0} → Entry B → Result (Outcome B) NodeFault → Result (Outcome B) NodeFault
added_in e (Ok o) = Ok (with_added (Some e) o)
added_in e (Err f) = Err f
