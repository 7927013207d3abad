-- Lists of events at one node: what they make of a view of it, what they send, and what they hand out.
use Rattle.std.specs.Prelude.{ℕ, Bool, Option, Some, List, [], ◌∷◌, ◌++◌}
use Rattle.paxos_packets.specs.declared.entry.Entry.{Entry}
use Rattle.paxos_packets.specs.declared.packet.Packet.{Packet}
use Rattle.paxos_node.specs.declared.event.Event.{Event}
use Rattle.paxos_node.specs.View.{Viewed}
use Rattle.replica_machine.specs.Replay.{Machine}
use Rattle.node_actor.specs.Snapshots.{Logs, TakesLog, under_after, handed_by}
use Rattle.node_actor.specs.Views.{moved_by, sent_by}

module _ {B : Type 0} (same : B → B → Bool) (members : ℕ) where
  -- the view after the events
  abbrev pub behind : List (Event B) → Viewed B → Viewed B
  behind [] s = s
  behind (e ∷ es) s = behind es (moved_by same members (Some e) s)

  -- what the node sends in them, in order
  abbrev pub sent_in : List (Event B) → Viewed B → List (Packet B)
  sent_in [] s = []
  sent_in (e ∷ es) s = sent_by same members (Some e) s.node ++ sent_in es (moved_by same members (Some e) s)

  -- what the core hands out in them to the node's transports, if the node's log up to the floor is `under`, and snapshots are of these logs
  abbrev pub said_in : {S Y : Type 0} → Machine B S Y → Logs B → List (Entry B) → List (Event B) → Viewed B → List Y
  said_in m logs under [] s = []
  said_in m logs under (e ∷ es) s =
      handed_by same members m logs under (Some e) s.node
      ++ said_in m logs (under_after same members logs under (Some e) s.node) es (moved_by same members (Some e) s)

  -- the log up to the floor after them
  abbrev pub under_in : Logs B → List (Entry B) → List (Event B) → Viewed B → List (Entry B)
  under_in logs under [] s = under
  under_in logs under (e ∷ es) s = under_in logs (under_after same members logs under (Some e) s.node) es (moved_by same members (Some e) s)

  -- each snapshot that the node takes over in them is of its log
  abbrev pub TakeLogs : {S Y : Type 0} → (List ℕ → Option S) → Machine B S Y → Logs B → List (Event B) → Viewed B → Type 0
  TakeLogs loaded m logs [] s = Unit {0}
  TakeLogs loaded m logs (e ∷ es) s =
      TakesLog same members loaded m logs (Some e) s.node × TakeLogs loaded m logs es (moved_by same members (Some e) s)
