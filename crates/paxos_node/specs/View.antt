-- What is known of one node (docs/CONSENSUS.md, "A node with its store").
use Rattle.std.specs.Prelude.{List, ◌++◌}
use Rattle.paxos_packets.specs.declared.packet.Packet.{Packet}
use Rattle.paxos_node.specs.declared.view.Opened.{Opened}
use Rattle.paxos_planning.specs.Node.{NodeState}

-- whether it was opened, and with which rows; the node; and every packet that it sent, oldest first
pub record Viewed (B : Type 0) : Type 0 where
  pub opened : Opened B
  pub node : NodeState B
  pub sent : List (Packet B)

-- it is this node now, and sent these packets after those that it had sent
abbrev pub moved : {B : Type 0} → NodeState B → List (Packet B) → Viewed B → Viewed B
moved node packets seen = record { opened = seen.opened; node = node; sent = seen.sent ++ packets }
