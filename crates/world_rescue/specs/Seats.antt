-- The nodes that take part in a rescue.
use Rattle.std.specs.Prelude.{ℕ, List}
use Rattle.paxos_packets.specs.Packet.{packet}
use Rattle.paxos_packets.specs.Snapshot.{floor_in}
use Rattle.paxos_packets.specs.declared.packet.Kind.{Kind}
use Rattle.paxos_planning.specs.Node.{NodeState}
use Rattle.paxos_node.specs.Held.{Held}
use Rattle.paxos_node.specs.declared.event.Event.{Event}
use Rattle.paxos_node.specs.declared.event.Event.TheVariants.{Deliver}

-- a node that takes part, as it is before the rescue
pub record Seat (B : Type 0) : Type 0 where
  pub number : ℕ
  pub node : NodeState B

abbrev pub seat_of : {B : Type 0} → Held B → Seat B
seat_of h = record { number = h.me; node = h.state }

-- the one that is rescued, and others that make a majority with it
pub record Crew (B : Type 0) : Type 0 where
  pub members : ℕ
  pub own : Seat B
  pub helpers : List (Seat B)

-- its floor, up to which its snapshot gives the log
abbrev pub floor_of : {B : Type 0} → Seat B → ℕ
floor_of s = floor_in s.node.rows.snapshot

abbrev pub delivered : {B : Type 0} → ℕ → Kind B → ℕ → Event B
delivered from kind to = Deliver (packet from kind to)
