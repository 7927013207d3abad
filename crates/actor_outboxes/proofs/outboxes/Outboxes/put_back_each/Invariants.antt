use Rattle.std.proofs.Common.{◌≡◌, ◌++◌, List, vec_len}
use Rattle.paxos_packets.specs.declared.packet.Packet.{Packet}
use Rattle.actor_outboxes.specs.Outboxes.{WaitFirst}
use Rattle.actor_outboxes.proofs.outboxes.Outboxes.put_back_each.Given as goal

-- all are those that are left, and those that were put back
abbrev pub invariant-loop-packet : goal.invariant-loop-packet
invariant-loop-packet g l =
    (l.self.me ≡ l.initial.self.me) × (l.self.members ≡ l.initial.self.members)
    × ((ps : List (Packet g.row.B.Denot)) × (l.initial.packets.items ≡ l.packets.items ++ ps) × WaitFirst l.peer ps l.initial.self l.self)

abbrev pub decreases-loop-packet : goal.decreases-loop-packet
decreases-loop-packet g l = vec_len l.packets
