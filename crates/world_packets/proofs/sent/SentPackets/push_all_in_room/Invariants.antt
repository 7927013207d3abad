-- The packets so far were sent, and there is room for those that are to come.
use Rattle.std.proofs.Common.{◌≡◌, ◌≤◌, ◌++◌, length}
use Rattle.std.specs.Vec.Iter.{into_iter_items}
use Rattle.world_packets.proofs.sent.SentPackets.push_all_in_room.Given as goal

abbrev pub invariant-loop-packet : goal.invariant-loop-packet
invariant-loop-packet g l =
    (l.self.packets ++ into_iter_items l.packet-iterator ≡ l.fn.self.packets ++ l.fn.packets.items)
    × (length (into_iter_items l.packet-iterator) ≤ l.self.room)
