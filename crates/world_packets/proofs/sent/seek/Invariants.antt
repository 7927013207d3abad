-- What is kept under the ordinals so far are other packets.
use Rattle.std.proofs.Common.{◌≡◌, ◌≤◌, length}
use Rattle.world_packets.specs.Numbers.{numbers_of}
use Rattle.world_packets.specs.Sent.{IsIndex}
use Rattle.world_packets.proofs.Seeking.{ArePassed}
use Rattle.world_packets.proofs.sent.seek.Given as goal

abbrev pub invariant-loop-ordinal : goal.invariant-loop-ordinal
invariant-loop-ordinal g l =
    IsIndex l.places.entries l.packets × (l.numbers ≡ numbers_of l.packet) × (l.ordinal ≤ length l.packets)
    × ArePassed g.B.Body.same l.packet l.packets l.places.entries l.ordinal
