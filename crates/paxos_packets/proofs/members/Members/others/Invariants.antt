use Rattle.std.proofs.Common.{◌≡◌, ◌≤◌}
use Rattle.arrayvec.specs.ArrayVec.{array_vec_len}
use Rattle.paxos_packets.specs.Members.{others}
use Rattle.paxos_packets.proofs.members.Members.others.Given as goal

abbrev pub invariant-loop-below : goal.invariant-loop-below
invariant-loop-below l = (l.nodes.items ≡ others l.node l.below) × (array_vec_len l.nodes ≤ l.below)
