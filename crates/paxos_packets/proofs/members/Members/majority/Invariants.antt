use Rattle.std.proofs.Common.{◌≡◌, ◌≤◌}
use Rattle.paxos_packets.specs.Members.{count_nodes, is_in}
use Rattle.paxos_packets.proofs.members.Members.majority.Given as goal

abbrev pub invariant-loop-below : goal.invariant-loop-below
invariant-loop-below l = (l.count ≡ count_nodes (is_in l.set) l.below) × (l.count ≤ l.below)
