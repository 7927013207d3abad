use Rattle.std.proofs.Common.{◌≡◌, length, drop}
use Rattle.std.specs.Cmp.Lexicographic.{pointwise}
use Rattle.paxos_packets.proofs.list.all_same.Given as goal

abbrev pub invariant-loop-i : goal.invariant-loop-i
invariant-loop-i g l =
    (length l.items ≡ length l.others)
    × (pointwise g.T.Body.same (drop l.i l.items) (drop l.i l.others) ≡ pointwise g.T.Body.same l.items l.others)
