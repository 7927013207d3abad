use Rattle.std.proofs.Common.{◌≡◌, drop}
use Rattle.paxos_node.specs.Applying.{count_to_end, has_end}
use Rattle.paxos_node.proofs.Counting.{Counts}
use Rattle.paxos_node.proofs.settling.until_lost.Given as goal

-- the rest ends the boot if the whole does
abbrev pub invariant-loop-entry : goal.invariant-loop-entry
invariant-loop-entry g l =
    Counts l.me l.boot l.now (drop l.entry-index l.entries) l.count (count_to_end l.me l.boot l.fn.standing l.entries)
    (has_end l.me l.boot l.fn.standing l.entries)
    × (l.count ≡ l.entry-index)
