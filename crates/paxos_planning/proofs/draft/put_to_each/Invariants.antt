use Rattle.std.proofs.Common.{◌≡◌, ◌++◌, drop, map}
use Rattle.paxos_packets.specs.Packet.{packet}
use Rattle.paxos_planning.proofs.draft.put_to_each.Given as goal

-- with the rest's packets, what is there is what was there with all of them
abbrev pub invariant-loop-other : goal.invariant-loop-other
invariant-loop-other g l =
    l.packets.items ++ map (packet l.me l.kind) (drop l.other-index l.others) ≡ l.initial.packets.items ++ map (packet l.me l.kind) l.others
