use Rattle.std.proofs.Common.{◌≡◌, ◌++◌, not, map, filter, drop}
use Rattle.paxos_packets.specs.Packet.{packet}
use Rattle.paxos_packets.specs.declared.packet.Kind.TheVariants.{Prepare}
use Rattle.paxos_proposer.specs.Proposing.{promises_of}
use Rattle.paxos_proposer.specs.Reports.{is_counted}
use Rattle.paxos_proposer.specs.State.{role_in}
use Rattle.paxos_planning.proofs.ticking.put_prepares.Given as goal

-- with the rest's packets, what is there is what was there with all of them
abbrev pub invariant-loop-other : goal.invariant-loop-other
invariant-loop-other g l =
    l.packets.items
    ++ map (packet l.me (Prepare l.ballot l.first)) (filter (λ k. not (is_counted (promises_of (role_in l.proposer)) k)) (drop l.other-index l.others))
    ≡ l.initial.packets.items
    ++ map (packet l.me (Prepare l.ballot l.first)) (filter (λ k. not (is_counted (promises_of (role_in l.proposer)) k)) l.others)
