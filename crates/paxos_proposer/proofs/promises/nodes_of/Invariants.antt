use Rattle.std.proofs.Common.{◌≡◌, ℕ, ◌&&◌, ◌||◌, nat_lt, drop}
use Rattle.paxos_packets.specs.Members.{is_in}
use Rattle.paxos_proposer.specs.Reports.{is_counted}
use Rattle.paxos_proposer.proofs.promises.nodes_of.Given as goal

abbrev pub invariant-loop-promise : goal.invariant-loop-promise
invariant-loop-promise g l =
    (node : ℕ) → (is_in l.nodes node || (is_counted (drop l.promise-index l.promises) node && nat_lt node 8))
    ≡ (is_counted l.promises node && nat_lt node 8)
