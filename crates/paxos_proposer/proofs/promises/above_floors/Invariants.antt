use Rattle.std.proofs.Common.{◌≡◌, ◌≤◌, drop}
use Rattle.paxos_proposer.specs.Promises.{above_floors}
use Rattle.paxos_proposer.proofs.promises.above_floors.Given as goal

abbrev pub invariant-loop-promise : goal.invariant-loop-promise
invariant-loop-promise g l =
    (above_floors l.above (drop l.promise-index l.promises) ≡ above_floors l.slot l.promises) × (l.slot ≤ l.above)
