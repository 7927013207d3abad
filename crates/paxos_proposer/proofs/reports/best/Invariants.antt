use Rattle.std.proofs.Common.{◌≡◌, ◌++◌, option_copied, drop}
use Rattle.paxos_proposer.specs.Reports.{reports, best, greater}
use Rattle.paxos_proposer.proofs.reports.best.Given as goal

abbrev pub invariant-loop-promise : goal.invariant-loop-promise
invariant-loop-promise g l =
    greater (option_copied l.best) (best l.slot (reports (drop l.promise-index l.promises) ++ l.last)) ≡ best l.slot (reports l.promises ++ l.last)
