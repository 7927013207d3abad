use Rattle.std.proofs.Common.{◌≡◌, ◌≤◌, ◌^◌, max, drop}
use Rattle.paxos_proposer.specs.Reports.{past_reports, reports}
use Rattle.paxos_proposer.proofs.reports.past_of.Given as goal

abbrev pub invariant-loop-promise : goal.invariant-loop-promise
invariant-loop-promise g l =
    (past_reports l.past (reports (drop l.promise-index l.promises)) ≡ past_reports l.first (reports l.promises)) × (l.first ≤ l.past) × (l.past ≤ max l.first (2 ^ 40))
