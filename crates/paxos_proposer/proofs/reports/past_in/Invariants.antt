use Rattle.std.proofs.Common.{◌≡◌, ◌≤◌, ◌^◌, max, drop}
use Rattle.paxos_proposer.specs.Reports.{past_reports}
use Rattle.paxos_proposer.proofs.reports.past_in.Given as goal

abbrev pub invariant-loop-vote : goal.invariant-loop-vote
invariant-loop-vote g l =
    (past_reports l.past (drop l.vote-index l.votes) ≡ past_reports l.first l.votes) × (l.first ≤ l.past) × (l.past ≤ max l.first (2 ^ 40))
