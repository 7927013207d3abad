use Rattle.std.proofs.Common.{◌≡◌, ◌++◌, ◌-◌}
use Rattle.paxos_proposer.specs.Reports.{reports, called_in, called_for}
use Rattle.paxos_proposer.proofs.reports.called_for.Given as goal

abbrev pub invariant-loop-slot : goal.invariant-loop-slot
invariant-loop-slot g l =
    l.entries.items ++ called_in (reports l.promises ++ l.last) l.slot (l.past - l.slot) ≡ called_for l.first (reports l.promises ++ l.last)
