use Rattle.std.proofs.Common.{◌≡◌, ◌-◌}
use Rattle.paxos_proposer.specs.Reports.{called_in, called_for}
use Rattle.paxos_planning.specs.Walking.{called_other}
use Rattle.paxos_planning.proofs.parts.Parts.called_other.Given as goal

-- the rest gives the same result as the whole
abbrev pub invariant-loop-slot : goal.invariant-loop-slot
invariant-loop-slot g l =
    called_other g.B.Body.same l.self.members l.self.me l.called.ballot l.self.state.learner l.slot (called_in l.called.votes l.slot (l.past - l.slot))
    ≡ called_other g.B.Body.same l.self.members l.self.me l.called.ballot l.self.state.learner l.called.first (called_for l.called.first l.called.votes)
