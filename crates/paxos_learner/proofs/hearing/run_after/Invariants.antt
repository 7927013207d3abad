use Rattle.std.proofs.Common.{◌≡◌, ◌++◌, suc}
use Rattle.paxos_learner.specs.Hearing.{after}
use Rattle.paxos_learner.specs.Learner.{run_from}
use Rattle.paxos_learner.proofs.hearing.run_after.Given as goal

-- what was found, with the rest
abbrev pub invariant-loop-number : goal.invariant-loop-number
invariant-loop-number g l =
    l.run ++ run_from (suc l.number) (after l.hearing).learner.learned ≡ run_from (suc l.applied) (after l.hearing).learner.learned
