use Rattle.std.proofs.Common.{◌≡◌, ◌++◌, ◌+◌}
use Rattle.paxos_learner.specs.Hearing.{after}
use Rattle.paxos_learner.specs.Learner.{learned_within}
use Rattle.paxos_learner.proofs.hearing.learned_from.Given as goal

-- what was found, with the rest
abbrev pub invariant-loop-number : goal.invariant-loop-number
invariant-loop-number g l =
    l.told.items ++ learned_within l.number (l.first + 64) (after l.hearing).learner.learned
    ≡ learned_within l.first (l.first + 64) (after l.hearing).learner.learned
