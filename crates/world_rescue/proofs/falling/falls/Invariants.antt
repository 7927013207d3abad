use Rattle.std.proofs.Common.{ℕ, drop}
use Rattle.replica_machine.specs.declared.roll.Standing.{Standing}
use Rattle.replica_machine.specs.Roll.{HasStandings}
use Rattle.world_rescue.proofs.Ending.{Falls}
use Rattle.world_rescue.proofs.falling.falls.Given as goal

-- where the nodes stand so far, the rest gives what the whole gives
abbrev pub invariant-loop-vote : goal.invariant-loop-vote
invariant-loop-vote g l =
    (stands : ℕ → Standing) → HasStandings stands l.initial.roll → Falls l.node l.boot l.roll (drop l.vote-index l.votes) stands l.votes
