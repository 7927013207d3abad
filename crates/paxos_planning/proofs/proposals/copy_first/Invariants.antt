use Rattle.std.proofs.Common.{◌≡◌, ◌++◌, drop}
use Rattle.paxos_planning.proofs.proposals.copy_first.Given as goal

-- with the rest, what is there is what was there with all of them
abbrev pub invariant-loop-entry : goal.invariant-loop-entry
invariant-loop-entry g l = l.entries ++ drop l.entry-index l.more ≡ l.initial.entries ++ l.more
