use Rattle.actor_outboxes.specs.Outboxes.{IsOldestBelow}
use Rattle.actor_outboxes.proofs.outboxes.oldest.Given as goal

abbrev pub invariant-loop-place : goal.invariant-loop-place
invariant-loop-place g l = IsOldestBelow l.place l.boxes l.best
