use Rattle.std.proofs.Common.{◌≡◌, ◌≤◌}
use Rattle.actor_outboxes.specs.Outboxes.{empty_boxes}
use Rattle.actor_outboxes.proofs.outboxes.empty_boxes.Given as goal

abbrev pub invariant-loop-number : goal.invariant-loop-number
invariant-loop-number g l = (l.boxes.items ≡ empty_boxes l.me l.number) × (l.number ≤ l.number-end)
