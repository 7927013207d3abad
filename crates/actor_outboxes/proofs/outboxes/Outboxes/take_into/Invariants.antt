use Rattle.std.proofs.Common.{◌≡◌, ◌≤◌, length}
use Rattle.actor_outboxes.specs.Outboxes.{MayTake}
use Rattle.actor_outboxes.proofs.outboxes.Outboxes.take_into.Given as goal

abbrev pub invariant-loop-turn : goal.invariant-loop-turn
invariant-loop-turn g l =
    (l.self.me ≡ l.initial.self.me) × (l.self.members ≡ l.initial.self.members) × MayTake l.peer l.most l.list.items l.initial.self l.self
    × (length l.list.items ≤ l._turn)
