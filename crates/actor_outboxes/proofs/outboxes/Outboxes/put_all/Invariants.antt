use Rattle.std.proofs.Common.{◌≡◌, ◌++◌}
use Rattle.std.specs.Vec.Iter.{into_iter_items}
use Rattle.actor_outboxes.specs.Outboxes.{WaitBehind}
use Rattle.actor_outboxes.proofs.outboxes.Outboxes.put_all.Given as goal

abbrev pub invariant-loop-packet : goal.invariant-loop-packet
invariant-loop-packet g l =
    (l.self.me ≡ l.initial.self.me) × (l.self.members ≡ l.initial.self.members) × WaitBehind l.yielded l.initial.self l.self
    × (l.yielded ++ into_iter_items l.packet-iterator ≡ l.fn.packets.items)
