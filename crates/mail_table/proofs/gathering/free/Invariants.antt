use Rattle.std.proofs.Common.{◌≡◌, ℕ, ◌-◌, ◌<◌, false, get_or}
use Rattle.std.specs.Slots.{slots_filled, slots_len}
use Rattle.std.specs.Slots.Ownership.{Filled}
use Rattle.mail_table.proofs.gathering.free.Given as goal

-- the packets after this one are still there, and no others
abbrev pub invariant-loop-next : goal.invariant-loop-next
invariant-loop-next g l =
    Filled (slots_filled l.closed.slots) l.next (slots_len l.closed.slots) × ((k : ℕ) → k < l.next
    → get_or (slots_filled l.closed.slots) k false ≡ false)

abbrev pub decreases-loop-next : goal.decreases-loop-next
decreases-loop-next g l = slots_len l.closed.slots - l.next
