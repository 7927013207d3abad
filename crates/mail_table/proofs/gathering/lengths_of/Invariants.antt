use Rattle.std.proofs.Common.{◌≡◌, drop, length}
use Rattle.std.specs.Prelude.{fold}
use Rattle.mail_table.specs.Seats.{with_length, lengths_of}
use Rattle.mail_table.proofs.gathering.lengths_of.Given as goal

-- the rest gives what the whole gives
abbrev pub invariant-loop-seat : goal.invariant-loop-seat
invariant-loop-seat g l = (fold with_length l.lengths (drop l.seat-index l.seats) ≡ lengths_of l.seats) × (length l.lengths ≡ 7)
