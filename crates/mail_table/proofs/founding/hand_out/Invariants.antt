use Rattle.std.proofs.Common.{◌≡◌, ◌≤◌, ◌+◌, [], vec_capacity, ℕ}
use Rattle.mail_table.specs.Boxes.{rising}
use Rattle.mail_table.specs.Seats.{new_seats}
use Rattle.mail_table.proofs.founding.hand_out.Given as goal

-- the founder knows of the nodes that have no seat yet
abbrev pub invariant-loop-below : goal.invariant-loop-below
invariant-loop-below g l =
    ((m : ℕ) × (l.below + m ≡ l.nodes) × (l.founder.me ≡ (rising l.below m, []))) × (l.founder.table_id ≡ l.table.shared.table_id)
    × (l.nodes ≤ vec_capacity l.seats)
    × (l.seats.items ≡ new_seats (record { office = l.mark.seen.book; table = l.mark.number; members = l.nodes; most = l.most }) l.below)
