use Rattle.std.proofs.Common.{◌≡◌}
use Rattle.mail_table.specs.Seats.{all_sit}
use Rattle.mail_table.proofs.gathering.every_node_sits.Given as goal

abbrev pub invariant-loop-below : goal.invariant-loop-below
invariant-loop-below g l = l.all ≡ all_sit l.below l.seats
