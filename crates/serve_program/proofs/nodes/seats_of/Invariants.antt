use Rattle.std.specs.Prelude.{All}
use Rattle.mail_table.specs.Seats.{Seated, Owns}
use Rattle.serve_program.proofs.nodes.seats_of.Given as goal

-- the seats that were taken out are the table's
abbrev pub invariant-loop-left : goal.invariant-loop-left
invariant-loop-left g l = All (λ (s : Seated _). Owns g.C.Cluster.table s) l.seats.items
