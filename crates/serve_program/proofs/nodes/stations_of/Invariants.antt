use Rattle.std.specs.Prelude.{◌≡◌, All}
use Rattle.paxos_node.specs.declared.view.Opened.TheVariants.{Never}
use Rattle.mail_table.specs.Seats.{Seated, Owns}
use Rattle.serve_program.proofs.nodes.stations_of.Given as goal

-- the seats that are left are of those that were there
abbrev pub invariant-loop : goal.invariant-loop
invariant-loop g l = All (λ (s : Seated _). Owns l.mail s × (s.part.seen.opened ≡ Never)) l.seats.items
