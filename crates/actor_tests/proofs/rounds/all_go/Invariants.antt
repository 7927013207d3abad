use Rattle.mail_table.specs.Seats.{Owns}
use Rattle.actor_tests.proofs.rounds.all_go.Given as goal

abbrev pub invariant-loop : goal.invariant-loop
invariant-loop l = Owns l.mail l.one.seat × Owns l.mail l.two.seat × Owns l.mail l.three.seat
