use Rattle.mail_table.specs.Seats.{Owns}
use Rattle.actor_tests.proofs.outboxes.drained.Given as goal

abbrev pub invariant-loop : goal.invariant-loop
invariant-loop g l = Owns l.mail l.actor.seat × Owns l.mail l.two × Owns l.mail l.three
