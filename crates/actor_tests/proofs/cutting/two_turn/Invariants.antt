use Rattle.mail_table.specs.Seats.{Owns}
use Rattle.actor_tests.specs.Fresh.{IsFresh}
use Rattle.actor_tests.proofs.cutting.two_turn.Given as goal

abbrev pub invariant-loop : goal.invariant-loop
invariant-loop g l = Owns l.mail l.one.seat × Owns l.mail l.two.seat × IsFresh l.mail l.away
