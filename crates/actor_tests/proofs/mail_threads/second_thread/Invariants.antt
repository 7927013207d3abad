use Rattle.mail_table.specs.Seats.{Owns}
use Rattle.actor_tests.proofs.mail_threads.second_thread.Given as goal

abbrev pub invariant-loop : goal.invariant-loop
invariant-loop l = Owns l.mail l.two
