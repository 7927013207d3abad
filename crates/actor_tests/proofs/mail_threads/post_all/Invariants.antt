use Rattle.actor_tests.specs.Standing.{Knows}
use Rattle.actor_tests.proofs.mail_threads.post_all.Given as goal

abbrev pub invariant-loop : goal.invariant-loop
invariant-loop l = Knows l.mail l.one l.node
