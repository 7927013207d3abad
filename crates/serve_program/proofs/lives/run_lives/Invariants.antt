use Rattle.std.proofs.Common.{[]}
use Rattle.mail_table.specs.Seats.{Owns}
use Rattle.node_actor.specs.Views.{StandsFor}
use Rattle.serve_program.proofs.lives.run_lives.Given as goal

-- the table owns the seat of the node's present life, in which nothing was given yet
abbrev pub invariant-loop : goal.invariant-loop
invariant-loop g l = Owns l.mail l.actor.seat × StandsFor l.actor l.actor.seat × g.F.RoundFeed.saw l.feed [] []
