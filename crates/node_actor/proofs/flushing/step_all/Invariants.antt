-- The steps that are left lead where all lead.
use Rattle.std.proofs.Common.{drop}
use Rattle.node_actor.specs.Posts.{advanced_all}
use Rattle.node_actor.proofs.StepsLeft.{StepsLeft}
use Rattle.node_actor.proofs.flushing.step_all.Given as goal

abbrev pub invariant-loop-one : goal.invariant-loop-one
invariant-loop-one g l =
    StepsLeft g.B.Body.same l.mail (drop l.one-index l.tried) l.seat (advanced_all g.B.Body.same l.tried l.initial.seat)
