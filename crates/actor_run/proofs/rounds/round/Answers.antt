use Rattle.actor_run.proofs.rounds.round.Goals as goal

pub returns-in-Ok-clause-passes : goal.returns-in-Ok-clause-passes
returns-in-Ok-clause-passes g c = λ o w. c.take_round.ensures.passes o (c.in-Ok.ensures.gathers o w)
