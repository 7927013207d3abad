use Rattle.serve_feed.proofs.lanes.Lanes.tend.Goals as goal

pub returns-then-not-step_aside : goal.returns-then-not-step_aside
returns-then-not-step_aside c = record { tells = λ given tells. c.step_aside.ensures.tells given (c.loop.invariant given tells) }

pub loop-preserved : goal.loop-preserved
loop-preserved c = λ given tells. c.step_aside.ensures.tells given (c.loop.invariant given tells)
