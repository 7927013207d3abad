use Rattle.actor_run.proofs.events.make_events.Goals as goal

pub returns-then-is_some-clause-makes : goal.returns-then-is_some-clause-makes
returns-then-is_some-clause-makes g c = λ o w. c.in_ok-held.ensures.makes o (c.in-Some.ensures.next o (c.loop.invariant.1 o w))
