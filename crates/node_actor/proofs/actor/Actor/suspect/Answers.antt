use Rattle.std.proofs.lemmas.Bool.{eq-eqb}
use Rattle.node_actor.proofs.actor.Actor.suspect.Goals as goal

pub event-requires-clause-own : goal.event-requires-clause-own
event-requires-clause-own g c = eq-eqb _ _ c.me.ensures

pub returns-clause-acts : goal.returns-clause-acts
returns-clause-acts g c = rw c.me.ensures at c.event.ensures.acts
