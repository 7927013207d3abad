use Rattle.std.proofs.Common.{rules}
use Rattle.node_actor.proofs.actor.Actor.turn.Goals as goal

pub turn-requires-clause-serving : goal.turn-requires-clause-serving
turn-requires-clause-serving g c = search rules

pub returns-clause-spoiled : goal.returns-clause-spoiled
returns-clause-spoiled g c = search rules
