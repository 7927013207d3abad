-- What the node plans to make is what the event makes.
use Rattle.world_nodes.proofs.world_node.plan.Goals as goal

pub returns-in-Ok-clause-made : goal.returns-in-Ok-clause-made
returns-in-Ok-clause-made g c = c.in-Ok.ensures.made c.requires.plans
