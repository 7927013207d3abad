use Rattle.node_actor.proofs.AllRound.{each_is_tried}
use Rattle.node_actor.proofs.laws.each_is_tried.Goals as goal

pub returns : goal.returns
returns c = each_is_tried
