use Rattle.std.proofs.Common.{rules}
use Rattle.replica_follower.proofs.tellings.next_in.Goals as goal

pub loop-turn-preserved : goal.loop-turn-preserved
loop-turn-preserved g c = search rules
