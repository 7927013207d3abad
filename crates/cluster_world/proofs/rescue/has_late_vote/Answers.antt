use Rattle.std.proofs.Common.{ap, ◌∙◌, rules}
use Rattle.std.specs.Prelude.{nat_lt}
use Rattle.paxos_packets.proofs.Ascending.{ascends}
use Rattle.cluster_world.proofs.Rising.{past_by_last}
use Rattle.cluster_world.specs.Rescue.{last_rescue_slot}
use Rattle.cluster_world.proofs.rescue.has_late_vote.Goals as goal

pub returns : goal.returns
unfolding last_rescue_slot
returns g c =
    ap (λ s. nat_lt 1099511623679 s) c.get.ensures.value
    ∙ past_by_last 1099511623679 c.args.node.now.state.rows.votes c.in-Some.last.now (ascends c.args.node.now.state.rows.votes c.requires) (search rules)
    (search rules)
