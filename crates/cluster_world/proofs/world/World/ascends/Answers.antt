use Rattle.std.proofs.Common.{sym, subst, List}
use Rattle.paxos_packets.proofs.Ascending.{ascending}
use Rattle.paxos_packets.specs.Vote.{IsAscending}
use Rattle.paxos_planning.specs.Node.{NodeState}
use Rattle.cluster_world.proofs.Rising.{all_ascend}
use Rattle.cluster_world.specs.World.{node_at, played}
use Rattle.cluster_world.proofs.world.World.ascends.Goals as goal

pub returns : goal.returns
returns g c =
    let led = c.leads.ensures.leads in
    subst (λ (nodes : List (NodeState _)). IsAscending (node_at nodes c.args.node).rows.votes) (sym led.1.nodes)
    (ascending (node_at (played g.M.Body.Body.same c.args.self.now.members led.0).nodes c.args.node).rows.votes
    (all_ascend g.M.Body.Body.same c.args.self.now.members led.0 c.args.node))
