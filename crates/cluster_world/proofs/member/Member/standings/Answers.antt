-- The roll of the node's snapshot says where the nodes stand at its floor.
use Rattle.std.proofs.Common.{subst}
use Rattle.paxos_node.specs.Applying.{base, stands_at}
use Rattle.replica_machine.specs.Roll.{HasStandings}
use Rattle.cluster_world.specs.Members.{MemberState}
use Rattle.cluster_world.proofs.member.Member.standings.Goals as goal

pub returns : goal.returns
returns g c =
    subst (λ (s : MemberState _ _ _). HasStandings (base s.node.rows) c.roll_at.result) c.self.view_is
    (subst (λ o. HasStandings (stands_at o) c.roll_at.result) c.snapshot.ensures c.roll_at.ensures)
