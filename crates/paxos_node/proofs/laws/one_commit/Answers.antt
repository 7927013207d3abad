use Rattle.paxos_node.proofs.Committing.{commits_its_change}
use Rattle.paxos_node.proofs.laws.one_commit.Goals as goal

pub returns : goal.returns
returns g c = commits_its_change
