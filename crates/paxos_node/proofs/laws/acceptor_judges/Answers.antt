use Rattle.paxos_node.proofs.Judging.{judges}
use Rattle.paxos_node.proofs.laws.acceptor_judges.Goals as goal

pub returns : goal.returns
returns g c = judges
