use Rattle.paxos_node.proofs.Resting.{boots_stay}
use Rattle.paxos_node.proofs.laws.present_boots_stay.Goals as goal

pub returns : goal.returns
returns g c = boots_stay
