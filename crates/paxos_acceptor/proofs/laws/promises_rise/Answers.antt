use Rattle.paxos_acceptor.proofs.Rising.{rises}
use Rattle.paxos_acceptor.proofs.laws.promises_rise.Goals as goal

pub returns : goal.returns
returns g c = rises
