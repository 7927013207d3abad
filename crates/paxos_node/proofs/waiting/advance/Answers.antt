use Rattle.paxos_node.proofs.Rolling.{rolls_on}
use Rattle.paxos_node.proofs.waiting.advance.Goals as goal

pub returns : goal.returns
returns g c = λ stands is. rolls_on stands c.args.entry.now c.args.roll.now c.take-took.new.self is c.take-took.ensures.standings
