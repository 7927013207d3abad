use Rattle.replica_machine.specs.Roll.{standings_after}
use Rattle.paxos_node.proofs.waiting.apply.Goals as goal

pub returns-clause-pending : goal.returns-clause-pending
returns-clause-pending g c = λ stands is. c.keep_wanted.ensures (standings_after stands c.args.entry.now) (c.advance.ensures stands is)
