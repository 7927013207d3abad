use Rattle.paxos_node.proofs.Rolling.{rolls_on}
use Rattle.replica_machine.specs.Roll.{standings_after}
use Rattle.world_rescue.proofs.falling.apply.Goals as goal

pub returns-clause-roll : goal.returns-clause-roll
returns-clause-roll g c = λ stands is. rolls_on stands c.args.entry.now c.args.roll.now c.take-took.new.self is c.take-took.ensures.standings

pub returns-clause-pending : goal.returns-clause-pending
returns-clause-pending g c = λ stands is.
    c.let_go.ensures (standings_after stands c.args.entry.now)
    (rolls_on stands c.args.entry.now c.args.roll.now c.take-took.new.self is c.take-took.ensures.standings)
