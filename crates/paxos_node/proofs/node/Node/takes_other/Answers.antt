use Rattle.std.proofs.Common.{◌≡◌, ◌<◌, true, sym, ◌∙◌, arith}
use Rattle.paxos_node.specs.Events.{takes}
use Rattle.paxos_node.proofs.Answering.{takes_below}
use Rattle.paxos_node.proofs.node.Node.takes_other.Goals as goal

pub overflow_add-item : goal.overflow_add-item
overflow_add-item g c =
    let left : takes c.args.self.now.state ≡ true = sym c.takes.ensures ∙ c.if-not-takes.false in
    let below : c.args.self.now.state.taken < 281474976710655 = takes_below c.args.self.now.state left in
    let taken : c.taken.result ≡ c.args.self.now.state.taken = c.taken.ensures in
    omega arith
