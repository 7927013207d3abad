use Rattle.std.proofs.Common.{◌≡◌, ◌≤◌, ◌<◌, ap, ◌∙◌, arith}
use Rattle.std.specs.Prelude.{is_none}
use Rattle.replica_machine.specs.Snapshot.{head_at}
use Rattle.paxos_planning.specs.Node.{log_length}
use Rattle.paxos_node.proofs.Answering.{not_longer, is_longer, told_none}
use Rattle.paxos_node.proofs.node.Node.is_damaged.Goals as goal

pub returns-then-get-applied : goal.returns-then-get-applied
returns-then-get-applied g c =
    let floor : c.get.result ≡ c.args.snapshot.now.floor = c.get.ensures.value ∙ c.floor.ensures in
    let length : c.applied.result ≡ log_length c.args.self.now.state = c.applied.ensures.length in
    let shorter = c.if-get-applied.true in
    let low : c.args.snapshot.now.floor ≤ log_length c.args.self.now.state = omega arith in
    not_longer c.args.snapshot.now.floor (log_length c.args.self.now.state) (is_none (head_at c.args.snapshot.now.octets)) low

pub returns : goal.returns
returns g c =
    let floor : c.get.result ≡ c.args.snapshot.now.floor = c.get.ensures.value ∙ c.floor.ensures in
    let length : c.applied.result ≡ log_length c.args.self.now.state = c.applied.ensures.length in
    let longer = c.if-get-applied.false in
    let high : log_length c.args.self.now.state < c.args.snapshot.now.floor = omega arith in
    told_none c.read.result c.is_none.result c.is_none.ensures ∙ ap is_none (c.read.ensures.head ∙ ap head_at c.octets.ensures.octets)
    ∙ is_longer c.args.snapshot.now.floor (log_length c.args.self.now.state) (is_none (head_at c.args.snapshot.now.octets)) high
