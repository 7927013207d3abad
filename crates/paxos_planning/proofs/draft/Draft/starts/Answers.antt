use Rattle.std.proofs.Common.{arith, rules}
use Rattle.paxos_planning.proofs.Rounds.{left_then, left_else}
use Rattle.paxos_planning.proofs.draft.Draft.starts.Goals as goal

pub returns-then-round_of-lt-LAST_ROUND : goal.returns-then-round_of-lt-LAST_ROUND
returns-then-round_of-lt-LAST_ROUND g c =
    left_then c.args.self.now.of.me c.args.self.now.plan.node.rows.promised c.args.self.now.plan.node.proposer c.round_of.result
    c.next_ballot.result c.is_some.result (search rules) (omega arith) (search rules) (search rules)

pub returns-else-round_of-lt-LAST_ROUND : goal.returns-else-round_of-lt-LAST_ROUND
returns-else-round_of-lt-LAST_ROUND g c =
    left_else c.args.self.now.of.me c.args.self.now.plan.node.rows.promised c.args.self.now.plan.node.proposer c.round_of.result
    (search rules) (omega arith)
