use Rattle.std.proofs.Common.{true, sym, ◌∙◌}
use Rattle.paxos_planning.specs.Plan.{begun}
use Rattle.paxos_node.specs.Snapshots.{rest_on}
use Rattle.paxos_node.proofs.Answering.{unless_memory, taken_answered, damaged_answered}
use Rattle.paxos_node.proofs.node.Node.plan_snapshot.Goals as goal

pub returns-then-is_damaged-clause-answered : goal.returns-then-is_damaged-clause-answered
returns-then-is_damaged-clause-answered g c =
    damaged_answered c.args.self.now.me c.args.self.now.members c.args.self.now.state c.args.snapshot.now
    (sym c.is_damaged.ensures ∙ c.if-is_damaged.true)

pub returns-clause-answered : goal.returns-clause-answered
returns-clause-answered g c =
    taken_answered c.args.self.now.me c.args.self.now.members c.args.self.now.state c.args.snapshot.now c.plan_rest.result c.requires.new
    (sym c.is_damaged.ensures ∙ c.if-is_damaged.false)
    (unless_memory c.args.self.now.me c.args.self.now.members c.args.self.now.state (rest_on true c.args.snapshot.now (begun c.args.self.now.state))
    c.plan_rest.result c.plan_rest.ensures.planned c.plan_rest.ensures.memory)
