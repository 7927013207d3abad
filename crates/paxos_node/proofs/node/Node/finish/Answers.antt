use Rattle.paxos_node.proofs.Done.{none_added}
use Rattle.paxos_node.proofs.node.Node.finish.Goals as goal

pub returns-clause-answered : goal.returns-clause-answered
returns-clause-answered g c =
    none_added c.args.self.now.me c.args.self.now.members c.args.self.now.state c.args.draft.of c.args.draft.plan c.args.done c.settle.result c.requires.of
    c.settle.ensures.added c.settle.ensures.settled
