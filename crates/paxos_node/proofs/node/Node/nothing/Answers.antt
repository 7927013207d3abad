use Rattle.std.proofs.Common.{sym, subst}
use Rattle.paxos_node.specs.declared.outcome.Outcome.{Outcome}
use Rattle.paxos_node.specs.Adopting.{Fits}
use Rattle.paxos_node.proofs.Answering.{nothing_fits}
use Rattle.paxos_node.proofs.node.Node.nothing.Goals as goal

pub returns-clause-fits : goal.returns-clause-fits
returns-clause-fits g c =
    subst (λ (o : Outcome g.row.B.Denot). Fits c.args.self.now.me c.args.self.now.members o c.args.self.now.state) (sym c.nothing.ensures)
    (nothing_fits c.args.self.now.me c.args.self.now.members c.applied.result c.args.self.now.state c.applied.ensures.length c.applied.ensures.within
    c.begins.ensures.floor c.begins.ensures.begins)
