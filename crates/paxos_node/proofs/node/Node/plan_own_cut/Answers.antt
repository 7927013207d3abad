use Rattle.std.proofs.Common.{◌≡◌, true, false, Option, sym, subst}
use Rattle.paxos_packets.specs.Snapshot.{Snapshot}
use Rattle.paxos_planning.specs.Plan.{begun}
use Rattle.paxos_node.specs.Plans.{Answered}
use Rattle.paxos_node.specs.Snapshots.{may_cut, on_cut, rest_on}
use Rattle.paxos_node.proofs.Answering.{cut_floor, unless_memory}
use Rattle.paxos_node.proofs.node.Node.plan_own_cut.Goals as goal

pub plan_rest-requires-clause-more : goal.plan_rest-requires-clause-more
plan_rest-requires-clause-more g c =
    cut_floor c.in-Some.snapshot c.args.self.now.state
    (subst (λ (s : Option Snapshot). may_cut s c.args.self.now.state ≡ true) c.in-Some.is c.requires.cuts)

pub returns-clause-answered : goal.returns-clause-answered
returns-clause-answered g c =
    subst (λ (s : Option Snapshot). Answered c.args.self.now.me c.args.self.now.members c.args.self.now.state false false
    (on_cut s (begun c.args.self.now.state)) c.plan_rest.result) (sym c.in-Some.is)
    (unless_memory c.args.self.now.me c.args.self.now.members c.args.self.now.state (rest_on false c.in-Some.snapshot (begun c.args.self.now.state))
    c.plan_rest.result c.plan_rest.ensures.planned c.plan_rest.ensures.memory)
