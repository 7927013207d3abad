use Rattle.std.proofs.Common.{ℕ, Some, Result, false, sym, subst}
use Rattle.paxos_node.specs.declared.fault.NodeFault.{NodeFault}
use Rattle.paxos_node.specs.declared.outcome.Outcome.{Outcome}
use Rattle.paxos_planning.specs.Node.{NodeState, Plan}
use Rattle.paxos_planning.specs.Plan.{begun}
use Rattle.paxos_node.specs.Adopting.{Settled}
use Rattle.paxos_node.specs.Applying.{settle}
use Rattle.paxos_planning.specs.Drafting.{with_pending_entry}
use Rattle.paxos_node.specs.Plans.{Answered}
use Rattle.paxos_planning.specs.Proposals.{push}
use Rattle.paxos_node.proofs.Ending.{with_entry}
use Rattle.paxos_node.proofs.node.Node.plan_with.Goals as goal

pub returns-clause-answered : goal.returns-clause-answered
returns-clause-answered g c =
    let me : ℕ = c.args.self.now.me in
    let members : ℕ = c.args.self.now.members in
    let x : NodeState g.row.B.Denot = c.args.self.now.state in
    let t : Plan g.row.B.Denot = push g.B.Body.same members me (begun (with_pending_entry (Some c.args.entry) x)) in
    subst (λ (r : Result (Outcome g.row.B.Denot) NodeFault). Answered me members x false false t r) (sym c.added_to.ensures.value)
    (with_entry c.args.entry (settle me t).disagrees (λ (o : Outcome g.row.B.Denot). Settled me members x t o) c.plan_pending-planned.result
    c.plan_pending-planned.ensures)
