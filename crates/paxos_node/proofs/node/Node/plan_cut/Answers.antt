use Rattle.std.proofs.Common.{◌≡◌, Bool, true, false, ap, ◌∙◌, refl, subst, rules}
use Rattle.std.specs.Prelude.{IfOk, IsOkUnless}
use Rattle.paxos_packets.specs.Snapshot.{snapshot_of}
use Rattle.paxos_node.specs.declared.event.Event.{Event}
use Rattle.paxos_node.specs.declared.event.Event.TheVariants.{Cut}
use Rattle.paxos_node.specs.declared.fault.NodeFault.TheVariants.{Memory}
use Rattle.paxos_planning.specs.Node.{NodeState, log_length}
use Rattle.paxos_node.specs.Adopting.{Planned}
use Rattle.paxos_node.specs.Events.{outcome_of}
use Rattle.paxos_node.specs.Plans.{plans, unchanged}
use Rattle.paxos_node.proofs.Answering.{answers_ok, cut_memory, nothing_memory, nothing_ok}
use Rattle.paxos_node.proofs.node.Node.plan_cut.Goals as goal

pub returns-clause-planned : goal.returns-clause-planned
returns-clause-planned g c =
    let x : NodeState g.row.B.Denot = c.args.self.now.state in
    let e : Event g.row.B.Denot = Cut c.me.result c.in-Ok-of.snapshot in
    let copied : c.extend_from_slice.new.self.items ≡ c.args.octets.now = search rules in
    let same : e ≡ Cut c.args.self.now.me (snapshot_of c.args.octets.now) =
    (λ i. Cut (c.me.ensures i) ((c.in-Ok-of.ensures ∙ ap snapshot_of copied) i)) in
    subst
    (λ (f : Event g.row.B.Denot). plans c.args.self.now.me f x ≡ true → IfOk c.plan.result (λ o. Planned g.B.Body.same c.args.self.now.members f x o))
    same
    (λ own. answers_ok false false (outcome_of g.B.Body.same c.args.self.now.members e x).disagrees
    (λ o. Planned g.B.Body.same c.args.self.now.members e x o) c.plan.result (c.plan.ensures.planned own))

pub returns-clause-nothing : goal.returns-clause-nothing
returns-clause-nothing g c =
    let x : NodeState g.row.B.Denot = c.args.self.now.state in
    let e : Event g.row.B.Denot = Cut c.me.result c.in-Ok-of.snapshot in
    let copied : c.extend_from_slice.new.self.items ≡ c.args.octets.now = search rules in
    let same : e ≡ Cut c.args.self.now.me (snapshot_of c.args.octets.now) =
    (λ i. Cut (c.me.ensures i) ((c.in-Ok-of.ensures ∙ ap snapshot_of copied) i)) in
    subst (λ (f : Event g.row.B.Denot). plans c.args.self.now.me f x ≡ false → IfOk c.plan.result (λ o. o ≡ unchanged (log_length x))) same
    (λ other. nothing_ok c.plan.result (unchanged (log_length x)) (c.plan.ensures.nothing other))

pub returns-clause-memory : goal.returns-clause-memory
returns-clause-memory g c = go (plans c.args.self.now.me (Cut c.me.result c.in-Ok-of.snapshot) c.args.self.now.state) refl
  where
    go : (b : Bool) → plans c.args.self.now.me (Cut c.me.result c.in-Ok-of.snapshot) c.args.self.now.state ≡ b → IsOkUnless c.plan.result Memory
    go true p =
        cut_memory c.me.result c.in-Ok-of.snapshot c.args.self.now.state
        (λ o. Planned g.B.Body.same c.args.self.now.members (Cut c.me.result c.in-Ok-of.snapshot) c.args.self.now.state o) c.plan.result
        (c.plan.ensures.planned p)
    go false p = nothing_memory c.plan.result (unchanged (log_length c.args.self.now.state)) (c.plan.ensures.nothing p)
