-- What is planned is what the event does; what is refused does nothing.
use Rattle.std.proofs.Common.{◌≡◌, ◌∙◌, ◌++◌, sym, ap, subst}
use Rattle.std.proofs.lemmas.Result.{on_ok_weaker}
use Rattle.std.specs.Prelude.{IfSome}
use Rattle.paxos_packets.specs.declared.rows.Change.{Change}
use Rattle.paxos_node.specs.Adopting.{Planned}
use Rattle.paxos_node.specs.Events.{outcome_of}
use Rattle.replica_machine.specs.Log.{machine_from}
use Rattle.replica_follower.specs.Following.{Follows, handed_to}
use Rattle.replica_follower.specs.Handed.{said_in}
use Rattle.world_nodes.specs.Nodes.{node_of}
use Rattle.cluster_world.specs.MemberSnapshots.{base_of, above_of, Brings}
use Rattle.cluster_world.proofs.Attending.{node_planned}
use Rattle.cluster_world.proofs.member.do_event_at.Goals as goal

pub returns-in-Some-clause-node : goal.returns-in-Some-clause-node
returns-in-Some-clause-node g c =
    let planned = subst (λ r. IfSome r (λ o. Planned g.M.Body.Body.same c.args.node.now.members c.args.event.now (node_of c.args.node.now) o))
    c.in-Some.is c.in_ok-outcome.ensures.planned in
    let cut : c.in-Some.outcome.change.snapshot ≡ (outcome_of g.M.Body.Body.same c.args.node.now.members c.args.event.now (node_of c.args.node.now)).change.snapshot =
    ap (λ (z : Change _). z.snapshot) planned.change in
    on_ok_weaker c.carry_out.result
    (λ h. h ∙ node_planned g.M.Body.Body.same c.args.node.now.me c.args.node.now.members c.args.event.now (node_of c.args.node.now) c.in-Some.outcome
    c.requires.plans planned) c.carry_out.ensures.node

pub returns-in-Some-clause-log : goal.returns-in-Some-clause-log
returns-in-Some-clause-log g c =
    let planned = subst (λ r. IfSome r (λ o. Planned g.M.Body.Body.same c.args.node.now.members c.args.event.now (node_of c.args.node.now) o))
    c.in-Some.is c.in_ok-outcome.ensures.planned in
    let cut : c.in-Some.outcome.change.snapshot ≡ (outcome_of g.M.Body.Body.same c.args.node.now.members c.args.event.now (node_of c.args.node.now)).change.snapshot =
    ap (λ (z : Change _). z.snapshot) planned.change in
    on_ok_weaker c.carry_out.result
    (λ h. h ∙ (λ i. above_of (cut i) (node_of c.args.node.now).applied ++ planned.applied i)) c.carry_out.ensures.log

pub returns-in-Some-clause-given_up : goal.returns-in-Some-clause-given_up
returns-in-Some-clause-given_up g c = λ none.
    let planned = subst (λ r. IfSome r (λ o. Planned g.M.Body.Body.same c.args.node.now.members c.args.event.now (node_of c.args.node.now) o))
    c.in-Some.is c.in_ok-outcome.ensures.planned in
    let cut : c.in-Some.outcome.change.snapshot ≡ (outcome_of g.M.Body.Body.same c.args.node.now.members c.args.event.now (node_of c.args.node.now)).change.snapshot =
    ap (λ (z : Change _). z.snapshot) planned.change in
    c.carry_out.ensures.given_up (cut ∙ none)

pub returns-in-Some-clause-follows : goal.returns-in-Some-clause-follows
returns-in-Some-clause-follows g c = λ first under over h b.
    let planned = subst (λ r. IfSome r (λ o. Planned g.M.Body.Body.same c.args.node.now.members c.args.event.now (node_of c.args.node.now) o))
    c.in-Some.is c.in_ok-outcome.ensures.planned in
    let cut : c.in-Some.outcome.change.snapshot ≡ (outcome_of g.M.Body.Body.same c.args.node.now.members c.args.event.now (node_of c.args.node.now)).change.snapshot =
    ap (λ (z : Change _). z.snapshot) planned.change in
    let m = machine_from g.M.Machine.steps first in
    on_ok_weaker c.carry_out.result
    (λ k. subst (λ s. Follows g.M.Machine.content m (base_of s under over) c.carry_out.new.follower) cut k)
    (c.carry_out.ensures.follows first under over h (subst (λ s. Brings g.M.Machine.loaded m over s) (sym cut) b))

pub returns-in-Some-clause-handed : goal.returns-in-Some-clause-handed
returns-in-Some-clause-handed g c = λ first under over h b.
    let planned = subst (λ r. IfSome r (λ o. Planned g.M.Body.Body.same c.args.node.now.members c.args.event.now (node_of c.args.node.now) o))
    c.in-Some.is c.in_ok-outcome.ensures.planned in
    let cut : c.in-Some.outcome.change.snapshot ≡ (outcome_of g.M.Body.Body.same c.args.node.now.members c.args.event.now (node_of c.args.node.now)).change.snapshot =
    ap (λ (z : Change _). z.snapshot) planned.change in
    let node = node_of c.args.node.now in
    let follower = c.args.follower.now in
    let m = machine_from g.M.Machine.steps first in
    on_ok_weaker c.carry_out.result
    (λ d t. d t ∙ (λ i. said_in t follower.told ++ handed_to m t follower.node node.rows.boot
    (base_of (cut i) under over ++ above_of (cut i) node.applied) (planned.applied i)))
    (c.carry_out.ensures.handed first under over h (subst (λ s. Brings g.M.Machine.loaded m over s) (sym cut) b))
