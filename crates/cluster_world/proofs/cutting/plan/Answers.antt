-- The octets are those of the machine's log.
use Rattle.std.proofs.Common.{◌≡◌, ap, ◌∙◌, subst, ◌++◌}
use Rattle.std.specs.Prelude.{is_some, IfOk, IfSome, Option}
use Rattle.paxos_packets.specs.Snapshot.{Snapshot, snapshot_of}
use Rattle.paxos_node.specs.declared.event.Event.TheVariants.{Cut}
use Rattle.paxos_node.specs.Adopting.{Planned}
use Rattle.paxos_node.specs.Snapshots.{may_cut}
use Rattle.replica_machine.specs.Log.{machine_from}
use Rattle.replica_machine.specs.Snapshot.{kept_after}
use Rattle.replica_follower.specs.Following.{LoadsAs}
use Rattle.world_nodes.specs.Nodes.{node_of}
use Rattle.cluster_world.proofs.MemberTakes.{if_ok}
use Rattle.cluster_world.proofs.cutting.plan.Goals as goal

pub returns-clause-planned : goal.returns-clause-planned
returns-clause-planned g c =
    subst (λ (s : Option Snapshot). IfOk c.plan_cut-planned.result (λ plan. IfSome plan (λ o. Planned g.M.Body.Body.same c.args.node.now.members
    (Cut c.args.node.now.me s) (node_of c.args.node.now) o)))
    (ap (λ octets. snapshot_of octets) (c.deref.ensures.value ∙ c.in-Ok.ensures.octets)) c.plan_cut-planned.ensures.planned

pub returns-clause-refused : goal.returns-clause-refused
returns-clause-refused g c =
    subst (λ (s : Option Snapshot). IfOk c.plan_cut-planned.result (λ plan. is_some plan ≡ may_cut s (node_of c.args.node.now)))
    (ap (λ octets. snapshot_of octets) (c.deref.ensures.value ∙ c.in-Ok.ensures.octets)) c.plan_cut-planned.ensures.refused

pub returns-clause-loads : goal.returns-clause-loads
returns-clause-loads g c = λ first under follows given short.
    if_ok c.plan_cut-planned.result
    (subst
    (λ octets. LoadsAs g.M.Machine.loaded (kept_after (machine_from g.M.Machine.steps first) (under ++ c.args.follower.now.log.applied)) octets)
    (c.in-Ok.ensures.keeps first under follows) (c.in-Ok.ensures.loads first under follows given short))
