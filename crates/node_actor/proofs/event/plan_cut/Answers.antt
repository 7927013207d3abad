-- What is saved of the log is what the node is to rest on.
use Rattle.std.proofs.Common.{◌≡◌, ◌∙◌, List, ℕ, subst}
use Rattle.std.specs.Prelude.{IfOk, IfSome, is_some}
use Rattle.paxos_packets.specs.Snapshot.{snapshot_of}
use Rattle.paxos_node.specs.Adopting.{Planned}
use Rattle.paxos_node.specs.Snapshots.{may_cut}
use Rattle.paxos_node.specs.declared.event.Event.TheVariants.{Cut}
use Rattle.node_actor.proofs.Cutting.{on_ok_still, saves_log, loads_back}
use Rattle.node_actor.proofs.event.plan_cut.Goals as goal

pub returns-clause-planned : goal.returns-clause-planned
returns-clause-planned g c =
    subst (λ (os : List ℕ). IfOk c.plan_cut-planned.result (λ plan. IfSome plan (λ outcome. Planned g.M.Body.Body.same c.args.parts.now.node.members
    (Cut c.args.parts.now.node.me (snapshot_of os)) c.args.parts.now.node.state outcome))) (c.deref.ensures.value ∙ c.in-Ok.ensures.octets)
    c.plan_cut-planned.ensures.planned

pub returns-clause-exactly : goal.returns-clause-exactly
returns-clause-exactly g c =
    subst (λ (os : List ℕ). IfOk c.plan_cut-planned.result (λ plan. is_some plan ≡ may_cut (snapshot_of os) c.args.parts.now.node.state))
    (c.deref.ensures.value ∙ c.in-Ok.ensures.octets) c.plan_cut-planned.ensures.exactly

pub returns-clause-rests : goal.returns-clause-rests
returns-clause-rests g c =
    subst (λ (os : List ℕ). IfOk c.plan_cut-planned.result (λ plan. IfSome plan (λ outcome. outcome.change.snapshot ≡ snapshot_of os)))
    (c.deref.ensures.value ∙ c.in-Ok.ensures.octets) c.plan_cut-planned.ensures.rests

pub returns-clause-brings : goal.returns-clause-brings
returns-clause-brings g c = λ first under l given within.
    on_ok_still c.plan_cut-planned.result _
    (saves_log g.M.Machine.steps g.M.Machine.content g.M.Machine.saved g.M.Machine.loaded first under c.args.parts.now.log l c.in-Ok.octets.items
    c.in-Ok.ensures.octets (c.in-Ok.ensures.only first under l given within))

pub returns-clause-loads : goal.returns-clause-loads
returns-clause-loads g c = λ first under l sound given within.
    on_ok_still c.plan_cut-planned.result _
    (loads_back g.M.Machine.content g.M.Machine.saved g.M.Machine.loaded c.args.parts.now.log c.in-Ok.octets.items c.in-Ok.ensures.octets
    (c.in-Ok.ensures.back first under l sound given within))
