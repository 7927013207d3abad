use Rattle.std.proofs.Common.{◌≤◌, ◌∙◌, Ok, ap, sym, arith}
use Rattle.std.proofs.lemmas.Result.{err_from_is_err_and}
use Rattle.cluster_world.specs.Saving.{played_of}
use Rattle.cluster_world.specs.World.{node_at}
use Rattle.paxos_packets.specs.Snapshot.{floor_in}
use Rattle.paxos_node.specs.Applying.{base}
use Rattle.replica_machine.specs.Log.{machine_from}
use Rattle.script_program.proofs.Nodes.{under_floor, text_by, text_down, text_up, below_long, below_stands}
use Rattle.script_program.proofs.Pages.{prints_part, prints_same, prints_then}
use Rattle.script_program.proofs.text.world.print_node.Goals as goal

pub returns-in_err-print_first : goal.returns-in_err-print_first
returns-in_err-print_first g c = λ first es stands.
    let p = err_from_is_err_and c.from_residual.result c.from_residual.ensures.1 in
    let v = played_of g.M.Machine.saved (machine_from g.M.Machine.steps first) g.M.Body.Body.same c.args.world.now.members es in
    rw (p.1, p.2) (prints_part c.in_err-print_first.field-0.0 _ _ _ _ _ _ _ (text_by v c.args.node c.is_up-is_up.result (c.is_up-is_up.ensures first es stands))
    c.in_err-print_first.ensures)

pub returns-then-not-is_up : goal.returns-then-not-is_up
returns-then-not-is_up g c = λ first es stands.
    let v = played_of g.M.Machine.saved (machine_from g.M.Machine.steps first) g.M.Body.Body.same c.args.world.now.members es in
    prints_same (Ok tt) _ _ _ _ _ _ (text_down v c.args.node c.is_up-is_up.result c.if-not-is_up.true (c.is_up-is_up.ensures first es stands))
    c.in_ok-print_first.ensures

pub returns : goal.returns
returns g c = λ first es stands.
    let m = machine_from g.M.Machine.steps first in
    let members = c.args.world.now.members in
    let v = played_of g.M.Machine.saved m g.M.Body.Body.same members es in
    let many : 3 ≤ c.args.world.now.members = omega (arith, c.requires.members, c.count.ensures.value, c.count.ensures.least) in
    let few : c.args.world.now.members ≤ 7 = omega (arith, c.requires.members, c.count.ensures.value, c.count.ensures.most) in
    let floor_is = c.floor.ensures.value ∙ ap (λ ns. floor_in (node_at ns c.args.node).rows.snapshot) stands.shows.nodes in
    let log_is = c.log.ensures ∙ ap (λ ns. (node_at ns c.args.node).applied) stands.shows.nodes in
    prints_same c.print_log.result _ _ _ _ _ _
    (text_up v c.args.node c.is_up-is_up.result c.floor.result c.log.result.now c.if-not-is_up.false (c.is_up-is_up.ensures first es stands) floor_is log_is)
    (prints_then _ _ _ _ _ _ c.in_ok-print_first.ensures c.print_log.result _ _
    (c.print_log.ensures (under_floor v c.args.node)
    (below_long g.M.Body.Body.same c.cuts_are_logs.ensures.nodes g.M.Machine.saved m members many few es c.args.node ∙ sym floor_is)
    (λ k l. c.standings.ensures k l ∙ ap (λ ns. base (node_at ns c.args.node).rows k) stands.shows.nodes
    ∙ below_stands g.M.Body.Body.same c.cuts_are_logs.ensures.nodes g.M.Machine.saved m members many few es c.args.node k)))
