use Rattle.std.proofs.Common.{arith}
use Rattle.std.proofs.lemmas.Result.{err_from_is_err_and}
use Rattle.cluster_world.specs.Saving.{played_of}
use Rattle.replica_machine.specs.Log.{machine_from}
use Rattle.script_program.proofs.Nodes.{nodes_begin, nodes_end, nodes_on, nodes_wrong}
use Rattle.script_program.proofs.text.world.print_nodes.Goals as goal

pub loop-below-init : goal.loop-below-init
loop-below-init g c first es stands =
    nodes_begin (played_of g.M.Machine.saved (machine_from g.M.Machine.steps first) g.M.Body.Body.same c.args.world.now.members es) c.args.members _ _

pub returns-in_err-print_node : goal.returns-in_err-print_node
returns-in_err-print_node g c first es stands =
    let p = err_from_is_err_and c.from_residual.result c.from_residual.ensures.1 in
    let v = played_of g.M.Machine.saved (machine_from g.M.Machine.steps first) g.M.Body.Body.same c.args.world.now.members es in
    rw (p.1, p.2) (nodes_wrong v c.args.members c.loop-below.below _ _ _ _
    (c.loop-below.invariant first es stands) (omega (arith, c.loop-below-test.true, c.count-below-end.ensures.value))
    _ _ c.in_err-print_node.field-0.0 (c.in_err-print_node.ensures first es stands))

pub loop-below-preserved : goal.loop-below-preserved
loop-below-preserved g c first es stands =
    let v = played_of g.M.Machine.saved (machine_from g.M.Machine.steps first) g.M.Body.Body.same c.args.world.now.members es in
    nodes_on v c.args.members c.loop-below.below _ _ _ _
    (c.loop-below.invariant first es stands) (omega (arith, c.loop-below-test.true, c.count-below-end.ensures.value))
    _ _ (c.in_ok-print_node.ensures first es stands)

pub returns : goal.returns
returns g c first es stands =
    let v = played_of g.M.Machine.saved (machine_from g.M.Machine.steps first) g.M.Body.Body.same c.args.world.now.members es in
    nodes_end v c.args.members c.loop-below.below _ _ _ _
    (c.loop-below.invariant first es stands) (omega (arith, c.loop-below-test.false, c.count-below-end.ensures.value))
