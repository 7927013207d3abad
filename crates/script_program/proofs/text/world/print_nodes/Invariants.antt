use Rattle.std.proofs.Common.{List}
use Rattle.paxos_node.specs.declared.event.Event.{Event}
use Rattle.replica_machine.specs.Log.{machine_from}
use Rattle.cluster_world.specs.Saving.{played_of}
use Rattle.cluster_world.specs.StandsAt.{StandsAt}
use Rattle.script_program.proofs.Nodes.{NodesLeft}
use Rattle.script_program.proofs.text.world.print_nodes.Given as goal

abbrev pub invariant-loop-below : goal.invariant-loop-below
invariant-loop-below g l =
    (first : g.M.Machine.Content) (es : List (Event _)) →
    StandsAt g.M.Body.Body.same g.M.Machine.content g.M.Machine.saved g.M.Machine.loaded (machine_from g.M.Machine.steps first) l.world es →
    NodesLeft (played_of g.M.Machine.saved (machine_from g.M.Machine.steps first) g.M.Body.Body.same l.world.members es) l.fn.members l.below
    (g.W.Write.contents l.fn.writer) (g.W.Write.contents l.writer) l.fn.out.items l.out.items
