use Rattle.std.proofs.Common.{◌≡◌}
use Rattle.script_program.specs.Line.{all_nodes}
use Rattle.script_program.proofs.lines.line.all_nodes.Given as goal

abbrev pub invariant-loop-below : goal.invariant-loop-below
invariant-loop-below l = l.set ≡ all_nodes l.below
