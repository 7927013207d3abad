use Rattle.std.proofs.Common.{◌≡◌, drop}
use Rattle.std.specs.List.{fold}
use Rattle.core_tests.proofs.machine.follow.Given as goal

-- what is left leads from here to where all of it leads
abbrev pub invariant-loop-input : goal.invariant-loop-input
invariant-loop-input g l =
    let m = g.M.Machine in
    fold m.steps.next (m.content l.machine) (drop l.input-index l.inputs) ≡ fold m.steps.next (m.content l.fn.machine) l.inputs
