use Rattle.std.proofs.Common.{◌≡◌, vec_len}
use Rattle.core_tests.specs.Machines.{AllNew}
use Rattle.core_tests.proofs.random_worlds.new_machines.Given as goal

abbrev pub invariant-loop-turn : goal.invariant-loop-turn
invariant-loop-turn g l = (vec_len l.machines ≡ l._turn) × AllNew l.machines.items
