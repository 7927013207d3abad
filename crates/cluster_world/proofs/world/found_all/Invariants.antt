-- The members that are put in so far, for the machines that were taken out so far.
use Rattle.std.proofs.Common.{◌≡◌, ◌≤◌, ◌++◌, length, vec_len, vec_capacity}
use Rattle.replica_machine.specs.Log.{machine_from}
use Rattle.cluster_world.specs.Founding.{AreFounded, AllFollow}
use Rattle.cluster_world.specs.StandsAt.{HaveContent}
use Rattle.cluster_world.proofs.world.found_all.Given as goal

abbrev pub invariant-loop-machine : goal.invariant-loop-machine
invariant-loop-machine g l =
    AreFounded l.fn.members l.list.items l.made.items
    × (length l.list.items ≡ length l.yielded)
    × (vec_len l.made ≡ length l.yielded)
    × (l.fn.members ≤ vec_capacity l.list)
    × (l.fn.members ≤ vec_capacity l.made)
    × (l.yielded ++ l.machine-iterator.rest.items ≡ l.fn.machines.items)
    × ((first : g.M.Machine.Content) → HaveContent g.M.Machine.content first l.fn.machines.items
    → AllFollow g.M.Machine.content (machine_from g.M.Machine.steps first) l.list.items)
