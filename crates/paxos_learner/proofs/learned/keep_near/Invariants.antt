use Rattle.std.proofs.Common.{◌≡◌, ◌+◌, length}
use Rattle.paxos_learner.specs.Learned.{placed, all_places, shelf_of, AreRising, KeepsPlaces}
use Rattle.paxos_learner.proofs.learned.keep_near.Given as goal

abbrev pub invariant-loop-last : goal.invariant-loop-last
invariant-loop-last g l =
    AreRising (l.floor + length l.run.items) l.ahead.entries
    × (placed (all_places l.floor l.run.items l.ahead.entries) ≡ placed (all_places l.floor l.fn.run.items l.fn.ahead.entries))
    × KeepsPlaces (shelf_of l.floor l.fn.run.items l.fn.ahead.entries) (shelf_of l.floor l.run.items l.ahead.entries)
    × (l.floor + length l.run.items ≡ l.last)
