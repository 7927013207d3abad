use Rattle.std.proofs.Common.{◌≡◌}
use Rattle.std.specs.Vec.Iter.{into_iter_items}
use Rattle.paxos_learner.specs.Hearing.{hear_all, HasRoomFor}
use Rattle.paxos_learner.proofs.room.hear_in_room.Given as goal

abbrev pub invariant-loop-one : goal.invariant-loop-one
invariant-loop-one g l =
    (hear_all (into_iter_items l.one-iterator) l.learner.state ≡ hear_all l.fn.news.items l.initial.learner.state)
    × HasRoomFor (into_iter_items l.one-iterator) l.learner
