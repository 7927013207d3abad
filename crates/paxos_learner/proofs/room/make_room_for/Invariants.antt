use Rattle.std.proofs.Common.{◌≡◌, drop}
use Rattle.paxos_learner.specs.Hearing.{HavePlaces}
use Rattle.paxos_learner.specs.Learner.{Held, KeepsRoom}
use Rattle.paxos_learner.proofs.room.make_room_for.Given as goal

-- if the rest has places, and none is lost, the whole has places
abbrev pub invariant-loop-one : goal.invariant-loop-one
invariant-loop-one g l =
    (l.learner.state ≡ l.initial.learner.state)
    × ((later : Held g.row.B.Denot) → KeepsRoom l.learner later → HavePlaces (drop l.one-index l.news) later → HavePlaces l.news later)
