use Rattle.std.proofs.Common.{◌≡◌}
use Rattle.std.specs.Vec.Iter.{into_iter_items}
use Rattle.paxos_proposer.specs.Moves.{after_moves, ArePossible, promises_in, proposals_in}
use Rattle.paxos_proposer.specs.State.{HasRoom}
use Rattle.paxos_proposer.proofs.moves.do_all.Given as goal

abbrev pub invariant-loop-step : goal.invariant-loop-step
invariant-loop-step g l =
    (after_moves (into_iter_items l.step-iterator) l.proposer.state ≡ after_moves l.fn.moves.items l.initial.proposer.state)
    × ArePossible (into_iter_items l.step-iterator) l.proposer.state
    × HasRoom (promises_in (into_iter_items l.step-iterator)) (proposals_in (into_iter_items l.step-iterator)) l.proposer.room
