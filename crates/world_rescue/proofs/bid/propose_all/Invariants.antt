use Rattle.std.proofs.Common.{◌≡◌}
use Rattle.std.specs.Vec.Iter.{into_iter_items}
use Rattle.paxos_proposer.specs.State.{role_in, with_role}
use Rattle.world_rescue.specs.Course.{propose_all}
use Rattle.world_rescue.proofs.bid.propose_all.Given as goal

-- the rest gives what the whole gives
abbrev pub invariant-loop-entry : goal.invariant-loop-entry
invariant-loop-entry g l =
    with_role (propose_all (into_iter_items l.entry-iterator) (role_in l.proposer)) l.proposer.state
    ≡ with_role (propose_all l.fn.entries (role_in l.initial.proposer)) l.initial.proposer.state
