use Rattle.std.proofs.Common.{◌≡◌, drop}
use Rattle.paxos_proposer.specs.State.{role_in, with_role}
use Rattle.world_rescue.specs.Course.{propose_new}
use Rattle.world_rescue.proofs.bid.propose_new.Given as goal

-- the rest gives what the whole gives
abbrev pub invariant-loop-entry : goal.invariant-loop-entry
invariant-loop-entry g l =
    with_role (propose_new g.B.Body.same l.applied (drop l.entry-index l.entries) (role_in l.proposer)) l.proposer.state
    ≡ with_role (propose_new g.B.Body.same l.applied l.entries (role_in l.initial.proposer)) l.initial.proposer.state
