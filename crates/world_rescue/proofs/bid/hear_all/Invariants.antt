use Rattle.std.proofs.Common.{◌≡◌, ◌++◌, drop}
use Rattle.std.specs.Prelude.{fold, map}
use Rattle.std.specs.List.{flat_map}
use Rattle.paxos_proposer.specs.State.{role_in, with_role}
use Rattle.world_rescue.specs.Course.{seat_of, floor_of, promises, hears, votes_then}
use Rattle.world_rescue.proofs.bid.hear_all.Given as goal

-- the rest gives what the whole gives
abbrev pub invariant-loop-helper : goal.invariant-loop-helper
invariant-loop-helper g l =
    (l.events.items ++ flat_map (promises l.ballot l.bid.first l.bid.cast.now) (map (λ h. seat_of h.now) (drop l.helper-index l.helpers))
    ≡ l.initial.events.items ++ flat_map (promises l.ballot l.bid.first l.bid.cast.now) (map (λ h. seat_of h.now) l.helpers))
    × (with_role (fold (λ r s. hears g.B.Body.same l.proposer.state.members l.bid.applied l.bid.pending.now l.ballot s.number
    (floor_of s) (votes_then l.bid.first l.bid.cast.now s) l.bid.floor r) (role_in l.proposer) (map (λ h. seat_of h.now) (drop l.helper-index l.helpers))) l.proposer.state
    ≡ with_role (fold (λ r s. hears g.B.Body.same l.initial.proposer.state.members l.bid.applied l.bid.pending.now l.ballot s.number
    (floor_of s) (votes_then l.bid.first l.bid.cast.now s) l.bid.floor r) (role_in l.initial.proposer) (map (λ h. seat_of h.now) l.helpers)) l.initial.proposer.state)
