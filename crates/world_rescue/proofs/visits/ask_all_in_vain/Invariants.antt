use Rattle.std.proofs.Common.{◌≡◌, ◌++◌, max, drop}
use Rattle.std.specs.Prelude.{fold, map}
use Rattle.std.specs.List.{flat_map}
use Rattle.world_rescue.specs.Course.{seat_of, asked_in_vain, refused_round, seen_then}
use Rattle.world_rescue.proofs.visits.ask_all_in_vain.Given as goal

-- the rest gives what the whole gives
abbrev pub invariant-loop-helper : goal.invariant-loop-helper
invariant-loop-helper g l =
    (l.events.items ++ flat_map (asked_in_vain l.ballot l.first) (map (λ h. seat_of h.now) (drop l.helper-index l.helpers))
    ≡ l.initial.events.items ++ flat_map (asked_in_vain l.ballot l.first) (map (λ h. seat_of h.now) l.helpers))
    × (fold (λ r s. max r (refused_round l.ballot s.node.rows.promised)) l.seen (map (λ h. seat_of h.now) (drop l.helper-index l.helpers))
    ≡ seen_then l.ballot (map (λ h. seat_of h.now) l.helpers))
