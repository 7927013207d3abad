-- More votes among a node's votes from a slot on.
use Rattle.std.specs.Prelude.{ℕ, List, nat_lt, fold, if◌then◌else◌}
use Rattle.paxos_packets.specs.Vote.{put_vote}
use Rattle.paxos_packets.specs.declared.vote.Vote.{Vote}

abbrev pub put_from : {B : Type 0} → ℕ → Vote B → List (Vote B) → List (Vote B)
put_from first v votes = if nat_lt v.slot first then votes else put_vote v votes

-- each of them, one after the other
abbrev pub put_each_from : {B : Type 0} → ℕ → List (Vote B) → List (Vote B) → List (Vote B)
put_each_from first vs votes = fold (λ us v. put_from first v us) votes vs
