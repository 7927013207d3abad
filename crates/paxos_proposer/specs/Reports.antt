-- What the promises of a majority report, and which entries a new leader has to propose for that (Lamport 2001, section 2.2,
-- phase 2 (a), and section 3: a gap is filled by a Noop).
use Rattle.std.specs.Prelude.{ℕ, zero, suc, ◌-◌, max, Bool, ◌&&◌, ◌==◌, Option, Some, None, List, [], ◌∷◌, if◌then◌else◌}
use Rattle.std.specs.List.{list_any, flat_map}
use Rattle.paxos_packets.specs.Ballot.{below}
use Rattle.paxos_packets.specs.declared.entry.Entry.{Entry}
use Rattle.paxos_packets.specs.declared.entry.Entry.TheVariants.{Noop}
use Rattle.paxos_packets.specs.declared.vote.Vote.{Vote}
use Rattle.paxos_proposer.specs.declared.promises.CountedPromise.{CountedPromise}

-- a promise of this node was counted
abbrev pub is_counted : {B : Type 0} → List (CountedPromise B) → ℕ → Bool
is_counted promises node = list_any (λ c. c.node == node) promises

-- all votes that were reported
abbrev pub reports : {B : Type 0} → List (CountedPromise B) → List (Vote B)
reports promises = flat_map (λ c. c.votes) promises

-- the vote for the slot with the greatest ballot
abbrev pub better : {B : Type 0} → ℕ → Vote B → Option (Vote B) → Option (Vote B)
better slot v None = if v.slot == slot then Some v else None
better slot v (Some w) = if (v.slot == slot) && below w.ballot v.ballot then Some v else Some w

abbrev pub best : {B : Type 0} → ℕ → List (Vote B) → Option (Vote B)
best slot [] = None
best slot (v ∷ vs) = better slot v (best slot vs)

-- of an earlier report and a later one the one with the greater ballot, and of one ballot the later
abbrev pub greater : {B : Type 0} → Option (Vote B) → Option (Vote B) → Option (Vote B)
greater None later = later
greater (Some v) None = Some v
greater (Some v) (Some w) = if below w.ballot v.ballot then Some v else Some w

-- one past the greatest slot reported, and at least the first one asked for
abbrev pub past_reports : {B : Type 0} → ℕ → List (Vote B) → ℕ
past_reports first [] = first
past_reports first (v ∷ vs) = max (suc v.slot) (past_reports first vs)

abbrev pub entry_or_noop : {B : Type 0} → Option (Vote B) → Entry B
entry_or_noop None = Noop
entry_or_noop (Some v) = v.entry

-- the entries of this many slots, from this one on
abbrev pub called_in : {B : Type 0} → List (Vote B) → ℕ → ℕ → List (Entry B)
called_in votes slot zero = []
called_in votes slot (suc n) = entry_or_noop (best slot votes) ∷ called_in votes (suc slot) n

-- from the first slot to the greatest one reported
abbrev pub called_for : {B : Type 0} → ℕ → List (Vote B) → List (Entry B)
called_for first votes = called_in votes first (past_reports first votes - first)
