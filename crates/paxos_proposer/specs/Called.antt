-- What a promise calls for that makes a member lead, as callers see it (Lamport 2001, section 2.2, phase 2 (a)).
use Rattle.std.specs.Prelude.{ℕ, Option, option_map, List}
use Rattle.paxos_packets.specs.declared.ballot.Ballot.{Ballot}
use Rattle.paxos_packets.specs.declared.entry.Entry.{Entry}
use Rattle.paxos_packets.specs.declared.vote.Vote.{Vote}
use Rattle.paxos_proposer.specs.Reports.{best}

-- the ballot, the slot from which on it is led, and all votes that were reported
pub record CalledFor (B : Type 0) : Type 0 where
  pub ballot : Ballot
  pub first : ℕ
  pub votes : List (Vote B)

-- the entry that was reported for the slot with the greatest ballot
abbrev pub called_at : {B : Type 0} → ℕ → List (Vote B) → Option (Entry B)
called_at slot votes = option_map (λ v. v.entry) (best slot votes)
