-- What a member does as a proposer (Lamport 2001, sections 2.2 and 3).
use Rattle.std.specs.Prelude.{ℕ, List}
use Rattle.paxos_packets.specs.declared.ballot.Ballot.{Ballot}
use Rattle.paxos_packets.specs.declared.vote.Vote.{Vote}
use Rattle.paxos_proposer.specs.declared.promises.CountedPromise.{CountedPromise}

pub data Role (B : Type 0) : Type 0 where
  -- it has no ballot under way
  Idle : Role B
  -- it asked for promises of the ballot from the slot `first` on, and counts them
  Preparing : (ballot : Ballot) (first : ℕ) (promises : List (CountedPromise B)) → Role B
  -- a majority has promised the ballot; it has proposed these votes, and proposes in the slot `next` next
  Leading : (ballot : Ballot) (next : ℕ) (proposed : List (Vote B)) → Role B

-- one member as a proposer, which is lost in a crash: its role, and the greatest round that was seen
pub record ProposerState (B : Type 0) : Type 0 where
  pub role : Role B
  pub seen : ℕ
