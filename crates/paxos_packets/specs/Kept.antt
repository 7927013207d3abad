-- What callers see of votes that are kept with room for more.
use Rattle.std.specs.Prelude.{ℕ, List}
use Rattle.paxos_packets.specs.declared.vote.Vote.{Vote}

pub record Roomy (B : Type 0) : Type 0 where
  -- by ascending slot, at most one in each
  pub votes : List (Vote B)
  -- for how many more there is room
  pub room : ℕ
