-- What an event does to the proposer, the learner and the pending entries of a node.
use Rattle.std.specs.Prelude.{ℕ, Bool, Option, List}
use Rattle.paxos_packets.specs.declared.entry.Entry.{Entry}
use Rattle.paxos_proposer.specs.declared.moves.Move.{Move}
use Rattle.paxos_learner.specs.declared.hearing.News.{News}

pub record Moved (B : Type 0) : Type 0 where
  pub proposer : List (Move B)
  pub news : List (News B)
  -- the entry that becomes pending
  pub added : Option (Entry B)
  -- whether the snapshot that it commits came in a packet
  pub over : Bool
  -- how many of the first pending entries stand after it
  pub front : ℕ
  -- the length of the log after it, or 0 if the node is down
  pub log : ℕ
