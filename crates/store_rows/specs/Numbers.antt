-- The numbers that a store keeps beside the votes, and their ranges.
use Rattle.std.specs.Prelude.{Bool, true, ◌&&◌, nat_le, Option, Some, None}
use Rattle.paxos_packets.specs.Snapshot.{floor_in}
use Rattle.paxos_packets.specs.declared.ballot.Ballot.{Ballot}
use Rattle.paxos_packets.specs.declared.rows.Rows.{Rows}
use Rattle.store_rows.specs.declared.rows.Numbers.{Numbers}

abbrev pub numbers_in_rows : {B : Type 0} → Rows B → Numbers
numbers_in_rows rows = record { boot = rows.boot; promised = rows.promised; floor = floor_in rows.snapshot }

-- a round from 1 to 2^48 - 1, and a node from 1 to 7
abbrev pub is_ballot : Ballot → Bool
is_ballot b = nat_le 1 b.round && nat_le b.round 281474976710655 && (nat_le 1 b.node && nat_le b.node 7)

abbrev pub is_promise : Option Ballot → Bool
is_promise None = true
is_promise (Some b) = is_ballot b

-- the boot number and the promise are within their ranges
abbrev pub are_numbers : Numbers → Bool
are_numbers numbers = nat_le numbers.boot 281474976710655 && is_promise numbers.promised
