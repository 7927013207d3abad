-- Which changes have a place over the numbers that a store has.
use Rattle.std.specs.Prelude.{ℕ, Bool, false, ◌&&◌, ◌||◌, not, nat_lt, Option, Some, None, option_and_then, if◌then◌else◌}
use Rattle.std.specs.List.{list_all}
use Rattle.paxos_packets.specs.Ballot.{below}
use Rattle.paxos_packets.specs.Snapshot.{Snapshot, floor_at}
use Rattle.paxos_packets.specs.declared.ballot.Ballot.{Ballot}
use Rattle.paxos_packets.specs.declared.vote.Vote.{Vote}
use Rattle.paxos_packets.specs.declared.rows.Change.{Change}
use Rattle.store_rows.specs.declared.rows.Numbers.{Numbers}
use Rattle.store_rows.specs.Numbers.{is_ballot}
use Rattle.store_rows.specs.Rows.{is_number, is_promised}

-- a vote that may be held under this promise, above this floor
abbrev pub is_placed : {B : Type 0} → Option Ballot → ℕ → Vote B → Bool
is_placed promised floor v = is_ballot v.ballot && (is_promised promised v.ballot && nat_lt floor v.slot)

-- the ballot is below the promise
abbrev pub is_lower : Ballot → Option Ballot → Bool
is_lower b None = false
is_lower b (Some p) = below b p

-- the promise after a change, if that lowers none
abbrev pub promise_after : Option Ballot → Option Ballot → Option (Option Ballot)
promise_after promised None = Some promised
promise_after promised (Some b) = if not (is_ballot b) || is_lower b promised then None else Some (Some b)

-- the floor after a change, if that neither lowers nor repeats it: a new snapshot begins with its floor
abbrev pub floor_after : ℕ → Option Snapshot → Option ℕ
floor_after floor None = Some floor
floor_after floor (Some s) = if nat_lt floor s.floor && is_number s.floor (floor_at s.octets) then Some s.floor else None

-- the numbers after a change, if that lowers no promise, neither lowers nor repeats the floor, and has no vote above the promise, or at or
-- below the floor
abbrev pub numbers_after : {B : Type 0} → Numbers → Change B → Option Numbers
numbers_after known change =
    option_and_then (λ floor.
    option_and_then (λ promised. if not (list_all (is_placed promised floor) change.votes) then None
    else Some (record { boot = known.boot; promised = promised; floor = floor })) (promise_after known.promised change.promised))
    (floor_after known.floor change.snapshot)
