-- The rows of a node, its starts, and what one event adds to them.
use Rattle.std.specs.Prelude.{◌≡◌, ℕ, suc, Option, Some, None, List, [], ◌∷◌}
use Rattle.paxos_packets.specs.declared.ballot.Ballot.{Ballot}
use Rattle.paxos_packets.specs.declared.rows.Change.{Change}
use Rattle.paxos_packets.specs.declared.rows.Rows.{Rows}
use Rattle.paxos_packets.specs.declared.vote.Vote.{Vote}
use Rattle.paxos_packets.specs.Snapshot.{Snapshot}
use Rattle.paxos_packets.specs.Vote.{votes_from}

-- the greatest boot number
unfoldable pub last_boot : ℕ
last_boot = 281474976710655

-- rows after this many starts, in which nothing is committed yet, and those of the first start
abbrev pub bare_rows : {B : Type 0} → ℕ → Rows B
bare_rows boot = record { boot = boot; promised = None; snapshot = None; votes = [] }

abbrev pub first_rows : {B : Type 0} → Rows B
first_rows = bare_rows 1

-- the rows after one start more
abbrev pub raised : {B : Type 0} → Rows B → Rows B
raised rows = record rows { boot = suc rows.boot }

-- changes: nothing, a promise, a vote together with its promise, a snapshot
abbrev pub no_change : {B : Type 0} → Change B
no_change = record { promised = None; snapshot = None; votes = [] }

abbrev pub promise_change : {B : Type 0} → Ballot → Change B
promise_change {B} b = record (no_change {B = B}) { promised = Some b }

abbrev pub vote_change : {B : Type 0} → Vote B → Change B
vote_change {B} v = record (no_change {B = B}) { promised = Some v.ballot; votes = v ∷ [] }

abbrev pub snapshot_change : {B : Type 0} → Snapshot → Change B
snapshot_change {B} s = record (no_change {B = B}) { snapshot = Some s }

-- the votes that are left with a snapshot: those above its floor
abbrev pub kept_votes : {B : Type 0} → Option Snapshot → List (Vote B) → List (Vote B)
kept_votes None votes = votes
kept_votes (Some s) votes = votes_from (suc s.floor) votes

-- rows are equal if their parts are
pub rows_equal : {B : Type 0} (x y : Rows B) → x.boot ≡ y.boot → x.promised ≡ y.promised → x.snapshot ≡ y.snapshot → x.votes ≡ y.votes
    → x ≡ y
rows_equal x y boots promises snapshots votes =
    λ i. record { boot = boots i; promised = promises i; snapshot = snapshots i; votes = votes i }
