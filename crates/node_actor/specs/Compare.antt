-- Rows that a store has again, beside those that a node had.
use Rattle.std.specs.Prelude.{nat_le, nat_lt, Bool, true, false, ◌&&◌, Option, Some, None, if◌then◌else◌}
use Rattle.std.specs.Cmp.Lexicographic.{pointwise}
use Rattle.paxos_packets.specs.Ballot.{same_ballot}
use Rattle.paxos_packets.specs.Snapshot.{same_snapshot}
use Rattle.paxos_packets.specs.Snapshot as taken
use Rattle.paxos_packets.specs.Vote.{same_vote}
use Rattle.paxos_packets.specs.declared.ballot.Ballot.{Ballot}
use Rattle.paxos_packets.specs.declared.rows.Change.{Change}
use Rattle.paxos_packets.specs.declared.rows.Rows.{Rows}
use Rattle.paxos_acceptor.specs.Acceptor as accepting
use Rattle.node_actor.specs.declared.compare.Fit.{Fit}
use Rattle.node_actor.specs.declared.compare.Fit.TheVariants.{Left, Meant, Others}

abbrev pub same_promise : Option Ballot → Option Ballot → Bool
same_promise None None = true
same_promise (Some b) (Some c) = same_ballot b c
same_promise None (Some c) = false
same_promise (Some b) None = false

abbrev pub same_base : Option taken.Snapshot → Option taken.Snapshot → Bool
same_base None None = true
same_base (Some s) (Some t) = same_snapshot s t
same_base None (Some t) = false
same_base (Some s) None = false

-- all but the boot number
abbrev pub same_but_boot : {B : Type 0} → (B → B → Bool) → Rows B → Rows B → Bool
same_but_boot same k r =
    same_promise k.promised r.promised && (same_base k.snapshot r.snapshot && pointwise (same_vote same) k.votes r.votes)

-- rows that are these but for a boot number that is not lower
abbrev pub is_ahead : {B : Type 0} → (B → B → Bool) → Rows B → Rows B → Bool
is_ahead same k r = nat_le k.boot r.boot && same_but_boot same k r

-- rows that are these in a later boot
abbrev pub is_later : {B : Type 0} → (B → B → Bool) → Rows B → Rows B → Bool
is_later same k r = nat_lt k.boot r.boot && same_but_boot same k r

-- `is_ahead` of the rows after a change whose commit failed
abbrev pub is_meant : {B : Type 0} → (B → B → Bool) → Option (Change B) → Rows B → Rows B → Bool
is_meant same None k r = false
is_meant same (Some c) k r = is_ahead same (accepting.adopted k c) r

-- the store's rows: those that were left, else those that the failed commit was to leave, else others
abbrev pub fit_of : {B : Type 0} → (B → B → Bool) → Option (Change B) → Rows B → Rows B → Fit
fit_of same failed k r = if is_ahead same k r then Left else (if is_meant same failed k r then Meant else Others)
