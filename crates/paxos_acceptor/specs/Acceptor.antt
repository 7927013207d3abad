-- The acceptor, and its rules (Lamport 2001, section 2.2, phases 1 (b) and 2 (b)), on the rows of one member.
use Rattle.std.specs.Prelude.{ℕ, suc, max, Bool, true, false, not, ◌&&◌, nat_le, Option, Some, None, is_none, List, [], ◌∷◌, if◌then◌else◌}
use Rattle.std.specs.List.{list_all}
use Rattle.std.specs.Option.{option_or, unwrap_or}
use Rattle.paxos_packets.specs.Ballot.{below, same_ballot}
use Rattle.paxos_packets.specs.Rows.{no_change, promise_change, vote_change, kept_votes}
use Rattle.paxos_packets.specs.Snapshot.{floor_in}
use Rattle.paxos_packets.specs.Snapshot as taken
use Rattle.paxos_packets.specs.Vote.{put_vote, put_votes, votes_from, vote_in, same_vote}
use Rattle.paxos_packets.specs.Packet.{packet, to_others}
use Rattle.paxos_packets.specs.declared.ballot.Ballot.{Ballot}
use Rattle.paxos_packets.specs.declared.vote.Vote.{Vote}
use Rattle.paxos_packets.specs.declared.packet.Kind.{Kind}
use Rattle.paxos_packets.specs.declared.packet.Kind.TheVariants.{Prepare, Promise, Accept, Accepted, Nack, Forward, Learned, Ask, Snapshot}
use Rattle.paxos_packets.specs.declared.packet.Packet.{Packet}
use Rattle.paxos_packets.specs.declared.rows.Change.{Change}
use Rattle.paxos_packets.specs.declared.rows.Rows.{Rows}
use Rattle.paxos_acceptor.specs.declared.verdict.Answer.{Answer}
use Rattle.paxos_acceptor.specs.declared.verdict.Answer.TheVariants.{Nothing, ToSender, ToOthers}
use Rattle.paxos_acceptor.specs.declared.verdict.Verdict.{Verdict}

-- what callers see of an acceptor
pub record State (B : Type 0) : Type 0 where
  -- what the member has committed
  pub rows : Rows B
  -- for how many more votes there is room
  pub room : ℕ
  -- whether memory ran out while a change that was committed was taken over
  pub failed : Bool

-- no promise, or b above it
abbrev pub may_promise : Option Ballot → Ballot → Bool
may_promise None b = true
may_promise (Some p) b = below p b

-- no promise, or b not below it
abbrev pub may_accept : Option Ballot → Ballot → Bool
may_accept None b = true
may_accept (Some p) b = not (below b p)

abbrev pub with_promise : {B : Type 0} → Ballot → Rows B → Rows B
with_promise b rows = record rows { promised = Some b }

abbrev pub with_vote : {B : Type 0} → Vote B → Rows B → Rows B
with_vote v rows = record rows { promised = Some v.ballot; votes = put_vote v rows.votes }

-- votes up to the snapshot's floor are forgotten
abbrev pub with_snapshot : {B : Type 0} → taken.Snapshot → Rows B → Rows B
with_snapshot s rows = record rows { snapshot = Some s; votes = kept_votes (Some s) rows.votes }

-- the rows after a change: with a new snapshot, votes up to its floor are forgotten before the new ones are put
abbrev pub adopted : {B : Type 0} → Rows B → Change B → Rows B
adopted rows change =
    record rows {
      promised = option_or change.promised rows.promised;
      snapshot = option_or change.snapshot rows.snapshot;
      votes = put_votes change.votes (kept_votes change.snapshot rows.votes);
    }

-- whether the rows have all of a change, so that it changes nothing: it has no snapshot, promises nothing or what is promised, and each of
-- its votes is the one in its slot

abbrev pub has_promise : Option Ballot → Option Ballot → Bool
has_promise held None = true
has_promise None (Some b) = false
has_promise (Some p) (Some b) = same_ballot p b

abbrev pub is_vote : {B : Type 0} → (B → B → Bool) → Vote B → Option (Vote B) → Bool
is_vote same v None = false
is_vote same v (Some w) = same_vote same w v

abbrev pub has_vote : {B : Type 0} → (B → B → Bool) → List (Vote B) → Vote B → Bool
has_vote same votes v = is_vote same v (vote_in v.slot votes)

abbrev pub has_all : {B : Type 0} → (B → B → Bool) → Rows B → Change B → Bool
has_all same rows change =
    is_none change.snapshot && (has_promise rows.promised change.promised && list_all (has_vote same rows.votes) change.votes)

abbrev pub refused : {B : Type 0} → Rows B → Ballot → Verdict B
refused rows b = record { change = no_change; answer = ToSender (Nack b (unwrap_or rows.promised b)) }

-- a promise of the ballot, with the floor, and the votes from the slot on that are above it
abbrev pub promise_of : {B : Type 0} → Rows B → Ballot → ℕ → Kind B
promise_of rows b first =
    Promise b (floor_in rows.snapshot) (votes_from (max first (suc (floor_in rows.snapshot))) rows.votes)

-- Prepare: a promise; else a Nack
abbrev pub prepared : {B : Type 0} → Rows B → Ballot → ℕ → Verdict B
prepared rows b first =
    if may_promise rows.promised b then record { change = promise_change b; answer = ToSender (promise_of rows b first) }
    else refused rows b

-- the snapshot, if it gives this slot of the log: if the slot is not above its floor
abbrev pub given_by : Option taken.Snapshot → ℕ → Option taken.Snapshot
given_by None slot = None
given_by (Some s) slot = if nat_le slot s.floor then Some s else None

-- an Accept that the promise allows: a vote, sent to the others; in a slot that the snapshot gives nothing but the snapshot

abbrev pub cast : {B : Type 0} → Vote B → Verdict B
cast v = record { change = vote_change v; answer = ToOthers (Accepted v) }

abbrev pub shown : {B : Type 0} → taken.Snapshot → Verdict B
shown s = record { change = no_change; answer = ToSender (Snapshot s) }

abbrev pub cast_or_shown : {B : Type 0} → Option taken.Snapshot → Vote B → Verdict B
cast_or_shown None v = cast v
cast_or_shown (Some s) v = shown s

-- Accept: a vote, or the snapshot; else a Nack
abbrev pub voted : {B : Type 0} → Rows B → Vote B → Verdict B
voted rows v = if may_accept rows.promised v.ballot then cast_or_shown (given_by rows.snapshot v.slot) v else refused rows v.ballot

abbrev pub nothing : {B : Type 0} → Verdict B
nothing = record { change = no_change; answer = Nothing }

-- what one packet brings about
abbrev pub judged : {B : Type 0} → Rows B → Kind B → Verdict B
judged rows (Prepare b first) = prepared rows b first
judged rows (Promise b floor votes) = nothing
judged rows (Accept v) = voted rows v
judged rows (Accepted v) = nothing
judged rows (Nack b p) = nothing
judged rows (Forward es) = nothing
judged rows (Learned s e) = nothing
judged rows (Ask first) = nothing
judged rows (Snapshot s) = nothing

-- the packets of an answer
abbrev pub answers : {B : Type 0} → ℕ → ℕ → ℕ → Answer B → List (Packet B)
answers members me sender Nothing = []
answers members me sender (ToSender kind) = packet me kind sender ∷ []
answers members me sender (ToOthers kind) = to_others members me kind
