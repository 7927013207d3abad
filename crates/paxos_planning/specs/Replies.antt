-- What a packet brings about at its addressee (docs/CONSENSUS.md, "Packets"; Lamport 2001, section 2.2).
use Rattle.std.specs.Prelude.{ℕ, suc, ◌+◌, max, Bool, false, not, ◌&&◌, nat_lt, nat_le, Option, Some, None, is_none, List, [], ◌∷◌, ◌++◌, if◌then◌else◌}
use Rattle.std.specs.List.{flat_map}
use Rattle.paxos_packets.specs.Members.{is_majority}
use Rattle.paxos_packets.specs.Snapshot.{floor_in}
use Rattle.paxos_packets.specs.Snapshot as taken
use Rattle.paxos_packets.specs.Ballot.{same_ballot}
use Rattle.paxos_packets.specs.Packet.{packet}
use Rattle.paxos_packets.specs.declared.ballot.Ballot.{Ballot}
use Rattle.paxos_packets.specs.declared.entry.Entry.{Entry}
use Rattle.paxos_packets.specs.declared.vote.Vote.{Vote}
use Rattle.paxos_packets.specs.declared.packet.Kind.{Kind}
use Rattle.paxos_packets.specs.declared.packet.Kind.TheVariants.{Prepare, Promise, Accept, Accepted, Nack, Forward, Learned, Ask, Snapshot}
use Rattle.paxos_packets.specs.declared.packet.Packet.{Packet}
use Rattle.paxos_acceptor.specs.Acceptor.{may_promise, may_accept, promise_of, given_by}
use Rattle.std.specs.Option.{unwrap_or}
use Rattle.paxos_proposer.specs.declared.promises.CountedPromise.{CountedPromise}
use Rattle.paxos_proposer.specs.Role.{Role, Idle, Preparing, Leading}
use Rattle.paxos_proposer.specs.Proposer.{nacked, is_leading}
use Rattle.paxos_proposer.specs.Promises.{lowest}
use Rattle.paxos_proposer.specs.Reports.{is_counted, reports}
use Rattle.paxos_learner.specs.declared.learned.LearnedEntry.{LearnedEntry}
use Rattle.paxos_learner.specs.Learner.{disagrees, vote_disagrees}
use Rattle.paxos_planning.specs.Node.{NodeState, Plan, log_length}
use Rattle.paxos_planning.specs.Plan.{with_role, send, promise, count, hear_learned, cast}
use Rattle.paxos_planning.specs.Proposals.{lead, propose_each, push}
use Rattle.paxos_planning.specs.Walking.{proposes_other, promise_other}

-- the greatest round of the ballots in a packet
abbrev pub round_of_votes : {B : Type 0} → List (Vote B) → ℕ
round_of_votes [] = 0
round_of_votes (v ∷ vs) = max v.ballot.round (round_of_votes vs)

abbrev pub round_in : {B : Type 0} → Kind B → ℕ
round_in (Prepare b first) = b.round
round_in (Promise b floor votes) = max b.round (round_of_votes votes)
round_in (Accept v) = v.ballot.round
round_in (Accepted v) = v.ballot.round
round_in (Nack b p) = max b.round p.round
round_in (Forward es) = 0
round_in (Learned s e) = 0
round_in (Ask first) = 0
round_in (Snapshot s) = 0

abbrev pub saw : {B : Type 0} → Kind B → NodeState B → NodeState B
saw kind x = record x { proposer = record { role = x.proposer.role; seen = max x.proposer.seen (round_in kind) } }

abbrev pub refuse : {B : Type 0} → ℕ → ℕ → Ballot → Plan B → Plan B
refuse me sender b o = send (packet me (Nack b (unwrap_or o.node.rows.promised b)) sender ∷ []) o

abbrev pub on_prepare : {B : Type 0} → ℕ → ℕ → Ballot → ℕ → Plan B → Plan B
on_prepare me sender b first o =
    if may_promise o.node.rows.promised b then send (packet me (promise_of o.node.rows b first) sender ∷ []) (promise b o)
    else refuse me sender b o

-- its snapshot is sent to a member
abbrev pub show : {B : Type 0} → ℕ → ℕ → taken.Snapshot → Plan B → Plan B
show me to s o = send (packet me (Snapshot s) to ∷ []) o

-- in a slot that its snapshot gives it casts no vote: it sends the snapshot
abbrev pub cast_or_show : {B : Type 0} → (B → B → Bool) → ℕ → ℕ → ℕ → Option taken.Snapshot → Vote B → Plan B → Plan B
cast_or_show same members me sender None v o = cast same members me v o
cast_or_show same members me sender (Some s) v o = show me sender s o

abbrev pub on_accept : {B : Type 0} → (B → B → Bool) → ℕ → ℕ → ℕ → Vote B → Plan B → Plan B
on_accept same members me sender v o =
    if may_accept o.node.rows.promised v.ballot
    then cast_or_show same members me sender (given_by o.node.rows.snapshot v.slot) v o
    else refuse me sender v.ballot o

-- with a majority of promises it leads, above its floor and each one reported, and pushes
abbrev pub count_promise : {B : Type 0} → (B → B → Bool) → ℕ → ℕ → Ballot → ℕ → ℕ → List (CountedPromise B) → Plan B → Plan B
count_promise same members me b first own promises o =
    if is_majority members (is_counted promises)
    then push same members me (lead same members me b (lowest first own promises) (reports promises) o)
    else record o { node = with_role (Preparing b first promises) o.node }

abbrev pub on_promise_as : {B : Type 0} → (B → B → Bool) → ℕ → ℕ → ℕ → Ballot → ℕ → List (Vote B) → Role B → Plan B → Plan B
on_promise_as same members me sender b floor votes Idle o = o
on_promise_as same members me sender b floor votes (Leading c next proposed) o = o
on_promise_as same members me sender b floor votes (Preparing c first promises) o =
    if same_ballot b c && not (is_counted promises sender)
    then count_promise same members me c first (floor_in o.node.rows.snapshot)
    (promises ++ record { node = sender; floor = floor; votes = votes } ∷ []) o
    else o

abbrev pub on_promise : {B : Type 0} → (B → B → Bool) → ℕ → ℕ → ℕ → Ballot → ℕ → List (Vote B) → Plan B → Plan B
on_promise same members me sender b floor votes o = on_promise_as same members me sender b floor votes o.node.proposer.role o

abbrev pub on_nack : {B : Type 0} → Ballot → Ballot → Plan B → Plan B
on_nack b p o = record o { node = with_role (nacked b p o.node.proposer.role) o.node }

abbrev pub on_forward : {B : Type 0} → (B → B → Bool) → ℕ → ℕ → List (Entry B) → Plan B → Plan B
on_forward same members me es o = if is_leading o.node.proposer.role then propose_each same members me es o else o

-- what was learned in this slot and the 63 after it
abbrev pub told_if : {B : Type 0} → ℕ → ℕ → ℕ → LearnedEntry B → List (Packet B)
told_if me to slot l = if nat_le slot l.slot && nat_lt l.slot (slot + 64) then packet me (Learned l.slot l.entry) to ∷ [] else []

abbrev pub told_from : {B : Type 0} → ℕ → ℕ → ℕ → List (LearnedEntry B) → List (Packet B)
told_from me to slot learned = flat_map (told_if me to slot) learned

-- a member that lacks the log from a slot on is told what was learned from there on; if the snapshot gives that slot, it is sent first, and
-- what was learned after its floor
abbrev pub answer_ask : {B : Type 0} → ℕ → ℕ → ℕ → Option taken.Snapshot → Plan B → Plan B
answer_ask me sender first None o = send (told_from me sender first o.node.learner.learned) o
answer_ask me sender first (Some s) o = send (told_from me sender (suc s.floor) o.node.learner.learned) (show me sender s o)

abbrev pub on_ask : {B : Type 0} → ℕ → ℕ → ℕ → Plan B → Plan B
on_ask me sender first o = answer_ask me sender first (given_by o.node.rows.snapshot first) o

abbrev pub on_packet : {B : Type 0} → (B → B → Bool) → ℕ → ℕ → ℕ → Kind B → Plan B → Plan B
on_packet same members me sender (Prepare b first) o = on_prepare me sender b first o
on_packet same members me sender (Promise b floor votes) o = on_promise same members me sender b floor votes o
on_packet same members me sender (Accept v) o = on_accept same members me sender v o
on_packet same members me sender (Accepted v) o = count same members sender v o
on_packet same members me sender (Nack b p) o = on_nack b p o
on_packet same members me sender (Forward es) o = on_forward same members me es o
on_packet same members me sender (Learned s e) o = hear_learned same s e o
on_packet same members me sender (Ask first) o = on_ask me sender first o
on_packet same members me sender (Snapshot s) o = o

-- the packet brings another entry than the one that was learned in its slot, or the node votes for another because of it
abbrev pub brings_other : {B : Type 0} → (B → B → Bool) → ℕ → ℕ → ℕ → Kind B → NodeState B → Bool
brings_other same members me sender (Prepare b first) x = false
brings_other same members me sender (Promise b floor votes) x = promise_other same members me sender b floor votes x
brings_other same members me sender (Accept v) x =
    may_accept x.rows.promised v.ballot && (is_none (given_by x.rows.snapshot v.slot) && vote_disagrees same members me v x.learner)
brings_other same members me sender (Accepted v) x = vote_disagrees same members sender v x.learner
brings_other same members me sender (Nack b p) x = false
brings_other same members me sender (Forward es) x =
    proposes_other same members me (log_length x) x.learner x.proposer.role es
brings_other same members me sender (Learned s e) x = disagrees same s e x.learner
brings_other same members me sender (Ask first) x = false
brings_other same members me sender (Snapshot s) x = false
