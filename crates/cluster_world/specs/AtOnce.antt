-- An event in which what a node learns is applied at once, wherever in the event it learns it (docs/CONSENSUS.md, "Events": Learn). It is
-- written as the node's own event is, with what is learned applied after each vote that is counted and each entry that is reported to it.
use Rattle.std.specs.Prelude.{◌≡◌, ◌≤◌, ℕ, Bool, true, not, ◌&&◌, nat_lt, Option, Some, None, List, [], ◌∷◌, ◌++◌, fold, if◌then◌else◌}
use Rattle.paxos_packets.specs.Ballot.{same_ballot}
use Rattle.paxos_packets.specs.Members.{is_majority}
use Rattle.paxos_packets.specs.Packet.{to_others}
use Rattle.paxos_packets.specs.declared.ballot.Ballot.{Ballot}
use Rattle.paxos_packets.specs.declared.entry.Entry.{Entry}
use Rattle.paxos_packets.specs.declared.vote.Vote.{Vote}
use Rattle.paxos_packets.specs.declared.packet.Kind.{Kind}
use Rattle.paxos_packets.specs.declared.packet.Kind.TheVariants.{Prepare, Promise, Accept, Accepted, Nack, Forward, Learned, Ask, Snapshot}
use Rattle.paxos_packets.specs.Rows.{raised}
use Rattle.paxos_packets.specs.Snapshot.{floor_in}
use Rattle.paxos_packets.specs.Snapshot as taken
use Rattle.paxos_acceptor.specs.Acceptor.{may_accept, given_by}
use Rattle.paxos_proposer.specs.declared.promises.CountedPromise.{CountedPromise}
use Rattle.paxos_proposer.specs.Role.{Role, Idle, Preparing, Leading}
use Rattle.paxos_proposer.specs.Proposer.{slot_end, next_vote, is_leading}
use Rattle.paxos_proposer.specs.Promises.{lowest}
use Rattle.paxos_proposer.specs.Reports.{is_counted, reports, called_for}
use Rattle.paxos_node.specs.declared.event.Event.{Event}
use Rattle.paxos_node.specs.declared.event.Event.TheVariants.{Take, Tick, Start, Suspect, Deliver, Cut, Crash, Restart}
use Rattle.paxos_planning.specs.Node.{NodeState, Plan, log_length}
use Rattle.paxos_planning.specs.Plan.{with_role, with_pending, begun, send, vote, count as count_at_end, hear_learned}
use Rattle.paxos_planning.specs.Proposals.{offer, stands, forwarded}
use Rattle.paxos_planning.specs.Replies.{saw, refuse, show, on_prepare, on_nack, on_ask}
use Rattle.paxos_node.specs.Applying.{started, go_down, settle}
use Rattle.paxos_node.specs.Events.{takes, with_item, has_room, new_lost, owner, outcome_of}
use Rattle.paxos_node.specs.Snapshots.{on_cut, on_snapshot}
use Rattle.paxos_planning.specs.Ticking.{again, ask}
use Rattle.paxos_planning.specs.Starting.{on_start}
use Rattle.cluster_world.specs.World.{node_at, played}
use Rattle.cluster_world.specs.Steps.{may}

-- a vote is counted, and what that teaches is applied
abbrev pub count : {B : Type 0} → (B → B → Bool) → ℕ → ℕ → ℕ → Vote B → Plan B → Plan B
count same members me node v o = settle me (count_at_end same members node v o)

-- its own votes
abbrev pub cast : {B : Type 0} → (B → B → Bool) → ℕ → ℕ → Vote B → Plan B → Plan B
cast same members me v o = send (to_others members me (Accepted v)) (count same members me me v (vote v o))

-- proposals

abbrev pub propose_as : {B : Type 0} → (B → B → Bool) → ℕ → ℕ → Role B → Entry B → Plan B → Plan B
propose_as same members me Idle e o = o
propose_as same members me (Preparing b first promises) e o = o
propose_as same members me (Leading b next proposed) e o =
    if nat_lt next slot_end then cast same members me (next_vote b next e) (offer members me b next proposed e o)
    else o

abbrev pub propose : {B : Type 0} → (B → B → Bool) → ℕ → ℕ → Entry B → Plan B → Plan B
propose same members me e o = propose_as same members me o.node.proposer.role e o

abbrev pub propose_all : {B : Type 0} → (B → B → Bool) → ℕ → ℕ → List (Entry B) → Plan B → Plan B
propose_all same members me es o = fold (λ so_far e. propose same members me e so_far) o es

abbrev pub lead : {B : Type 0} → (B → B → Bool) → ℕ → ℕ → Ballot → ℕ → List (Vote B) → Plan B → Plan B
lead same members me b first votes o =
    propose_all same members me (called_for first votes) (record o { node = with_role (Leading b first []) o.node })

abbrev pub propose_new : {B : Type 0} → (B → B → Bool) → ℕ → ℕ → Entry B → Plan B → Plan B
propose_new same members me e o =
    if stands same (log_length o.node) o.node.proposer.role e then o
    else propose same members me e o

abbrev pub propose_each : {B : Type 0} → (B → B → Bool) → ℕ → ℕ → List (Entry B) → Plan B → Plan B
propose_each same members me es o = fold (λ so_far e. propose_new same members me e so_far) o es

abbrev pub push : {B : Type 0} → (B → B → Bool) → ℕ → ℕ → Plan B → Plan B
push same members me o =
    if is_leading o.node.proposer.role then propose_each same members me o.node.pending o
    else send (forwarded me o.node.rows.promised o.node.pending) o

-- packets

abbrev pub cast_or_show : {B : Type 0} → (B → B → Bool) → ℕ → ℕ → ℕ → Option taken.Snapshot → Vote B → Plan B → Plan B
cast_or_show same members me sender None v o = cast same members me v o
cast_or_show same members me sender (Some s) v o = show me sender s o

abbrev pub on_accept : {B : Type 0} → (B → B → Bool) → ℕ → ℕ → ℕ → Vote B → Plan B → Plan B
on_accept same members me sender v o =
    if may_accept o.node.rows.promised v.ballot
    then cast_or_show same members me sender (given_by o.node.rows.snapshot v.slot) v o
    else refuse me sender v.ballot o

abbrev pub count_promise : {B : Type 0} → (B → B → Bool) → ℕ → ℕ → Ballot → ℕ → ℕ → List (CountedPromise B) → Plan B → Plan B
count_promise same members me b first own promises o =
    if is_majority members (is_counted promises)
    then push same members me (lead same members me b (lowest first own promises) (reports promises) o)
    else record o { node = with_role (Preparing b first promises) o.node }

abbrev pub on_promise_as : {B : Type 0} → (B → B → Bool) → ℕ → ℕ → ℕ → Ballot → ℕ → List (Vote B) → Role B → Plan B → Plan B
on_promise_as same members me sender b floor votes Idle o = o
on_promise_as same members me sender b floor votes (Leading c next proposed) o = o
on_promise_as same members me sender b floor votes (Preparing c first promises) o =
    if same_ballot b c && not (is_counted promises sender)
    then count_promise same members me c first (floor_in o.node.rows.snapshot)
    (promises ++ record { node = sender; floor = floor; votes = votes } ∷ []) o
    else o

abbrev pub on_forward : {B : Type 0} → (B → B → Bool) → ℕ → ℕ → List (Entry B) → Plan B → Plan B
on_forward same members me es o = if is_leading o.node.proposer.role then propose_each same members me es o else o

abbrev pub on_packet : {B : Type 0} → (B → B → Bool) → ℕ → ℕ → ℕ → Kind B → Plan B → Plan B
on_packet same members me sender (Prepare b first) o = on_prepare me sender b first o
on_packet same members me sender (Promise b floor votes) o = on_promise_as same members me sender b floor votes o.node.proposer.role o
on_packet same members me sender (Accept v) o = on_accept same members me sender v o
on_packet same members me sender (Accepted v) o = count same members me sender v o
on_packet same members me sender (Nack b p) o = on_nack b p o
on_packet same members me sender (Forward es) o = on_forward same members me es o
on_packet same members me sender (Learned s e) o = settle me (hear_learned same s e o)
on_packet same members me sender (Ask first) o = on_ask me sender first o
on_packet same members me sender (Snapshot s) o = settle me (on_snapshot me s o)

-- events

abbrev pub on_take : {B : Type 0} → (B → B → Bool) → ℕ → ℕ → ℕ → B → Plan B → Plan B
on_take same members me transport body o =
    if takes o.node then push same members me (record o { node = with_item me transport body o.node })
    else o

abbrev pub on_tick : {B : Type 0} → (B → B → Bool) → ℕ → ℕ → Plan B → Plan B
on_tick same members me o = ask members me (push same members me (send (again members me o.node.proposer.role o.node.learner) o))

abbrev pub suspected : {B : Type 0} → (B → B → Bool) → ℕ → ℕ → Option (Entry B) → Plan B → Plan B
suspected same members me None o = o
suspected same members me (Some lost) o =
    if has_room o.node then push same members me (record o { node = with_pending (o.node.pending ++ lost ∷ []) o.node })
    else o

abbrev pub on_event : {B : Type 0} → (B → B → Bool) → ℕ → Event B → Plan B → Plan B
on_event same members (Take n t body) o = on_take same members n t body o
on_event same members (Tick n) o = on_tick same members n o
on_event same members (Start n) o = on_start members n o
on_event same members (Suspect n other) o = suspected same members n (new_lost same n other o.node) o
on_event same members (Deliver p) o = on_packet same members p.addressee p.sender p.kind (record o { node = saw p.kind o.node })
on_event same members (Cut n snapshot) o = on_cut snapshot o
on_event same members (Crash n) o = go_down o
on_event same members (Restart n) o = record o { node = started n (raised o.node.rows) }

-- what an event makes of a node that applies at once
abbrev pub outcome_at_once : {B : Type 0} → (B → B → Bool) → ℕ → Event B → NodeState B → Plan B
outcome_at_once same members e x = on_event same members e (begun x)

-- in every world it is the same: a vote of its own for a new proposal never teaches a node anything
abbrev pub AppliesAsAtOnce : (B : Type 0) → (B → B → Bool) → Type 0
AppliesAsAtOnce B same =
    (members : ℕ) → 3 ≤ members → (events : List (Event B)) (e : Event B) → may same (played same members events) e ≡ true →
    let x = node_at (played same members events).nodes (owner e) in
    outcome_of same members e x ≡ outcome_at_once same members e x
