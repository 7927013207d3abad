-- What a round of a node shows of the cluster's work (docs/THREADS.md). Nothing that is claimed of a cluster rests on it.
use Rattle.std.specs.Prelude.{ℕ, ◌^◌, ◌-◌, min, max, nat_lt, nat_le, ◌&&◌, not, Bool, false, Option, Some, None, List, [], ◌∷◌, if◌then◌else◌}
use Rattle.paxos_packets.specs.Ballot.{below, same_ballot}
use Rattle.paxos_packets.specs.declared.ballot.Ballot.{Ballot}
use Rattle.node_actor.specs.declared.heard.Heard.{Heard}
use Rattle.node_actor.specs.declared.heard.Heard.TheVariants as heard
use Rattle.node_actor.specs.declared.hearing.Hearing.{Hearing}
use Rattle.actor_run.specs.declared.round_feed.RoundSeen.{RoundSeen}
use Rattle.serve_policy.specs.declared.turn.Sign.{Sign}
use Rattle.serve_policy.specs.declared.turn.Sign.TheVariants.{Nothing, Prepared, AtWork, Refused, Told}
use Rattle.serve_policy.specs.declared.turn.Turn.{Turn}

-- whether this ballot was promised
abbrev pub is_promised : Option Ballot → Ballot → Bool
is_promised None ballot = false
is_promised (Some other) ballot = same_ballot other ballot

-- a number as far as 32 bits count
abbrev pub counted : ℕ → ℕ
counted n = min n (2 ^ 32 - 1)

-- what a packet shows to a node that has promised a ballot, and had promised another or none before the packet, and whose votes are for so
-- many slots after its log: a Prepare only if it brought the promise, so that a repeated one shows nothing, with these slots, since its
-- owner takes them over; work in a ballot that is not below the promise; and a refusal of the node's own ballot
abbrev pub shown : Heard → Ballot → Option Ballot → ℕ → Sign
shown (heard.Prepare ballot) promised before slots =
    if same_ballot ballot promised && not (is_promised before promised) then Prepared ballot.node (counted slots) else Nothing
shown (heard.Ballot ballot) promised before slots = if below ballot promised then Nothing else AtWork ballot.node
shown (heard.Refusal ballot other) promised before slots =
    if same_ballot ballot promised && below ballot other then Refused other.node else Nothing
shown heard.Entries promised before slots = Nothing
shown (heard.Learned slot) promised before slots = Told
shown (heard.Ask first) promised before slots = Nothing
shown (heard.Snapshot floor) promised before slots = Nothing

-- before the first promise nothing is shown
abbrev pub sign_of : Heard → Option Ballot → Option Ballot → ℕ → Sign
sign_of packet (Some promised) before slots = shown packet promised before slots
sign_of packet None before slots = Nothing

-- what a packet of a round brought while this many beats are due, if this ballot was promised before it, and the log had this length after it
abbrev pub turn_of : Hearing → ℕ → RoundSeen → Option Ballot → ℕ → Turn
turn_of hearing log seen before beats = record {
  from = Some hearing.from;
  sign = sign_of hearing.heard seen.promised before seen.open_slots;
  applied = log;
  is_pending = nat_lt 0 seen.pending;
  beats = beats;
}

-- what a round brought in which no packet came
abbrev pub quiet_turn : RoundSeen → ℕ → Turn
quiet_turn seen beats = record {
  from = None;
  sign = Nothing;
  applied = seen.applied;
  is_pending = nat_lt 0 seen.pending;
  beats = beats;
}

-- whether a packet reported an entry that the log has gained between these two lengths
abbrev pub is_news : Heard → ℕ → ℕ → Bool
is_news (heard.Prepare ballot) before after = false
is_news (heard.Ballot ballot) before after = false
is_news (heard.Refusal ballot other) before after = false
is_news heard.Entries before after = false
is_news (heard.Learned slot) before after = nat_lt before slot && nat_le slot after
is_news (heard.Ask first) before after = false
is_news (heard.Snapshot floor) before after = false

-- where a snapshot ends that came, if the packet brought one
abbrev pub ends_at : Heard → Option ℕ
ends_at (heard.Prepare ballot) = None
ends_at (heard.Ballot ballot) = None
ends_at (heard.Refusal ballot other) = None
ends_at heard.Entries = None
ends_at (heard.Learned slot) = None
ends_at (heard.Ask first) = None
ends_at (heard.Snapshot floor) = Some floor

-- the greater of two slots, of those that are there
abbrev pub later : Option ℕ → Option ℕ → Option ℕ
later None other = other
later (Some one) None = Some one
later (Some one) (Some other) = Some (max one other)

-- where the snapshot ends that ends last, of these and of those that came after

abbrev pub offered_since : Option ℕ → List Hearing → Option ℕ
offered_since last [] = last
offered_since last (hearing ∷ came) = offered_since (later last (ends_at hearing.heard)) came

abbrev pub offered_in : List Hearing → Option ℕ
offered_in came = offered_since None came

-- how many entries the node has applied above its floor
abbrev pub entries_above : RoundSeen → ℕ
entries_above seen = seen.applied - seen.floor

-- whether a node lacks entries: it does not lead, and has voted in more than 4,096 slots after its log
abbrev pub lacks_entries : RoundSeen → Bool
lacks_entries seen = not seen.leads && nat_lt 4096 seen.open_slots
