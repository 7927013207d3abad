-- The events of a rescue, from what the nodes hold (docs/CONSENSUS.md, "No dead end").
use Rattle.std.specs.Prelude.{ℕ, suc, max, Bool, Option, Some, None, List, [], ◌∷◌, ◌++◌, map, filter, fold, length, ◌+◌, if◌then◌else◌}
use Rattle.std.specs.List.{flat_map}
use Rattle.paxos_packets.specs.Ballot.{below}
use Rattle.paxos_packets.specs.Vote.{put_votes, votes_from}
use Rattle.paxos_packets.specs.declared.ballot.Ballot.{Ballot}
use Rattle.paxos_packets.specs.declared.entry.Entry.{Entry}
use Rattle.paxos_packets.specs.declared.entry.Entry.TheVariants.{Boot, Item}
use Rattle.paxos_packets.specs.declared.packet.Kind.TheVariants.{Prepare, Promise, Accept, Accepted, Nack}
use Rattle.paxos_packets.specs.declared.vote.Vote.{Vote}
use Rattle.paxos_proposer.specs.Promises.{promised, called_by}
use Rattle.paxos_proposer.specs.Proposals.{stands, behind}
use Rattle.paxos_proposer.specs.Proposer.{own_ballot, asking, submitted}
use Rattle.paxos_proposer.specs.Proposing.{proposals_of}
use Rattle.paxos_proposer.specs.Role.{Role}
use Rattle.paxos_planning.specs.Node.{log_length}
use Rattle.paxos_node.specs.Applying.{standing_of, has_end}
use Rattle.paxos_node.specs.declared.event.Event.{Event}
use Rattle.paxos_node.specs.declared.event.Event.TheVariants.{Take, Start, Restart}
use Rattle.replica_machine.specs.declared.roll.Standing.{Standing}
use Rattle.replica_machine.specs.Roll.{standings_from, is_wanted_by}
pub use Rattle.world_rescue.specs.Seats.{Seat, seat_of, Crew, floor_of, delivered}
use Rattle.world_rescue.specs.Reaching.{Source, highest, fetch, reach, reached}

-- ---- the node sees the rounds that the helpers promised: each is asked for a promise, and what refuses it comes back

abbrev pub refusal : {B : Type 0} → Ballot → ℕ → Option Ballot → List (Event B)
refusal b k None = []
refusal b k (Some p) = if below p b then [] else delivered k (Nack b p) b.node ∷ []

abbrev pub refused_round : Ballot → Option Ballot → ℕ
refused_round b None = 0
refused_round b (Some p) = if below p b then 0 else p.round

abbrev pub asked_in_vain : {B : Type 0} → Ballot → ℕ → Seat B → List (Event B)
asked_in_vain b first s = delivered b.node (Prepare b first) s.number ∷ refusal b s.number s.node.rows.promised

abbrev pub look : {B : Type 0} → Ballot → ℕ → List (Seat B) → List (Event B)
look b first seats = Start b.node ∷ flat_map (asked_in_vain b first) seats

-- the greatest round that it saw then
abbrev pub seen_then : {B : Type 0} → Ballot → List (Seat B) → ℕ
seen_then b seats = fold (λ r s. max r (refused_round b s.node.rows.promised)) b.round seats

-- ---- the node leads: each helper promises, once it has cast these votes

abbrev pub votes_then : {B : Type 0} → ℕ → List (Vote B) → Seat B → List (Vote B)
votes_then first cast s = votes_from first (put_votes cast s.node.rows.votes)

abbrev pub promises : {B : Type 0} → Ballot → ℕ → List (Vote B) → Seat B → List (Event B)
promises b first cast s =
    delivered b.node (Prepare b first) s.number ∷ delivered s.number (Promise b (floor_of s) (votes_then first cast s)) b.node ∷ []

abbrev pub lead : {B : Type 0} → Ballot → ℕ → List (Vote B) → List (Seat B) → List (Event B)
lead b first cast seats = Start b.node ∷ flat_map (promises b first cast) seats

-- what it proposes then: what the promises call for, and what is pending unless it stands

abbrev pub propose_all : {B : Type 0} → List (Entry B) → Role B → Role B
propose_all es r = fold (λ s e. submitted e s) r es

abbrev pub propose_new : {B : Type 0} → (B → B → Bool) → ℕ → List (Entry B) → Role B → Role B
propose_new same applied es r = fold (λ s e. if stands same applied s e then s else submitted e s) r es

abbrev pub proposes : {B : Type 0} → (B → B → Bool) → ℕ → List (Entry B) → Option (List (Entry B)) → Role B → Role B
proposes same applied pending None r = r
proposes same applied pending (Some es) r = propose_new same applied pending (propose_all es r)

abbrev pub hears : {B : Type 0} → (B → B → Bool) → ℕ → ℕ → List (Entry B) → Ballot → ℕ → ℕ → List (Vote B) → ℕ → Role B → Role B
hears same members applied pending b k floor votes own r =
    proposes same applied pending (called_by members k b floor votes own r) (promised members k b floor votes own r)

-- its role after the promises
abbrev pub led : {B : Type 0} → (B → B → Bool) → ℕ → ℕ → List (Entry B) → Ballot → ℕ → List (Vote B) → Seat B → List (Seat B) → Role B
led same members applied pending b first cast own helpers =
    fold (λ r s. hears same members applied pending b s.number (floor_of s) (votes_then first cast s) (floor_of own) r)
    (asking own.number b first (floor_of own) (votes_then first cast own))
    helpers

-- ---- each helper casts each of these votes, in order

abbrev pub cast_by : {B : Type 0} → ℕ → Vote B → Seat B → List (Event B)
cast_by n v s = delivered n (Accept v) s.number ∷ delivered s.number (Accepted v) n ∷ []

abbrev pub pass : {B : Type 0} → ℕ → List (Seat B) → List (Vote B) → List (Event B)
pass n seats votes = flat_map (λ v. flat_map (cast_by n v) seats) votes

abbrev pub entries_of : {B : Type 0} → List (Vote B) → List (Entry B)
entries_of votes = map (λ v. v.entry) votes

-- ---- the act

-- the act that is to be applied, by the number of its transport
pub record Act (B : Type 0) : Type 0 where
  pub transport : ℕ
  pub body : B

abbrev pub act : {B : Type 0} → ℕ → B → Act B
act transport body = record { transport = transport; body = body }

-- the node takes it
abbrev pub take : {B : Type 0} → ℕ → Act B → Event B
take n act = Take n act.transport act.body

-- its Item, the next one after `taken` others of the boot
abbrev pub item_of : {B : Type 0} → ℕ → ℕ → ℕ → Act B → Entry B
item_of n boot taken act = Item n boot (suc taken) act.transport act.body

-- ---- the node began its next boot, so its log is that of its snapshot: it asks for a helper's snapshot that gives more

abbrev pub source_again : {B : Type 0} → Crew B → Option Source
source_again c = highest (floor_of c.own) c.helpers

abbrev pub fetch_by : {B : Type 0} → ℕ → ℕ → Option Source → List (Event B)
fetch_by n first None = []
fetch_by n first (Some t) = fetch n first t

abbrev pub fetch_again : {B : Type 0} → Crew B → List (Event B)
fetch_again c = fetch_by c.own.number (suc (floor_of c.own)) (source_again c)

-- the node as it rests on that; its votes up to the floor do not count then
abbrev pub seat_over : {B : Type 0} → Option Source → Seat B → Seat B
seat_over None s = s
seat_over (Some t) s =
    record { number = s.number; node = record s.node { rows = record s.node.rows { snapshot = Some t.snapshot } } }

abbrev pub own_again : {B : Type 0} → Crew B → Seat B
own_again c = seat_over (source_again c) c.own

abbrev pub floor_again : {B : Type 0} → Crew B → ℕ
floor_again c = floor_of (own_again c)

-- ---- the whole, of a crew whose node is level: no helper's floor is above its log

module _ {B : Type 0} (same : B → B → Bool) (c : Crew B) (act : Act B) where
  -- the length of its log, and the ballots: the one that need not be promised, and the one in which it leads
  abbrev pub applied : ℕ
  applied = log_length c.own.node

  abbrev pub first_ballot : Ballot
  first_ballot = own_ballot c.own.number c.own.node.proposer

  abbrev pub ballot_after : ℕ → Ballot
  ballot_after seen = record { round = suc seen; node = c.own.number }

  abbrev pub seen : ℕ
  seen = seen_then first_ballot c.helpers

  -- the first pass: the node leads, and what it proposes is voted for
  abbrev pub first_role : Role B
  first_role = led same c.members applied c.own.node.pending (ballot_after seen) (suc applied) [] c.own c.helpers

  abbrev pub first_votes : List (Vote B)
  first_votes = behind applied (proposals_of first_role)

  abbrev pub first_pass : List (Event B)
  first_pass =
      look first_ballot (suc applied) c.helpers ++ lead (ballot_after seen) (suc applied) [] c.helpers
      ++ pass c.own.number c.helpers first_votes

  -- the length of its log then, and where each node stands after it
  abbrev pub length_then : ℕ
  length_then = log_length c.own.node + length first_votes

  abbrev pub standings_then : ℕ → Standing
  standings_then = standings_from (standing_of c.own.node) (entries_of first_votes)

  -- whether the loss of its boot is among what it applies then
  abbrev pub falls : Bool
  falls = has_end c.own.number c.own.node.rows.boot (standing_of c.own.node c.own.number) (entries_of first_votes)

  -- the node is up: it takes the act, and proposes what is still pending, the act last
  abbrev pub pending_then : List (Entry B)
  pending_then =
      filter (is_wanted_by standings_then) c.own.node.pending ++ item_of c.own.number c.own.node.rows.boot c.own.node.taken act ∷ []

  abbrev pub second_role : Role B
  second_role = propose_new same length_then pending_then first_role

  abbrev pub second_votes : List (Vote B)
  second_votes = behind length_then (proposals_of second_role)

  abbrev pub goes_on : List (Event B)
  goes_on = take c.own.number act ∷ pass c.own.number c.helpers second_votes

  -- the node went down: it begins its next boot; if a helper's floor is above its own, it rests on that one's snapshot; it takes the act,
  -- leads, and learns the log anew from its floor on
  abbrev pub next_boot : ℕ
  next_boot = suc c.own.node.rows.boot

  abbrev pub pending_again : List (Entry B)
  pending_again = Boot c.own.number next_boot ∷ item_of c.own.number next_boot 0 act ∷ []

  abbrev pub again_role : Role B
  again_role =
      led same c.members (floor_again c) pending_again (ballot_after (suc seen)) (suc (floor_again c)) first_votes (own_again c) c.helpers

  abbrev pub again_votes : List (Vote B)
  again_votes = behind (floor_again c) (proposals_of again_role)

  abbrev pub comes_back : List (Event B)
  comes_back =
      Restart c.own.number ∷ fetch_again c ++ take c.own.number act
      ∷ lead (ballot_after (suc seen)) (suc (floor_again c)) first_votes c.helpers ++ pass c.own.number c.helpers again_votes

  -- the course of a crew whose node is level
  abbrev pub level_course : List (Event B)
  level_course = first_pass ++ (if falls then comes_back else goes_on)

-- the node is made level first
abbrev pub course : {B : Type 0} → (B → B → Bool) → Crew B → Act B → List (Event B)
course same c act = reach c ++ level_course same (reached c) act
