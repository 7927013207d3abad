-- The crew by its parts, and how a course goes on after its first pass, by what is known then: where each node stands, the log's length, the
-- node's role as a proposer, and what was voted for.
use Rattle.std.specs.Prelude.{ℕ, suc, Bool, List, [], ◌∷◌, ◌++◌, filter, fold}
use Rattle.paxos_packets.specs.declared.ballot.Ballot.{Ballot}
use Rattle.paxos_packets.specs.declared.entry.Entry.{Entry}
use Rattle.paxos_packets.specs.declared.entry.Entry.TheVariants.{Boot}
use Rattle.paxos_packets.specs.declared.vote.Vote.{Vote}
use Rattle.paxos_proposer.specs.Proposals.{behind}
use Rattle.paxos_proposer.specs.Proposer.{asking}
use Rattle.paxos_proposer.specs.Proposing.{proposals_of}
use Rattle.paxos_proposer.specs.Role.{Role}
use Rattle.paxos_node.specs.declared.event.Event.{Event}
use Rattle.paxos_node.specs.declared.event.Event.TheVariants.{Restart}
use Rattle.replica_machine.specs.declared.roll.Standing.{Standing}
use Rattle.replica_machine.specs.Roll.{is_wanted_by}
use Rattle.world_rescue.specs.Course.{Seat, Crew, Act, floor_of, take, item_of, pass, votes_then, hears, lead, led, propose_new}
use Rattle.world_rescue.specs.Course.{fetch_again, own_again, floor_again}

abbrev pub crew_of : {B : Type 0} → ℕ → Seat B → List (Seat B) → Crew B
crew_of members own helpers = record { members = members; own = own; helpers = helpers }

-- a node's ballot after this round
abbrev pub next_ballot : ℕ → ℕ → Ballot
next_ballot n seen = record { round = suc seen; node = n }

-- a node's role after the promises, by its number, its floor, and the votes that it reports to itself
abbrev pub led_by : {B : Type 0} → (B → B → Bool) → ℕ → ℕ → List (Entry B) → Ballot → ℕ → List (Vote B) → ℕ → ℕ → List (Vote B) → List (Seat B)
    → Role B
led_by same members applied pending b first cast n floor votes helpers =
    fold (λ r s. hears same members applied pending b s.number (floor_of s) (votes_then first cast s) floor r) (asking n b first floor votes) helpers

-- what is pending then: what is wanted where the nodes stand so, and the act's Item
abbrev pub pending_after : {B : Type 0} → Crew B → Act B → (ℕ → Standing) → List (Entry B)
pending_after c act stands =
    filter (is_wanted_by stands) c.own.node.pending ++ item_of c.own.number c.own.node.rows.boot c.own.node.taken act ∷ []

abbrev pub goes_on_from : {B : Type 0} → (B → B → Bool) → Crew B → Act B → (ℕ → Standing) → ℕ → Role B → List (Event B)
goes_on_from same c act stands length r =
    take c.own.number act ∷ pass c.own.number c.helpers (behind length (proposals_of (propose_new same length (pending_after c act stands) r)))

-- a node that went down leads in the ballot after this one
abbrev pub role_again : {B : Type 0} → (B → B → Bool) → Crew B → Act B → Ballot → List (Vote B) → Role B
role_again same c act b cast =
    led same c.members (floor_again c)
    (Boot c.own.number (suc c.own.node.rows.boot) ∷ item_of c.own.number (suc c.own.node.rows.boot) 0 act ∷ [])
    (record { round = suc b.round; node = c.own.number }) (suc (floor_again c)) cast (own_again c) c.helpers

abbrev pub comes_back_from : {B : Type 0} → (B → B → Bool) → Crew B → Act B → Ballot → List (Vote B) → List (Event B)
comes_back_from same c act b cast =
    Restart c.own.number ∷ fetch_again c ++ take c.own.number act
    ∷ lead (record { round = suc b.round; node = c.own.number }) (suc (floor_again c)) cast c.helpers
    ++ pass c.own.number c.helpers (behind (floor_again c) (proposals_of (role_again same c act b cast)))
