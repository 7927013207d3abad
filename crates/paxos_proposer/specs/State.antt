-- What callers see of a proposer: the member's number, the members, its role and the greatest round seen, and how much more it
-- can keep without allocating.
use Rattle.std.specs.Prelude.{ℕ, List, ◌≤◌}
use Rattle.paxos_packets.specs.declared.ballot.Ballot.{Ballot}
use Rattle.paxos_packets.specs.declared.entry.Entry.{Entry}
use Rattle.paxos_packets.specs.declared.vote.Vote.{Vote}
use Rattle.paxos_proposer.specs.declared.promises.CountedPromise.{CountedPromise}
use Rattle.paxos_proposer.specs.declared.phase.Phase.{Phase}
use Rattle.paxos_proposer.specs.declared.phase.Phase.TheVariants as Kept
use Rattle.paxos_proposer.specs.Promises.{promised}
use Rattle.paxos_proposer.specs.Proposals.{AreUpTo}
use Rattle.paxos_proposer.specs.Proposer.{resting, raise, prepared, own_ballot, step_down, nacked, submitted, raised_above}
use Rattle.paxos_proposer.specs.Role.{Role, Idle, Preparing, Leading, ProposerState}

pub record State (B : Type 0) : Type 0 where
  -- its number, and how many members there are
  pub me : ℕ
  pub members : ℕ
  pub proposer : ProposerState B

-- for how many promises and proposals more there is memory
pub record Room : Type 0 where
  pub promises : ℕ
  pub proposals : ℕ

pub record Held (B : Type 0) : Type 0 where
  pub state : State B
  pub room : Room

-- there is memory for these numbers of promises and proposals
abbrev pub HasRoom : ℕ → ℕ → Room → Type 0
HasRoom promises proposals room = (promises ≤ room.promises) × (proposals ≤ room.proposals)

-- parts of a state

abbrev pub role_in : {B : Type 0} → Held B → Role B
role_in p = p.state.proposer.role

abbrev pub with_role : {B : Type 0} → Role B → State B → State B
with_role role s = record { me = s.me; members = s.members; proposer = record { role = role; seen = s.proposer.seen } }

-- what each call makes of it

abbrev pub begun : {B : Type 0} → ℕ → ℕ → State B
begun me members = record { me = me; members = members; proposer = resting 0 }

abbrev pub saw : {B : Type 0} → ℕ → State B → State B
saw round s = record { me = s.me; members = s.members; proposer = raise round s.proposer }

abbrev pub started : {B : Type 0} → ℕ → ℕ → List (Vote B) → State B → State B
started first floor votes s =
    record { me = s.me; members = s.members; proposer = prepared s.me (own_ballot s.me s.proposer) first floor votes s.proposer }

abbrev pub after_promise : {B : Type 0} → ℕ → Ballot → ℕ → List (Vote B) → ℕ → State B → State B
after_promise node b floor votes own s = with_role (promised s.members node b floor votes own s.proposer.role) s

abbrev pub after_submit : {B : Type 0} → Entry B → State B → State B
after_submit e s = with_role (submitted e s.proposer.role) s

abbrev pub after_nack : {B : Type 0} → Ballot → Ballot → State B → State B
after_nack b p s = with_role (nacked b p s.proposer.role) s

abbrev pub stepped_down : {B : Type 0} → Ballot → State B → State B
stepped_down b s = with_role (step_down b s.proposer.role) s

abbrev pub after_raise : {B : Type 0} → ℕ → State B → State B
after_raise floor s = with_role (raised_above floor s.proposer.role) s

-- how a role is kept: what it does, beside the promises and the proposals

abbrev pub role_of : {B : Type 0} → Phase → List (CountedPromise B) → List (Vote B) → Role B
role_of Kept.Idle promises proposed = Idle
role_of (Kept.Preparing b first) promises proposed = Preparing b first promises
role_of (Kept.Leading b next) promises proposed = Leading b next proposed

-- the slots that a ballot under way speaks of are above 0
abbrev pub IsAboveNone : Phase → Type 0
IsAboveNone Kept.Idle = Unit {0}
IsAboveNone (Kept.Preparing b first) = 1 ≤ first
IsAboveNone (Kept.Leading b next) = 1 ≤ next

-- what a leader proposed is in the slots up to the next one
abbrev pub IsInTurn : {B : Type 0} → Phase → List (Vote B) → Type 0
IsInTurn Kept.Idle votes = Unit {0}
IsInTurn (Kept.Preparing b first) votes = Unit {0}
IsInTurn (Kept.Leading b next) votes = AreUpTo next votes
