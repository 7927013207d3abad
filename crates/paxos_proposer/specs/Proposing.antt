-- What an event is to make of a proposer, and what the proposer would be then, stated by the proposer as it is and by what is new.
use Rattle.std.specs.Prelude.{◌≡◌, ℕ, Bool, nat_lt, Option, Some, None, List, [], ◌∷◌, ◌++◌, if◌then◌else◌}
use Rattle.paxos_packets.specs.declared.vote.Vote.{Vote}
use Rattle.paxos_proposer.specs.declared.phase.Phase.{Phase}
use Rattle.paxos_proposer.specs.declared.phase.Phase.TheVariants as Kept
use Rattle.paxos_proposer.specs.declared.promises.CountedPromise.{CountedPromise}
use Rattle.paxos_proposer.specs.declared.proposing.Offer.{Offer}
use Rattle.paxos_proposer.specs.declared.moves.Move.{Move}
use Rattle.paxos_proposer.specs.declared.moves.Move.TheVariants.{Saw}
use Rattle.paxos_proposer.specs.Promises.{and_promise_of, lowest}
use Rattle.paxos_proposer.specs.Proposer.{slot_end}
use Rattle.paxos_proposer.specs.Role.{Role, Idle, Preparing, Leading}
use Rattle.paxos_proposer.specs.Moves.{after_moves}
use Rattle.paxos_proposer.specs.State.{State, role_of, IsAboveNone}

-- what callers see: the proposer as it is, and what is to be done to it
pub record Draft (B : Type 0) : Type 0 where
  pub before : State B
  pub moves : List (Move B)

-- the proposer to which it was done
abbrev pub after : {B : Type 0} → Draft B → State B
after d = after_moves d.moves d.before

abbrev pub role_then : {B : Type 0} → Draft B → Role B
role_then d = (after d).proposer.role

abbrev pub and_move : {B : Type 0} → Move B → Draft B → Draft B
and_move m d = record { before = d.before; moves = d.moves ++ m ∷ [] }

-- a round is seen, unless it or a later one was
abbrev pub and_seen : {B : Type 0} → ℕ → Draft B → Draft B
and_seen round d = if nat_lt (after d).proposer.seen round then and_move (Saw round) d else d

-- where a leader proposes next, if a slot is left
abbrev pub offer_of : {B : Type 0} → Role B → Option Offer
offer_of Idle = None
offer_of (Preparing b first promises) = None
offer_of (Leading b next proposed) = if nat_lt next slot_end then Some (record { ballot = b; slot = next }) else None

-- the slot from which on a ballot that is being prepared asks for votes
abbrev pub first_asked : {B : Type 0} → Role B → Option ℕ
first_asked Idle = None
first_asked (Preparing b first promises) = Some first
first_asked (Leading b next proposed) = None

-- the promises and the proposals of a role

abbrev pub promises_of : {B : Type 0} → Role B → List (CountedPromise B)
promises_of Idle = []
promises_of (Preparing b first promises) = promises
promises_of (Leading b next proposed) = []

abbrev pub proposals_of : {B : Type 0} → Role B → List (Vote B)
proposals_of Idle = []
proposals_of (Preparing b first promises) = []
proposals_of (Leading b next proposed) = proposed

-- what was proposed before, if the ballot goes on
abbrev pub earlier : {B : Type 0} → Bool → Role B → List (Vote B)
earlier goes_on r = if goes_on then proposals_of r else []

-- a phase in which a majority promised, with the slot from which on it leads
abbrev pub led : ℕ → Phase → Phase
led slot Kept.Idle = Kept.Idle
led slot (Kept.Preparing b first) = Kept.Leading b slot
led slot (Kept.Leading b next) = Kept.Leading b next

-- from which slot on a ballot that is being prepared would be led, if this promise were counted; the first one without such a ballot
abbrev pub led_from : {B : Type 0} → ℕ → ℕ → List (Vote B) → ℕ → Role B → ℕ
led_from node floor votes own Idle = 1
led_from node floor votes own (Preparing b first promises) = lowest first own (and_promise_of node floor votes promises)
led_from node floor votes own (Leading b next proposed) = 1

-- of a proposer that was and one that is: the round, the phase and the new proposals are what is new
pub record IsTold {B : Type 0} (seen : ℕ) (phase : Phase) (goes_on : Bool) (votes : List (Vote B)) (old new : State B) : Type 0 where
  pub me_is : new.me ≡ old.me
  pub members_is : new.members ≡ old.members
  pub seen_is : new.proposer.seen ≡ seen
  pub promises : List (CountedPromise B)
  pub role_is : new.proposer.role ≡ role_of phase promises (earlier goes_on old.proposer.role ++ votes)
  pub above : IsAboveNone phase
