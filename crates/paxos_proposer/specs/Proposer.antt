-- One member as a proposer: its ballots and its proposals (Lamport 2001, sections 2.2 and 3).
use Rattle.std.specs.Prelude.{ℕ, suc, max, Bool, true, false, not, ◌&&◌, nat_lt, Option, Some, None, List, [], ◌∷◌, ◌++◌, if◌then◌else◌}
use Rattle.paxos_packets.specs.Ballot.{below, same_ballot}
use Rattle.paxos_packets.specs.declared.ballot.Ballot.{Ballot}
use Rattle.paxos_packets.specs.declared.entry.Entry.{Entry}
use Rattle.paxos_packets.specs.declared.vote.Vote.{Vote}
use Rattle.paxos_proposer.specs.Proposals.{behind}
use Rattle.paxos_proposer.specs.Role.{Role, Idle, Preparing, Leading, ProposerState}

-- the limits: rounds and slots are below these
unfoldable pub round_end : ℕ
round_end = 281474976710656

unfoldable pub slot_end : ℕ
slot_end = 1099511627776

-- a proposer that has just begun, under this promise
abbrev pub round_of : Option Ballot → ℕ
round_of None = 0
round_of (Some p) = p.round

abbrev pub resting : {B : Type 0} → ℕ → ProposerState B
resting seen = record { role = Idle; seen = seen }

abbrev pub with_role : {B : Type 0} → Role B → ProposerState B → ProposerState B
with_role role p = record { role = role; seen = p.seen }

-- a ballot above all that it saw and promised
abbrev pub new_ballot : {B : Type 0} → ℕ → Option Ballot → ProposerState B → Ballot
new_ballot me promised p = record { round = suc (max p.seen (round_of promised)); node = me }

-- there is no such round left
abbrev pub rounds_spent : {B : Type 0} → ℕ → Option Ballot → ProposerState B → Bool
rounds_spent me promised p = not (nat_lt (new_ballot me promised p).round round_end)

-- if the promise was seen, what it saw decides alone
abbrev pub own_ballot : {B : Type 0} → ℕ → ProposerState B → Ballot
own_ballot me p = record { round = suc p.seen; node = me }

abbrev pub is_spent : {B : Type 0} → ProposerState B → Bool
is_spent p = not (nat_lt (suc p.seen) round_end)

-- a round was seen
abbrev pub raise : {B : Type 0} → ℕ → ProposerState B → ProposerState B
raise round p = record { role = p.role; seen = max p.seen round }

-- it asks for promises, its own counted
abbrev pub asking : {B : Type 0} → ℕ → Ballot → ℕ → ℕ → List (Vote B) → Role B
asking me b first floor votes = Preparing b first (record { node = me; floor = floor; votes = votes } ∷ [])

-- it does so in a ballot whose round it then saw
abbrev pub prepared : {B : Type 0} → ℕ → Ballot → ℕ → ℕ → List (Vote B) → ProposerState B → ProposerState B
prepared me b first floor votes p = record { role = asking me b first floor votes; seen = max p.seen b.round }

-- a promise above its own ballot makes it idle
abbrev pub step_down : {B : Type 0} → Ballot → Role B → Role B
step_down b Idle = Idle
step_down b (Preparing c first promises) = if below c b then Idle else Preparing c first promises
step_down b (Leading c next proposed) = if below c b then Idle else Leading c next proposed

-- and so does a refusal of its ballot for a promise above it
abbrev pub nacked : {B : Type 0} → Ballot → Ballot → Role B → Role B
nacked b p Idle = Idle
nacked b p (Preparing c first promises) = if same_ballot b c && below c p then Idle else Preparing c first promises
nacked b p (Leading c next proposed) = if same_ballot b c && below c p then Idle else Leading c next proposed

-- a leader whose log is given by a snapshot up to this floor proposes above it only, and forgets what it proposed up to it
abbrev pub raised_above : {B : Type 0} → ℕ → Role B → Role B
raised_above floor Idle = Idle
raised_above floor (Preparing c first promises) = Preparing c first promises
raised_above floor (Leading c next proposed) = Leading c (max next (suc floor)) (behind floor proposed)

-- whether it has a ballot under way that is below this one; and whether it has this one, and it is below the promise
abbrev pub is_below : {B : Type 0} → Ballot → Role B → Bool
is_below b Idle = false
is_below b (Preparing c first promises) = below c b
is_below b (Leading c next proposed) = below c b

abbrev pub is_refused : {B : Type 0} → Ballot → Ballot → Role B → Bool
is_refused b p Idle = false
is_refused b p (Preparing c first promises) = same_ballot b c && below c p
is_refused b p (Leading c next proposed) = same_ballot b c && below c p

abbrev pub is_leading : {B : Type 0} → Role B → Bool
is_leading Idle = false
is_leading (Preparing b first promises) = false
is_leading (Leading b next proposed) = true

-- the slots of a leader are spent
abbrev pub slots_spent : {B : Type 0} → Role B → Bool
slots_spent Idle = false
slots_spent (Preparing b first promises) = false
slots_spent (Leading b next proposed) = not (nat_lt next slot_end)

-- the entry in a leader's next slot
abbrev pub next_vote : {B : Type 0} → Ballot → ℕ → Entry B → Vote B
next_vote b next e = record { slot = next; ballot = b; entry = e }

-- it was proposed
abbrev pub offered : {B : Type 0} → Ballot → ℕ → List (Vote B) → Entry B → Role B
offered b next proposed e = Leading b (suc next) (proposed ++ next_vote b next e ∷ [])

-- a leader's proposal of the entry in its next slot; no other member proposes
abbrev pub submitted : {B : Type 0} → Entry B → Role B → Role B
submitted e Idle = Idle
submitted e (Preparing b first promises) = Preparing b first promises
submitted e (Leading b next proposed) = offered b next proposed e

-- the slot of it
abbrev pub next_slot : {B : Type 0} → Role B → Option ℕ
next_slot Idle = None
next_slot (Preparing b first promises) = None
next_slot (Leading b next proposed) = Some next

-- the ballot under way
abbrev pub ballot_of : {B : Type 0} → Role B → Option Ballot
ballot_of Idle = None
ballot_of (Preparing b first promises) = Some b
ballot_of (Leading b next proposed) = Some b
