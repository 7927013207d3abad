-- What an event makes of a proposer, move by move, so that it can be stated before it is done.
use Rattle.std.specs.Prelude.{◌≡◌, ℕ, Bool, true, false, List, [], ◌∷◌, ◌≤◌}
use Rattle.std.specs.List.{count_by}
use Rattle.paxos_proposer.specs.declared.moves.Move.{Move}
use Rattle.paxos_proposer.specs.declared.moves.Move.TheVariants.{Saw, Started, Promised, Nacked, SteppedDown, Submitted, Raised}
use Rattle.paxos_proposer.specs.Proposer.{is_spent, is_leading, slots_spent}
use Rattle.paxos_proposer.specs.State.{State, saw, started, after_promise, after_nack, stepped_down, after_submit, after_raise}

-- each is what the call makes of it
abbrev pub after_move : {B : Type 0} → Move B → State B → State B
after_move (Saw round) s = saw round s
after_move (Started first floor votes) s = started first floor votes s
after_move (Promised node b floor votes own) s = after_promise node b floor votes own s
after_move (Nacked b p) s = after_nack b p s
after_move (SteppedDown b) s = stepped_down b s
after_move (Submitted e) s = after_submit e s
after_move (Raised floor) s = after_raise floor s

abbrev pub after_moves : {B : Type 0} → List (Move B) → State B → State B
after_moves [] s = s
after_moves (m ∷ ms) s = after_moves ms (after_move m s)

-- a ballot is begun if a round is left, and an entry is proposed by a leader that has a slot left
abbrev pub IsPossible : {B : Type 0} → Move B → State B → Type 0
IsPossible (Saw round) s = Unit {0}
IsPossible (Started first floor votes) s = (1 ≤ first) × (is_spent s.proposer ≡ false)
IsPossible (Promised node b floor votes own) s = Unit {0}
IsPossible (Nacked b p) s = Unit {0}
IsPossible (SteppedDown b) s = Unit {0}
IsPossible (Submitted e) s = (is_leading s.proposer.role ≡ true) × (slots_spent s.proposer.role ≡ false)
IsPossible (Raised floor) s = Unit {0}

abbrev pub ArePossible : {B : Type 0} → List (Move B) → State B → Type 0
ArePossible [] s = Unit {0}
ArePossible (m ∷ ms) s = IsPossible m s × ArePossible ms (after_move m s)

-- for which of them a promise is kept, and for which a proposal
abbrev pub keeps_promise : {B : Type 0} → Move B → Bool
keeps_promise (Saw round) = false
keeps_promise (Started first floor votes) = true
keeps_promise (Promised node b floor votes own) = true
keeps_promise (Nacked b p) = false
keeps_promise (SteppedDown b) = false
keeps_promise (Submitted e) = false
keeps_promise (Raised floor) = false

abbrev pub keeps_proposal : {B : Type 0} → Move B → Bool
keeps_proposal (Saw round) = false
keeps_proposal (Started first floor votes) = false
keeps_proposal (Promised node b floor votes own) = false
keeps_proposal (Nacked b p) = false
keeps_proposal (SteppedDown b) = false
keeps_proposal (Submitted e) = true
keeps_proposal (Raised floor) = false

abbrev pub promises_in : {B : Type 0} → List (Move B) → ℕ
promises_in moves = count_by keeps_promise moves

abbrev pub proposals_in : {B : Type 0} → List (Move B) → ℕ
proposals_in moves = count_by keeps_proposal moves
