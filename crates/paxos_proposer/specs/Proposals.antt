-- Proposals of one ballot, and which entries stand: are proposed in a slot that is not applied yet (Lamport 2001, section 3).
use Rattle.std.specs.Prelude.{◌≡◌, ℕ, suc, ◌+◌, Bool, false, ◌&&◌, nat_lt, Option, Some, None, List, [], ◌∷◌, ◌≤◌, filter, length}
use Rattle.std.specs.List.{list_any}
use Rattle.std.specs.Map.{lookup}
use Rattle.paxos_packets.specs.Entry.{same_entry}
use Rattle.paxos_packets.specs.declared.entry.Entry.{Entry}
use Rattle.paxos_packets.specs.declared.vote.Vote.{Vote}
use Rattle.paxos_proposer.specs.declared.identity.Identity.{Identity}
use Rattle.paxos_proposer.specs.Identity.{identity_of, same_identity}
use Rattle.paxos_proposer.specs.Role.{Role, Idle, Preparing, Leading}

-- what callers see of proposals: the votes, and for how many more there is memory
pub record KeptProposals (B : Type 0) : Type 0 where
  pub votes : List (Vote B)
  pub room : ℕ

-- the entry is proposed in a slot after those that are applied
abbrev pub stands_among : {B : Type 0} → (B → B → Bool) → ℕ → Entry B → List (Vote B) → Bool
stands_among same applied e votes = list_any (λ v. nat_lt applied v.slot && same_entry same v.entry e) votes

-- it is proposed in this ballot, in a slot that isn't applied yet
abbrev pub stands : {B : Type 0} → (B → B → Bool) → ℕ → Role B → Entry B → Bool
stands same applied Idle e = false
stands same applied (Preparing b first promises) e = false
stands same applied (Leading b next proposed) e = stands_among same applied e proposed

-- those in slots after the ones that are applied
abbrev pub behind : {B : Type 0} → ℕ → List (Vote B) → List (Vote B)
behind applied votes = filter (λ v. nat_lt applied v.slot) votes

-- they are in the slots right below this one, one in each, and none in a slot 0
abbrev pub AreUpTo : {B : Type 0} → ℕ → List (Vote B) → Type 0
AreUpTo next [] = Unit {0}
AreUpTo next (v ∷ vs) = (1 ≤ v.slot) × (v.slot + suc (length vs) ≡ next) × AreUpTo next vs

-- none is in a slot 0
abbrev pub AreInSlots : {B : Type 0} → List (Vote B) → Type 0
AreInSlots [] = Unit {0}
AreInSlots (v ∷ vs) = (1 ≤ v.slot) × AreInSlots vs

-- what a leader proposed is in slots that follow one another, up to its next one
abbrev pub ProposesInTurn : {B : Type 0} → Role B → Type 0
ProposesInTurn Idle = Unit {0}
ProposesInTurn (Preparing b first promises) = Unit {0}
ProposesInTurn (Leading b next proposed) = AreUpTo next proposed

-- how they are found: the table has the greatest slot of each identity, or one above it

abbrev pub IsUpTo : ℕ → Option ℕ → Type 0
IsUpTo slot None = ⊥
IsUpTo slot (Some latest) = slot ≤ latest

abbrev pub AreListed : {B : Type 0} → List (Identity × ℕ) → List (Vote B) → Type 0
AreListed table [] = Unit {0}
AreListed table (v ∷ vs) = IsUpTo v.slot (lookup (same_identity (identity_of v.entry)) table) × AreListed table vs

-- no slot that the table has is above this one
abbrev pub IsOld : ℕ → Option ℕ → Type 0
IsOld slot None = Unit {0}
IsOld slot (Some latest) = latest ≤ slot
