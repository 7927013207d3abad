-- Votes: which are equal, given a test for bodies, and votes by slot, at most one in each, by ascending slot.
use Rattle.std.proofs.Common.{◌≡◌, ℕ, suc, Bool, true, ◌&&◌, List, [], ◌∷◌, Option}
use Rattle.std.specs.Prelude.{nat_lt, nat_le, ◌==◌, ◌++◌, filter, fold, map, option_to_list, if◌then◌else◌}
use Rattle.std.specs.List.{find}
use Rattle.std.specs.List.Sorted.{IsStrictlySortedBy}
use Rattle.std.specs.Ordering.{nat_cmp}
use Rattle.std.specs.Cmp.Lexicographic.{pointwise}
use Rattle.std.proofs.lemmas.Bool.{and_parts, and_from}
use Rattle.paxos_packets.specs.Ballot.{same_ballot, ballot_same, ballot_sound}
use Rattle.paxos_packets.specs.Body.{IsEquality, number_same, numbers_joined}
use Rattle.paxos_packets.specs.Entry.{same_entry, entry_equality}
use Rattle.paxos_packets.specs.List.{list_equality}
use Rattle.paxos_packets.specs.declared.vote.Vote.{Vote}

-- the slots ascend
abbrev pub IsAscending : {B : Type 0} → List (Vote B) → Type 0
IsAscending votes = IsStrictlySortedBy nat_cmp (map (λ v. v.slot) votes)

-- how many votes are for lower slots
abbrev pub place : {B : Type 0} → ℕ → List (Vote B) → ℕ
place slot [] = 0
place slot (v ∷ vs) = if nat_lt v.slot slot then suc (place slot vs) else 0

-- the slot's vote
abbrev pub vote_in : {B : Type 0} → ℕ → List (Vote B) → Option (Vote B)
vote_in slot votes = find (λ v. v.slot == slot) votes

-- the vote in its slot, in the place of the one that was there
abbrev pub put_vote : {B : Type 0} → Vote B → List (Vote B) → List (Vote B)
put_vote v [] = v ∷ []
put_vote v (w ∷ ws) =
    if v.slot == w.slot then v ∷ ws
    else (if nat_lt v.slot w.slot then v ∷ (w ∷ ws)
    else w ∷ put_vote v ws)

-- these votes, one after the other
abbrev pub put_votes : {B : Type 0} → List (Vote B) → List (Vote B) → List (Vote B)
put_votes vs ws = fold (λ us v. put_vote v us) ws vs

-- another vote for the slot, or none, in the place of the one that is there, if one is
abbrev pub put_back : {B : Type 0} → ℕ → Option (Vote B) → List (Vote B) → List (Vote B)
put_back slot other [] = []
put_back slot other (w ∷ ws) = if slot == w.slot then option_to_list other ++ ws else w ∷ put_back slot other ws

-- the votes from a slot on
abbrev pub votes_from : {B : Type 0} → ℕ → List (Vote B) → List (Vote B)
votes_from first votes = filter (λ v. nat_le first v.slot) votes

-- equality of votes

abbrev pub same_vote : {B : Type 0} → (B → B → Bool) → Vote B → Vote B → Bool
same_vote same v w = (v.slot == w.slot) && (same_ballot v.ballot w.ballot && same_entry same v.entry w.entry)

-- the test is equality
pub vote_equality : {B : Type 0} (same : B → B → Bool) → IsEquality same → IsEquality (same_vote same)
vote_equality {B} same ok = record { reflexive = all; sound = equal }
  where
    all : (v : Vote B) → same_vote same v v ≡ true
    all v = and_from _ _ (number_same v.slot) (and_from _ _ (ballot_same v.ballot) ((entry_equality same ok).reflexive v.entry))

    equal : (v w : Vote B) → same_vote same v w ≡ true → v ≡ w
    equal v w h =
        let k = numbers_joined v.slot w.slot _ h in
        let l = and_parts (same_ballot v.ballot w.ballot) (same_entry same v.entry w.entry) k.1 in
        let p = ballot_sound v.ballot w.ballot l.0 in
        let q = (entry_equality same ok).sound v.entry w.entry l.1 in
        λ i. record { slot = k.0 i; ballot = p i; entry = q i }

pub votes_equality : {B : Type 0} (same : B → B → Bool) → IsEquality same → IsEquality (pointwise (same_vote same))
votes_equality same ok = list_equality (same_vote same) (vote_equality same ok)
