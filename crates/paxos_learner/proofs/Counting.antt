-- One vote is no majority, and a vote that was heard counts at its place.
use Rattle.std.proofs.Common.{◌≡◌, ℕ, zero, suc, ◌<◌, ◌≤◌, Bool, true, false, cond, Option, Some, None, is_some, List, [], ◌∷◌}
use Rattle.std.proofs.Common.{refl, sym, ap, ◌∙◌, subst, arith}
use Rattle.std.proofs.lemmas.Bool.{and_from, and_right}
use Rattle.std.proofs.lemmas.Bool.Decides.{nat_tests}
use Rattle.paxos_packets.specs.Ballot.{ballot_same}
use Rattle.paxos_packets.specs.Body.{number_same}
use Rattle.paxos_packets.specs.declared.entry.Entry.{Entry}
use Rattle.paxos_packets.specs.declared.vote.Vote.{Vote}
use Rattle.paxos_learner.specs.declared.learned.LearnedEntry.{LearnedEntry}
use Rattle.paxos_learner.specs.Learner.{LearnerState, State}
use Rattle.paxos_learner.specs.declared.tallies.SlotBallot.{SlotBallot}
use Rattle.paxos_learner.specs.Tallies.{Heard, same_place, place_of, nodes_heard, hear, insert_entry}
use Rattle.paxos_learner.specs.Learned.{is_closed}
use Rattle.paxos_learner.specs.Learner.{learned_at, is_learned, put_learned, learn, learn_among, is_other, disagrees, hears, has_most, count_vote, vote_disagrees}
use Rattle.paxos_learner.proofs.Ahead.{learned_is}
use Rattle.std.specs.Option.{unwrap_or}
use Rattle.std.specs.Map.{lookup}
use Rattle.paxos_packets.specs.Members.{is_majority, is_in, no_nodes, set_with}

below_eight : (P : ℕ → Type 0) → P 3 → P 4 → P 5 → P 6 → P 7 → (m : ℕ) → 3 ≤ m → m ≤ 7 → P m
below_eight P a b c d e zero l h = absurd (omega arith)
below_eight P a b c d e (suc zero) l h = absurd (omega arith)
below_eight P a b c d e (suc (suc zero)) l h = absurd (omega arith)
below_eight P a b c d e (suc (suc (suc zero))) l h = a
below_eight P a b c d e (suc (suc (suc (suc zero)))) l h = b
below_eight P a b c d e (suc (suc (suc (suc (suc zero))))) l h = c
below_eight P a b c d e (suc (suc (suc (suc (suc (suc zero)))))) l h = d
below_eight P a b c d e (suc (suc (suc (suc (suc (suc (suc zero))))))) l h = e
below_eight P a b c d e (suc (suc (suc (suc (suc (suc (suc (suc m)))))))) l h = absurd (omega arith)

abbrev IsAlone : ℕ → ℕ → Type 0
IsAlone node members = is_majority members (is_in (set_with no_nodes node)) ≡ false

-- of three to seven members one is no majority
pub one_is_few : (members node : ℕ) → 3 ≤ members → members ≤ 7 → is_majority members (is_in (set_with no_nodes node)) ≡ false
one_is_few m zero l h = below_eight (IsAlone 0) refl refl refl refl refl m l h
one_is_few m (suc zero) l h = below_eight (IsAlone 1) refl refl refl refl refl m l h
one_is_few m (suc (suc zero)) l h = below_eight (IsAlone 2) refl refl refl refl refl m l h
one_is_few m (suc (suc (suc zero))) l h = below_eight (IsAlone 3) refl refl refl refl refl m l h
one_is_few m (suc (suc (suc (suc zero)))) l h = below_eight (IsAlone 4) refl refl refl refl refl m l h
one_is_few m (suc (suc (suc (suc (suc zero))))) l h = below_eight (IsAlone 5) refl refl refl refl refl m l h
one_is_few m (suc (suc (suc (suc (suc (suc zero)))))) l h = below_eight (IsAlone 6) refl refl refl refl refl m l h
one_is_few m (suc (suc (suc (suc (suc (suc (suc zero))))))) l h = below_eight (IsAlone 7) refl refl refl refl refl m l h
one_is_few m (suc (suc (suc (suc (suc (suc (suc (suc k)))))))) l h =
    below_eight (λ n. is_majority n (is_in (set_with no_nodes (suc (suc (suc (suc (suc (suc (suc (suc k)))))))))) ≡ false) refl refl refl refl refl m l h

-- what was heard at a place after one more vote there

pub place_same : (p : SlotBallot) → same_place p p ≡ true
place_same p = and_from _ _ (number_same p.slot) (ballot_same p.ballot)

put_there : (p : SlotBallot) (set : List Bool) (heard : Heard) → lookup (same_place p) (insert_entry same_place heard p set) ≡ Some set
put_there p set [] = rw (place_same p) refl
put_there p set (t ∷ ts) = go (same_place p t.0) refl (put_there p set ts)
  where
    go : (b : Bool) → same_place p t.0 ≡ b → lookup (same_place p) (insert_entry same_place ts p set) ≡ Some set
        → lookup (same_place p) (cond b ((t.0, set) ∷ ts) (t ∷ insert_entry same_place ts p set)) ≡ Some set
    go true e more = rw e refl
    go false e more = rw e more

heard_then : (node : ℕ) (p : SlotBallot) (heard : Heard) → nodes_heard p (hear node p heard) ≡ set_with (nodes_heard p heard) node
heard_then node p heard = ap (λ o. unwrap_or o no_nodes) (put_there p (set_with (nodes_heard p heard) node) heard)

pub heard_before : (members node : ℕ) (p : SlotBallot) (heard : Heard) → 3 ≤ members → members ≤ 7
    → is_majority members (is_in (set_with (nodes_heard p heard) node)) ≡ true → lookup (same_place p) heard ≡ None → ⊥
heard_before members node p heard l h m n =
    let few = one_is_few members node l h in
    let k : is_majority members (is_in (set_with no_nodes node)) ≡ true = subst
    (λ (o : Option (List Bool)). is_majority members (is_in (set_with (unwrap_or o no_nodes) node)) ≡ true) n m in
    cc

-- what is learned

pub learn_known : {B : Type 0} (slot : ℕ) (e d : Entry B) (ls : List (LearnedEntry B)) → Some d ≡ learned_at slot ls → ls ≡ learn_among slot e ls
learn_known slot e d ls h = let k : is_learned slot ls ≡ true = learned_is slot ls ∙ sym (ap is_some h) in rw k refl

pub learn_new : {B : Type 0} (slot : ℕ) (e : Entry B) (ls : List (LearnedEntry B)) → None ≡ learned_at slot ls
    → put_learned (record { slot = slot; entry = e }) ls ≡ learn_among slot e ls
learn_new slot e ls h = let k : is_learned slot ls ≡ false = learned_is slot ls ∙ sym (ap is_some h) in rw k refl

pub open_above : (floor slot : ℕ) → is_closed floor slot ≡ false → floor < slot
open_above floor slot o = grind (arith, nat_tests)

pub state_same : {B : Type 0} (members floor f : ℕ) (heard h : Heard) (learned ls : List (LearnedEntry B)) → floor ≡ f → heard ≡ h → learned ≡ ls
    → ◌≡◌ {A = State B} (record { members = members; learner = record { floor = floor; heard = heard; learned = learned } })
    (record { members = members; learner = record { floor = f; heard = h; learned = ls } })
state_same members floor f heard h learned ls p q r =
    λ i. record { members = members; learner = record { floor = p i; heard = q i; learned = r i } }

-- above the floor
pub learn_parts : {B : Type 0} (slot : ℕ) (e : Entry B) (l : LearnerState B) → is_closed l.floor slot ≡ false
    → learn slot e l ≡ record { floor = l.floor; heard = l.heard; learned = learn_among slot e l.learned }
learn_parts {B} slot e l o = rw o (go (is_learned slot l.learned))
  where
    go : (b : Bool)
        → cond b l (record { floor = l.floor; heard = l.heard; learned = put_learned (record { slot = slot; entry = e }) l.learned })
        ≡ record { floor = l.floor; heard = l.heard; learned = cond b l.learned (put_learned (record { slot = slot; entry = e }) l.learned) }
    go true = refl
    go false = refl

-- and at or below it
pub learn_closed : {B : Type 0} (slot : ℕ) (e : Entry B) (l : LearnerState B) → is_closed l.floor slot ≡ true → l ≡ learn slot e l
learn_closed slot e l o = rw o refl

pub closed_voted : {B : Type 0} (members node : ℕ) (v : Vote B) (l : LearnerState B) → is_closed l.floor v.slot ≡ true
    → l ≡ count_vote members node v l
closed_voted members node v l o = rw o refl

pub closed_agrees : {B : Type 0} (same : B → B → Bool) (slot : ℕ) (e : Entry B) (l : LearnerState B) → is_closed l.floor slot ≡ true
    → disagrees same slot e l ≡ false
closed_agrees same slot e l o = rw o refl

pub closed_votes_agree : {B : Type 0} (same : B → B → Bool) (members node : ℕ) (v : Vote B) (l : LearnerState B) → is_closed l.floor v.slot ≡ true
    → vote_disagrees same members node v l ≡ false
closed_votes_agree same members node v l o =
    and_right (has_most members v (hears node v l)) (disagrees same v.slot v.entry l) (closed_agrees same v.slot v.entry l o)

pub open_disagrees : {B : Type 0} (same : B → B → Bool) (slot : ℕ) (e : Entry B) (l : LearnerState B) → is_closed l.floor slot ≡ false
    → is_other same e (learned_at slot l.learned) ≡ disagrees same slot e l
open_disagrees same slot e l o = rw o refl

pub most_then : {B : Type 0} (members node : ℕ) (v : Vote B) (l : LearnerState B)
    → has_most members v (hears node v l) ≡ is_majority members (is_in (set_with (nodes_heard (place_of v) l.heard) node))
most_then members node v l = ap (λ (set : List Bool). is_majority members (is_in set)) (heard_then node (place_of v) l.heard)

pub few_voted : {B : Type 0} (members node : ℕ) (v : Vote B) (l : LearnerState B) → is_closed l.floor v.slot ≡ false
    → is_majority members (is_in (set_with (nodes_heard (place_of v) l.heard) node)) ≡ false → hears node v l ≡ count_vote members node v l
few_voted {B} members node v l o h =
    let heard : LearnerState B = hears node v l in
    let k : has_most members v heard ≡ false = most_then members node v l ∙ h in
    λ i. cond {A = LearnerState B} (sym o i) l (cond {A = LearnerState B} (sym k i) (learn v.slot v.entry heard) heard)

pub few_agree : {B : Type 0} (same : B → B → Bool) (members node : ℕ) (v : Vote B) (l : LearnerState B)
    → is_majority members (is_in (set_with (nodes_heard (place_of v) l.heard) node)) ≡ false → vote_disagrees same members node v l ≡ false
few_agree same members node v l h = let k = most_then members node v l ∙ h in rw k refl

pub most_voted : {B : Type 0} (members node : ℕ) (v : Vote B) (l : LearnerState B) → is_closed l.floor v.slot ≡ false
    → is_majority members (is_in (set_with (nodes_heard (place_of v) l.heard) node)) ≡ true
    → record { floor = l.floor; heard = hear node (place_of v) l.heard; learned = learn_among v.slot v.entry l.learned }
    ≡ count_vote members node v l
most_voted {B} members node v l o h =
    let heard : LearnerState B = hears node v l in
    let k : has_most members v heard ≡ true = most_then members node v l ∙ h in
    let counted : learn v.slot v.entry heard ≡ count_vote members node v l =
    (λ i. cond {A = LearnerState B} (sym o i) l (cond {A = LearnerState B} (sym k i) (learn v.slot v.entry heard) heard)) in
    sym (learn_parts v.slot v.entry heard o) ∙ counted

pub most_disagree : {B : Type 0} (same : B → B → Bool) (members node : ℕ) (v : Vote B) (l : LearnerState B)
    → is_majority members (is_in (set_with (nodes_heard (place_of v) l.heard) node)) ≡ true
    → disagrees same v.slot v.entry l ≡ vote_disagrees same members node v l
most_disagree same members node v l h = let k = most_then members node v l ∙ h in rw k refl

pub most_agree : {B : Type 0} (same : B → B → Bool) (members node : ℕ) (v : Vote B) (l : LearnerState B) → is_closed l.floor v.slot ≡ false
    → is_majority members (is_in (set_with (nodes_heard (place_of v) l.heard) node)) ≡ true
    → is_other same v.entry (learned_at v.slot l.learned) ≡ vote_disagrees same members node v l
most_agree same members node v l o h = open_disagrees same v.slot v.entry l o ∙ most_disagree same members node v l h
