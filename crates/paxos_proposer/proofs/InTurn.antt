-- What a leader proposed is in the slots up to the next one, one in each: those after the first n slots are a tail.
use Rattle.std.proofs.Common.{◌≡◌, ℕ, zero, suc, ◌+◌, ◌-◌, ◌<◌, ◌≤◌, false, Some, List, [], ◌∷◌, ◌++◌, take, drop, length, min, max, ltb}
use Rattle.std.proofs.Common.{refl, sym, ap, subst, ◌∙◌, arith, ◌⊎◌, inl, inr}
use Rattle.std.proofs.lemmas.Bool.{lt-ltb, cases_lt}
use Rattle.std.proofs.lemmas.Bool.Decides.{nat_tests}
use Rattle.std.proofs.lemmas.List.{take_all, drop_min, length-drop}
use Rattle.std.specs.List.{slice_get}
use Rattle.paxos_packets.specs.declared.vote.Vote.{Vote}
use Rattle.paxos_proposer.specs.declared.phase.Phase.{Phase}
use Rattle.paxos_proposer.specs.declared.phase.Phase.TheVariants as Kept
use Rattle.paxos_proposer.specs.declared.promises.CountedPromise.{CountedPromise}
use Rattle.paxos_proposer.specs.Proposals.{behind, AreUpTo, AreInSlots, ProposesInTurn}
use Rattle.paxos_proposer.specs.Proposing.{proposals_of}
use Rattle.paxos_proposer.specs.State.{role_of, IsInTurn}

not_lt : (a b : ℕ) → b ≤ a → ltb a b ≡ false
not_lt a b h = grind (arith, nat_tests)

all_behind : {B : Type 0} (applied next : ℕ) (vs : List (Vote B)) → suc applied + length vs ≤ next → AreUpTo next vs → behind applied vs ≡ vs
all_behind applied next [] l a = refl
all_behind {B} applied next (v ∷ vs) l a =
    let h : v.slot + suc (length vs) ≡ next = a.1 in
    rw (lt-ltb applied v.slot (omega arith)) (ap (λ (ws : List (Vote B)). v ∷ ws) (all_behind applied next vs (omega arith) a.2))

dropped : {B : Type 0} (applied next k : ℕ) (vs : List (Vote B)) → next + k ≡ suc applied + length vs → AreUpTo next vs → behind applied vs ≡ drop k vs
dropped applied next zero vs p a = all_behind applied next vs (omega arith) a
dropped applied next (suc k) [] p a = refl
dropped applied next (suc k) (v ∷ vs) p a =
    let h : v.slot + suc (length vs) ≡ next = a.1 in
    rw (not_lt applied v.slot (omega arith)) (dropped applied next k vs (omega arith) a.2)

from_first : {B : Type 0} (applied passed next : ℕ) (v : Vote B) (vs : List (Vote B)) → passed ≡ applied - (v.slot - 1) → AreUpTo next (v ∷ vs)
    → behind applied (v ∷ vs) ≡ drop passed (v ∷ vs)
from_first {B} applied passed next v vs p a = go (cases_lt applied v.slot)
  where
    go : (applied < v.slot) ⊎ (v.slot ≤ applied) → behind applied (v ∷ vs) ≡ drop passed (v ∷ vs)
    go (inl l) =
        let h : v.slot + suc (length vs) ≡ next = a.1 in
        let m : 1 ≤ v.slot = a.0 in
        let z : 0 ≡ passed = omega arith in
        all_behind applied next (v ∷ vs) (omega arith) a ∙ ap (λ (k : ℕ). drop k (v ∷ vs)) z
    go (inr l) =
        let h : v.slot + suc (length vs) ≡ next = a.1 in
        let m : 1 ≤ v.slot = a.0 in
        dropped applied next passed (v ∷ vs) (omega arith) a

pub tail_of : {B : Type 0} (applied passed shown : ℕ) (v : Vote B) (vs : List (Vote B)) → Some v ≡ slice_get vs 0 → passed ≡ applied - (v.slot - 1)
    → shown ≡ min passed (length vs) → (next : ℕ) × AreUpTo next vs → take (length vs - shown) (drop shown vs) ≡ behind applied vs
tail_of {B} applied passed shown v [] e p s a = absurd (cc)
tail_of {B} applied passed shown v (w ∷ ws) e p s a =
    let same : v ≡ w = cc in
    let q : passed ≡ applied - (w.slot - 1) = p ∙ ap (λ (u : Vote B). applied - (u.slot - 1)) same in
    let whole : take (length (w ∷ ws) - shown) (drop shown (w ∷ ws)) ≡ drop shown (w ∷ ws) =
    take_all (length (w ∷ ws) - shown) (drop shown (w ∷ ws)) (let k = length-drop shown (w ∷ ws) in omega arith) in
    whole ∙ ap (λ (k : ℕ). drop k (w ∷ ws)) s ∙ drop_min passed (w ∷ ws) ∙ sym (from_first applied passed a.0 w ws q a.1)

-- what is after a floor is in turn, too

none_behind : {B : Type 0} (floor next : ℕ) (vs : List (Vote B)) → next ≤ suc floor → AreUpTo next vs → behind floor vs ≡ []
none_behind floor next [] l a = refl
none_behind floor next (v ∷ vs) l a =
    let h : v.slot + suc (length vs) ≡ next = a.1 in
    rw (not_lt floor v.slot (omega arith)) (none_behind floor next vs l a.2)

up_to_behind : {B : Type 0} (floor next : ℕ) (vs : List (Vote B)) → AreUpTo next vs → AreUpTo next (behind floor vs)
up_to_behind floor next [] a = tt
up_to_behind {B} floor next (v ∷ vs) a = go (cases_lt floor v.slot) (up_to_behind floor next vs a.2)
  where
    go : (floor < v.slot) ⊎ (v.slot ≤ floor) → AreUpTo next (behind floor vs) → AreUpTo next (behind floor (v ∷ vs))
    go (inl l) more =
        let h : v.slot + suc (length vs) ≡ next = a.1 in
        subst (λ (ws : List (Vote B)). AreUpTo next ws) (sym (all_behind floor next (v ∷ vs) (omega arith) a)) a
    go (inr l) more = rw (not_lt floor v.slot l) more

pub raised_in_turn : {B : Type 0} (floor next : ℕ) (vs : List (Vote B)) → AreUpTo next vs → AreUpTo (max next (suc floor)) (behind floor vs)
raised_in_turn {B} floor next vs a = go (cases_lt floor next)
  where
    go : (floor < next) ⊎ (next ≤ floor) → AreUpTo (max next (suc floor)) (behind floor vs)
    go (inl l) =
        let same : next ≡ max next (suc floor) = omega arith in
        subst (λ (n : ℕ). AreUpTo n (behind floor vs)) same (up_to_behind floor next vs a)
    go (inr l) =
        subst (λ (ws : List (Vote B)). AreUpTo (max next (suc floor)) ws) (sym (none_behind floor next vs (omega arith) a)) tt

-- and none is in a slot 0
in_slots : {B : Type 0} (next : ℕ) (vs : List (Vote B)) → AreUpTo next vs → AreInSlots vs
in_slots next [] a = tt
in_slots next (v ∷ vs) a = (a.0, in_slots next vs a.2)

-- one more is proposed in the next slot

longer : {X : Type 0} (xs : List X) (x : X) → length (xs ++ x ∷ []) ≡ suc (length xs)
longer [] x = refl
longer (y ∷ ys) x = let h = longer ys x in omega arith

pub one_more : {B : Type 0} (next : ℕ) (vs : List (Vote B)) (v : Vote B) → 1 ≤ next → v.slot ≡ next → AreUpTo next vs → AreUpTo (next + 1) (vs ++ v ∷ [])
one_more next [] v l e a = (omega arith, omega arith, tt)
one_more next (w ∷ ws) v l e a =
    let h : w.slot + suc (length ws) ≡ next = a.1 in
    let k : length (ws ++ v ∷ []) ≡ suc (length ws) = longer ws v in
    (a.0, omega arith, one_more next ws v l e a.2)

pub in_role : {B : Type 0} (p : Phase) (cs : List (CountedPromise B)) (vs : List (Vote B)) → IsInTurn p vs → AreInSlots (proposals_of (role_of p cs vs))
in_role Kept.Idle cs vs t = tt
in_role (Kept.Preparing b first) cs vs t = tt
in_role (Kept.Leading b next) cs vs t = in_slots next vs t

pub turn_in_role : {B : Type 0} (p : Phase) (cs : List (CountedPromise B)) (vs : List (Vote B)) → IsInTurn p vs → ProposesInTurn (role_of p cs vs)
turn_in_role Kept.Idle cs vs t = tt
turn_in_role (Kept.Preparing b first) cs vs t = tt
turn_in_role (Kept.Leading b next) cs vs t = t
