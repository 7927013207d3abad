-- Whether a round is left for a ballot above all that was seen and promised.
use Rattle.std.proofs.Common.{◌≡◌, ◌<◌, ◌≤◌, ℕ, suc, Bool, true, false, cond, not, ◌&&◌, max, Result, Ok, Err, Option, Some, None, refl, sym, ap, ◌∙◌, arith}
use Rattle.std.specs.Prelude.{nat_lt, is_some}
use Rattle.std.proofs.lemmas.Bool.{lt-ltb, le-ltb, ltb-true, ltb-false}
use Rattle.paxos_packets.specs.declared.ballot.Ballot.{Ballot}
use Rattle.paxos_proposer.specs.declared.fault.ProposerFault.{ProposerFault}
use Rattle.paxos_proposer.specs.declared.fault.ProposerFault.TheVariants.{Rounds}
use Rattle.paxos_proposer.specs.Role.{ProposerState}
use Rattle.paxos_proposer.specs.Proposer.{round_end, round_of, rounds_spent, own_ballot, is_spent}
use Rattle.paxos_planning.specs.Drafting.{next_own}

some_own : (b : Bool) (c : Ballot) → is_some (cond b None (Some c)) ≡ not b
some_own true c = refl
some_own false c = refl

both_below : (s r : ℕ) → nat_lt r 281474976710655 && not (not (nat_lt (suc s) round_end)) ≡ not (not (nat_lt (suc (max s r)) round_end))
unfolding round_end
both_below s r = go (nat_lt r 281474976710655) (nat_lt (suc s) 281474976710656) refl refl
  where
    go : (a b : Bool) → nat_lt r 281474976710655 ≡ a → nat_lt (suc s) 281474976710656 ≡ b
        → a && not (not b) ≡ not (not (nat_lt (suc (max s r)) 281474976710656))
    go true true p q =
        let k : r < 281474976710655 = ltb-true r 281474976710655 p in
        let l : suc s < 281474976710656 = ltb-true (suc s) 281474976710656 q in
        ap (λ (x : Bool). not (not x)) (sym (lt-ltb (suc (max s r)) 281474976710656 (omega arith)))
    go true false p q =
        let l : 281474976710656 ≤ suc s = ltb-false (suc s) 281474976710656 q in
        ap (λ (x : Bool). not (not x)) (sym (le-ltb (suc (max s r)) 281474976710656 (omega arith)))
    go false b p q =
        let k : 281474976710655 ≤ r = ltb-false r 281474976710655 p in
        ap (λ (x : Bool). not (not x)) (sym (le-ltb (suc (max s r)) 281474976710656 (omega arith)))

pub round_is_left : {B : Type 0} (me : ℕ) (promised : Option Ballot) (p : ProposerState B)
    → nat_lt (round_of promised) 281474976710655 && is_some (next_own me p) ≡ not (rounds_spent me promised p)
round_is_left me promised p =
    ap (λ (x : Bool). nat_lt (round_of promised) 281474976710655 && x) (some_own (is_spent p) (own_ballot me p)) ∙ both_below p.seen (round_of promised)

-- the ballot that is begun next

pub next_is : {B : Type 0} (me : ℕ) (p : ProposerState B) (b : Ballot) → b ≡ own_ballot me p
    → (is_spent p ≡ true → ◌≡◌ {A = Result Ballot ProposerFault} (Ok b) (Err Rounds)) → ◌≡◌ {A = Option Ballot} (Some b) (next_own me p)
next_is me p b e spent = go (is_spent p) refl
  where
    go : (t : Bool) → is_spent p ≡ t → ◌≡◌ {A = Option Ballot} (Some b) (cond t None (Some (own_ballot me p)))
    go true h = let k : ◌≡◌ {A = Result Ballot ProposerFault} (Ok b) (Err Rounds) = spent h in absurd (cc)
    go false h = ap Some e

pub left_then : {B : Type 0} (me : ℕ) (promised : Option Ballot) (p : ProposerState B) (n : ℕ) (o : Option Ballot) (b : Bool)
    → n ≡ round_of promised → n < 281474976710655 → o ≡ next_own me p → b ≡ is_some o → b ≡ not (rounds_spent me promised p)
left_then me promised p n o b e l h k =
    let t : nat_lt n 281474976710655 ≡ true = lt-ltb n 281474976710655 l in
    k ∙ ap is_some h ∙ (λ i. sym t i && is_some (next_own me p)) ∙ (λ i. nat_lt (e i) 281474976710655 && is_some (next_own me p))
    ∙ round_is_left me promised p

pub left_else : {B : Type 0} (me : ℕ) (promised : Option Ballot) (p : ProposerState B) (n : ℕ) → n ≡ round_of promised → 281474976710655 ≤ n
    → nat_lt n 281474976710655 ≡ not (rounds_spent me promised p)
left_else me promised p n e l =
    let t : nat_lt n 281474976710655 ≡ false = le-ltb n 281474976710655 l in
    t ∙ (λ i. sym t i && is_some (next_own me p)) ∙ (λ i. nat_lt (e i) 281474976710655 && is_some (next_own me p)) ∙ round_is_left me promised p
