-- Another vote is put in the place of a slot's vote.
use Rattle.std.proofs.Common.{◌≡◌, ℕ, suc, ◌<◌, ◌≤◌, Bool, true, false, cond, Option, Some, None, is_some, List, [], ◌∷◌, ◌++◌}
use Rattle.std.proofs.Common.{set, take, drop, ltb, eqb, refl, ap, sym, ◌∙◌, arith}
use Rattle.std.specs.Prelude.{IfSome, option_to_list}
use Rattle.std.proofs.lemmas.Bool.{ltb-true, eqb-true, false≢true}
use Rattle.std.proofs.lemmas.Bool.Decides.{nat_tests}
use Rattle.paxos_packets.proofs.Ascending.{AllAfter, Ascends}
use Rattle.paxos_packets.specs.Body.{number_same}
use Rattle.paxos_packets.specs.Vote.{place, put_back, put_vote, vote_in}
use Rattle.paxos_packets.specs.declared.vote.Vote.{Vote}

lt_false : (a b : ℕ) → ltb a b ≡ false → b ≤ a
lt_false a b h = grind (arith, nat_tests)

not_eq : (a b : ℕ) → a < b → eqb a b ≡ false
not_eq a b h = grind (arith, nat_tests)

not_eq_back : (a b : ℕ) → a < b → eqb b a ≡ false
not_eq_back a b h = grind (arith, nat_tests)

not_lt : (a b : ℕ) → b ≤ a → ltb a b ≡ false
not_lt a b h = grind (arith, nat_tests)

other_way : (a b : ℕ) → eqb a b ≡ false → eqb b a ≡ false
other_way a b e = grind (arith, nat_tests)

other_tells : (a b : ℕ) → eqb a b ≡ true → eqb b a ≡ true
other_tells a b e = grind (arith, nat_tests)

less_than : (a b : ℕ) → eqb a b ≡ false → ltb a b ≡ false → b < a
less_than a b e l = grind (arith, nat_tests)

none_after : {B : Type 0} (slot low : ℕ) (vs : List (Vote B)) → low ≤ slot → AllAfter slot vs → vote_in low vs ≡ None
none_after slot low [] g h = refl
none_after slot low (v ∷ vs) g h =
    let k : slot < v.slot = h.0 in
    let e : eqb v.slot low ≡ false = not_eq_back low v.slot (omega arith) in
    rw e (none_after slot low vs g h.1)

-- if the slot has no vote nothing changes
pub back_none : {B : Type 0} (slot : ℕ) (other : Option (Vote B)) (vs : List (Vote B)) → is_some (vote_in slot vs) ≡ false → put_back slot other vs ≡ vs
back_none slot other [] h = refl
back_none {B} slot other (v ∷ vs) h = go (eqb v.slot slot) refl h (back_none slot other vs)
  where
    go : (b : Bool) → eqb v.slot slot ≡ b → is_some (cond b (Some v) (vote_in slot vs)) ≡ false
        → (is_some (vote_in slot vs) ≡ false → put_back slot other vs ≡ vs) → put_back slot other (v ∷ vs) ≡ v ∷ vs
    go true e g more = cc
    go false e g more = rw (other_way v.slot slot e) (ap (λ ws. v ∷ ws) (more g))

-- a vote in its place, and none

set_at : {B : Type 0} (slot : ℕ) (v w : Vote B) (ws : List (Vote B)) → AllAfter w.slot ws
    → (is_some (vote_in slot ws) ≡ true → set ws (place slot ws) v ≡ put_back slot (Some v) ws)
    → (a b : Bool) → eqb w.slot slot ≡ a → ltb w.slot slot ≡ b → is_some (cond a (Some w) (vote_in slot ws)) ≡ true
    → set (w ∷ ws) (cond b (suc (place slot ws)) 0) v ≡ put_back slot (Some v) (w ∷ ws)
set_at slot v w ws after more true true p q h =
    let e = eqb-true w.slot slot p in let l = ltb-true w.slot slot q in absurd (omega (arith, e, l))
set_at slot v w ws after more true false p q h = rw (other_tells w.slot slot p) refl
set_at slot v w ws after more false true p q h = rw (other_way w.slot slot p) (ap (λ us. w ∷ us) (more h))
set_at {B} slot v w ws after more false false p q h =
    let l : slot ≤ w.slot = lt_false w.slot slot q in
    let n : vote_in slot ws ≡ None = none_after w.slot slot ws l after in
    absurd (false≢true (ap is_some (sym n) ∙ h))

pub set_back : {B : Type 0} (slot : ℕ) (v : Vote B) (vs : List (Vote B)) → Ascends vs → is_some (vote_in slot vs) ≡ true
    → set vs (place slot vs) v ≡ put_back slot (Some v) vs
set_back slot v [] a h = cc
set_back slot v (w ∷ ws) a h = set_at slot v w ws a.0 (set_back slot v ws a.1) (eqb w.slot slot) (ltb w.slot slot) refl refl h

cut_at : {B : Type 0} (slot : ℕ) (w : Vote B) (ws : List (Vote B)) → AllAfter w.slot ws
    → (is_some (vote_in slot ws) ≡ true → take (place slot ws) ws ++ drop (suc (place slot ws)) ws ≡ put_back slot None ws)
    → (a b : Bool) → eqb w.slot slot ≡ a → ltb w.slot slot ≡ b → is_some (cond a (Some w) (vote_in slot ws)) ≡ true
    → take (cond b (suc (place slot ws)) 0) (w ∷ ws) ++ drop (suc (cond b (suc (place slot ws)) 0)) (w ∷ ws) ≡ put_back slot None (w ∷ ws)
cut_at slot w ws after more true true p q h =
    let e = eqb-true w.slot slot p in let l = ltb-true w.slot slot q in absurd (omega (arith, e, l))
cut_at slot w ws after more true false p q h = rw (other_tells w.slot slot p) refl
cut_at slot w ws after more false true p q h = rw (other_way w.slot slot p) (ap (λ us. w ∷ us) (more h))
cut_at {B} slot w ws after more false false p q h =
    let l : slot ≤ w.slot = lt_false w.slot slot q in
    let n : vote_in slot ws ≡ None = none_after w.slot slot ws l after in
    absurd (false≢true (ap is_some (sym n) ∙ h))

pub cut_back : {B : Type 0} (slot : ℕ) (vs : List (Vote B)) → Ascends vs → is_some (vote_in slot vs) ≡ true
    → take (place slot vs) vs ++ drop (suc (place slot vs)) vs ≡ put_back slot None vs
cut_back slot [] a h = cc
cut_back slot (w ∷ ws) a h = cut_at slot w ws a.0 (cut_back slot ws a.1) (eqb w.slot slot) (ltb w.slot slot) refl refl h

-- what was there before a vote was put, put back, gives the votes of before

later_back : {B : Type 0} (v w : Vote B) (ws : List (Vote B)) (o : Option (Vote B)) → eqb v.slot w.slot ≡ false → o ≡ vote_in v.slot ws
    → put_back v.slot (vote_in v.slot ws) (put_vote v ws) ≡ ws → put_back v.slot o (w ∷ put_vote v ws) ≡ w ∷ ws
later_back {B} v w ws o p e more =
    rw p (ap (λ (us : List (Vote B)). w ∷ us) (ap (λ (x : Option (Vote B)). put_back v.slot x (put_vote v ws)) e ∙ more))

pub back_put : {B : Type 0} (v : Vote B) (ws : List (Vote B)) → Ascends ws → put_back v.slot (vote_in v.slot ws) (put_vote v ws) ≡ ws
back_put v [] h = rw (number_same v.slot) refl
back_put {B} v (w ∷ ws) h = go (eqb v.slot w.slot) (ltb v.slot w.slot) refl refl (back_put v ws h.1)
  where
    go : (a b : Bool) → eqb v.slot w.slot ≡ a → ltb v.slot w.slot ≡ b → put_back v.slot (vote_in v.slot ws) (put_vote v ws) ≡ ws
        → put_back v.slot (cond (eqb w.slot v.slot) (Some w) (vote_in v.slot ws)) (cond a (v ∷ ws) (cond b (v ∷ (w ∷ ws)) (w ∷ put_vote v ws)))
        ≡ w ∷ ws
    go true b p q more = rw (number_same v.slot, other_tells v.slot w.slot p) refl
    go false true p q more =
        let l : v.slot < w.slot = ltb-true v.slot w.slot q in
        let n : vote_in v.slot ws ≡ None = none_after w.slot v.slot ws (omega arith) h.0 in
        rw (number_same v.slot, other_way v.slot w.slot p, n) refl
    go false false p q more =
        later_back v w ws (cond (eqb w.slot v.slot) (Some w) (vote_in v.slot ws)) p
        (ap (λ b. cond b (Some w) (vote_in v.slot ws)) (other_way v.slot w.slot p)) more

-- the slots still ascend

after_back : {B : Type 0} (low slot : ℕ) (other : Option (Vote B)) (ws : List (Vote B)) → IfSome other (λ v. v.slot ≡ slot) → AllAfter low ws
    → AllAfter low (put_back slot other ws)
after_back low slot other [] is h = tt
after_back {B} low slot other (w ∷ ws) is h = go (eqb slot w.slot) refl other is (after_back low slot other ws is h.1)
  where
    go : (a : Bool) → eqb slot w.slot ≡ a → (o : Option (Vote B)) → IfSome o (λ v. v.slot ≡ slot) → AllAfter low (put_back slot other ws)
        → AllAfter low (cond a (option_to_list o ++ ws) (w ∷ put_back slot other ws))
    go true p None e k = h.1
    go true p (Some v) e k =
        let l : low < w.slot = h.0 in
        let f = eqb-true slot w.slot p in
        let g : v.slot ≡ slot = e in
        (omega (arith, l, f, g), h.1)
    go false p o e k = (h.0, k)

lower_after : {B : Type 0} (slot low : ℕ) (vs : List (Vote B)) → low ≤ slot → AllAfter slot vs → AllAfter low vs
lower_after slot low [] g h = tt
lower_after slot low (v ∷ vs) g h = (let k : slot < v.slot = h.0 in omega (arith, k, g), lower_after slot low vs g h.1)

pub back_ascending : {B : Type 0} (slot : ℕ) (other : Option (Vote B)) (ws : List (Vote B)) → IfSome other (λ v. v.slot ≡ slot) → Ascends ws
    → Ascends (put_back slot other ws)
back_ascending slot other [] is h = tt
back_ascending {B} slot other (w ∷ ws) is h = go (eqb slot w.slot) refl other is (back_ascending slot other ws is h.1)
  where
    go : (a : Bool) → eqb slot w.slot ≡ a → (o : Option (Vote B)) → IfSome o (λ v. v.slot ≡ slot) → Ascends (put_back slot other ws)
        → Ascends (cond a (option_to_list o ++ ws) (w ∷ put_back slot other ws))
    go true p None e k = h.1
    go true p (Some v) e k =
        let f = eqb-true slot w.slot p in
        let g : v.slot ≡ slot = e in
        (lower_after w.slot v.slot ws (omega (arith, f, g)) h.0, h.1)
    go false p o e k = (after_back w.slot slot other ws is h.0, k)
