-- The index of a vote among votes whose slots ascend.
use Rattle.std.proofs.Common.{◌≡◌, ℕ, zero, suc, ◌-◌, ◌<◌, ◌≤◌, Bool, true, false, cond, Option, Some, None, is_some, List, [], ◌∷◌, ◌++◌}
use Rattle.std.proofs.Common.{length, get_or, set, take, drop, ltb, leb, eqb, refl, ap, sym, ◌∙◌, subst, lt-ltb, eq-eqb, arith}
use Rattle.std.proofs.lemmas.Bool.{ltb-true, eqb-true}
use Rattle.std.proofs.lemmas.Bool.Decides.{nat_tests}
use Rattle.std.specs.List.Sorted.{IsPartitionedBy, IsPartitionPoint}
use Rattle.paxos_packets.proofs.Ascending.{AllAfter, Ascends}
use Rattle.paxos_packets.specs.Vote.{place, vote_in, put_vote, put_votes, votes_from}
use Rattle.paxos_packets.specs.declared.vote.Vote.{Vote}

not_lt : (a b : ℕ) → b ≤ a → ltb a b ≡ false
not_lt a b h = grind (arith, nat_tests)

lt_false : (a b : ℕ) → ltb a b ≡ false → b ≤ a
lt_false a b h = grind (arith, nat_tests)

not_eq : (a b : ℕ) → (a ≡ b → ⊥) → eqb a b ≡ false
not_eq a b h = grind (arith, nat_tests)

is_le : (a b : ℕ) → a ≤ b → leb a b ≡ true
is_le a b h = grind (arith, nat_tests)

not_le : (a b : ℕ) → b < a → leb a b ≡ false
not_le a b h = grind (arith, nat_tests)

below_or : (a b : ℕ) → eqb a b ≡ false → b ≤ a → b < a
below_or a b e l = grind (arith, nat_tests)

-- the votes from a slot on

pub after_get : {B : Type 0} (slot k : ℕ) (vs : List (Vote B)) (d : Vote B) → AllAfter slot vs → k < length vs → slot < (get_or vs k d).slot
after_get slot k [] d h l = absurd (omega arith)
after_get slot zero (v ∷ vs) d h l = h.0
after_get slot (suc k) (v ∷ vs) d h l = after_get slot k vs d h.1 (omega arith)

after_lower : {B : Type 0} (slot low : ℕ) (vs : List (Vote B)) → low ≤ slot → AllAfter slot vs → AllAfter low vs
after_lower slot low [] g h = tt
after_lower slot low (v ∷ vs) g h = (let k : slot < v.slot = h.0 in omega arith, after_lower slot low vs g h.1)

none_after : {B : Type 0} (slot low : ℕ) (vs : List (Vote B)) → low ≤ slot → AllAfter slot vs → vote_in low vs ≡ None
none_after slot low [] g h = refl
none_after slot low (v ∷ vs) g h =
    let k : slot < v.slot = h.0 in
    let e : eqb v.slot low ≡ false = not_eq v.slot low (λ p. omega arith) in
    rw e (none_after slot low vs g h.1)

kept_after : {B : Type 0} (slot low : ℕ) (vs : List (Vote B)) → low ≤ slot → AllAfter slot vs → votes_from low vs ≡ vs
kept_after slot low [] g h = refl
kept_after slot low (v ∷ vs) g h =
    let k : slot < v.slot = h.0 in
    let e : leb low v.slot ≡ true = is_le low v.slot (omega arith) in
    rw e (ap (λ ws. v ∷ ws) (kept_after slot low vs g h.1))

-- the place of a slot

pub place_le : {B : Type 0} (slot : ℕ) (vs : List (Vote B)) → place slot vs ≤ length vs
place_le slot [] = omega arith
place_le slot (v ∷ vs) = go (ltb v.slot slot) (place slot vs) (length vs) (place_le slot vs)
  where
    go : (b : Bool) (m n : ℕ) → m ≤ n → cond b (suc m) 0 ≤ suc n
    go true m n h = omega arith
    go false m n h = omega arith

pub place_above : {B : Type 0} (slot k : ℕ) (vs : List (Vote B)) (d : Vote B) → Ascends vs → k < length vs → (get_or vs k d).slot < slot
    → k < place slot vs
place_above slot k [] d h l g = absurd (omega arith)
place_above slot zero (v ∷ vs) d h l g = rw (lt-ltb v.slot slot g) (omega arith)
place_above slot (suc k) (v ∷ vs) d h l g =
    let m : k < length vs = omega arith in
    let a : v.slot < (get_or vs k d).slot = after_get v.slot k vs d h.0 m in
    let e : ltb v.slot slot ≡ true = lt-ltb v.slot slot (omega arith) in
    let i : k < place slot vs = place_above slot k vs d h.1 m g in
    rw e (omega arith)

pub place_below : {B : Type 0} (slot k : ℕ) (vs : List (Vote B)) (d : Vote B) → k < length vs → slot ≤ (get_or vs k d).slot
    → place slot vs ≤ k
place_below slot k [] d l g = absurd (omega arith)
place_below slot zero (v ∷ vs) d l g = rw (not_lt v.slot slot g) (omega arith)
place_below slot (suc k) (v ∷ vs) d l g = go (ltb v.slot slot) (place slot vs) (place_below slot k vs d (omega arith) g)
  where
    go : (b : Bool) (m : ℕ) → m ≤ k → cond b (suc m) 0 ≤ suc k
    go true m h = omega arith
    go false m h = omega arith

-- after the last vote is the last place
pub place_last : {B : Type 0} (slot : ℕ) (last : Vote B) (vs : List (Vote B)) → Ascends vs → 0 < length vs
    → last ≡ get_or vs (length vs - 1) last → last.slot < slot → length vs ≡ place slot vs
place_last {B = B} slot last vs h l e g =
    let m : (get_or vs (length vs - 1) last).slot < slot = subst (λ (v : Vote B). v.slot < slot) e g in
    let a : length vs - 1 < place slot vs = place_above slot (length vs - 1) vs last h (omega arith) m in
    let b : place slot vs ≤ length vs = place_le slot vs in
    omega arith

-- what is before the place is lower
pub place_reaches : {B : Type 0} (slot k : ℕ) (vs : List (Vote B)) (d : Vote B) → k < length vs → k < place slot vs
    → (get_or vs k d).slot < slot
place_reaches slot k vs d l g =
    from_not (get_or vs k d).slot slot (λ h. let m : place slot vs ≤ k = place_below slot k vs d l h in absurd (omega arith))
  where
    from_not : (a b : ℕ) → (b ≤ a → ⊥) → a < b
    from_not a b h = grind arith

-- what is at the place

found_at : {B : Type 0} (slot : ℕ) (v : Vote B) (vs : List (Vote B)) (d : Vote B) (b : Bool) → ltb v.slot slot ≡ b
    → (place slot vs < length vs → (get_or vs (place slot vs) d).slot ≡ slot → vote_in slot vs ≡ Some (get_or vs (place slot vs) d))
    → cond b (suc (place slot vs)) 0 < suc (length vs) → (get_or (v ∷ vs) (cond b (suc (place slot vs)) 0) d).slot ≡ slot
    → vote_in slot (v ∷ vs) ≡ Some (get_or (v ∷ vs) (cond b (suc (place slot vs)) 0) d)
found_at slot v vs d true e more l g =
    let a : v.slot < slot = ltb-true v.slot slot e in
    let n : eqb v.slot slot ≡ false = not_eq v.slot slot (λ p. omega arith) in
    rw n (more (omega arith) g)
found_at slot v vs d false e more l g = rw (eq-eqb v.slot slot g) refl

pub found : {B : Type 0} (slot : ℕ) (vs : List (Vote B)) (d : Vote B) → place slot vs < length vs
    → (get_or vs (place slot vs) d).slot ≡ slot → vote_in slot vs ≡ Some (get_or vs (place slot vs) d)
found slot [] d l g = absurd (omega arith)
found slot (v ∷ vs) d l g = found_at slot v vs d (ltb v.slot slot) refl (found slot vs d) l g

absent_at : {B : Type 0} (slot : ℕ) (v : Vote B) (vs : List (Vote B)) (d : Vote B) (b : Bool) → ltb v.slot slot ≡ b → AllAfter v.slot vs
    → ((place slot vs < length vs → (get_or vs (place slot vs) d).slot ≡ slot → ⊥) → vote_in slot vs ≡ None)
    → (cond b (suc (place slot vs)) 0 < suc (length vs) → (get_or (v ∷ vs) (cond b (suc (place slot vs)) 0) d).slot ≡ slot → ⊥)
    → vote_in slot (v ∷ vs) ≡ None
absent_at slot v vs d true e h more g =
    let a : v.slot < slot = ltb-true v.slot slot e in
    let n : eqb v.slot slot ≡ false = not_eq v.slot slot (λ p. omega arith) in
    rw n (more (λ l k. g (omega arith) k))
absent_at slot v vs d false e h more g =
    let a : slot ≤ v.slot = lt_false v.slot slot e in
    let n : eqb v.slot slot ≡ false = not_eq v.slot slot (g (omega arith)) in
    rw n (none_after v.slot slot vs a h)

pub absent : {B : Type 0} (slot : ℕ) (vs : List (Vote B)) (d : Vote B) → Ascends vs
    → (place slot vs < length vs → (get_or vs (place slot vs) d).slot ≡ slot → ⊥) → vote_in slot vs ≡ None
absent slot [] d h g = refl
absent slot (v ∷ vs) d h g = absent_at slot v vs d (ltb v.slot slot) refl h.0 (absent slot vs d h.1) g

-- a vote is put

replaced_at : {B : Type 0} (v w : Vote B) (ws : List (Vote B)) (d : Vote B) (b : Bool) → ltb w.slot v.slot ≡ b
    → (place v.slot ws < length ws → (get_or ws (place v.slot ws) d).slot ≡ v.slot → set ws (place v.slot ws) v ≡ put_vote v ws)
    → cond b (suc (place v.slot ws)) 0 < suc (length ws) → (get_or (w ∷ ws) (cond b (suc (place v.slot ws)) 0) d).slot ≡ v.slot
    → set (w ∷ ws) (cond b (suc (place v.slot ws)) 0) v ≡ put_vote v (w ∷ ws)
replaced_at v w ws d true e more l g =
    let a : w.slot < v.slot = ltb-true w.slot v.slot e in
    let n : eqb v.slot w.slot ≡ false = not_eq v.slot w.slot (λ p. omega arith) in
    let m : ltb v.slot w.slot ≡ false = not_lt v.slot w.slot (omega arith) in
    rw (n, m) (ap (λ us. w ∷ us) (more (omega arith) g))
replaced_at v w ws d false e more l g = rw (eq-eqb v.slot w.slot (sym g)) refl

pub replaced : {B : Type 0} (v : Vote B) (vs : List (Vote B)) (d : Vote B) → place v.slot vs < length vs
    → (get_or vs (place v.slot vs) d).slot ≡ v.slot → set vs (place v.slot vs) v ≡ put_vote v vs
replaced v [] d l g = absurd (omega arith)
replaced v (w ∷ ws) d l g = replaced_at v w ws d (ltb w.slot v.slot) refl (replaced v ws d) l g

inserted_at : {B : Type 0} (v w : Vote B) (ws : List (Vote B)) (d : Vote B) (b : Bool) → ltb w.slot v.slot ≡ b
    → ((place v.slot ws < length ws → (get_or ws (place v.slot ws) d).slot ≡ v.slot → ⊥) → take (place v.slot ws) ws
    ++ v ∷ drop (place v.slot ws) ws ≡ put_vote v ws)
    → (cond b (suc (place v.slot ws)) 0 < suc (length ws) → (get_or (w ∷ ws) (cond b (suc (place v.slot ws)) 0) d).slot ≡ v.slot → ⊥)
    → take (cond b (suc (place v.slot ws)) 0) (w ∷ ws) ++ v ∷ drop (cond b (suc (place v.slot ws)) 0) (w ∷ ws) ≡ put_vote v (w ∷ ws)
inserted_at v w ws d true e more g =
    let a : w.slot < v.slot = ltb-true w.slot v.slot e in
    let n : eqb v.slot w.slot ≡ false = not_eq v.slot w.slot (λ p. omega arith) in
    let m : ltb v.slot w.slot ≡ false = not_lt v.slot w.slot (omega arith) in
    rw (n, m) (ap (λ us. w ∷ us) (more (λ l k. g (omega arith) k)))
inserted_at v w ws d false e more g =
    let a : v.slot ≤ w.slot = lt_false w.slot v.slot e in
    let q : w.slot ≡ v.slot → ⊥ = g (omega arith) in
    let n : eqb v.slot w.slot ≡ false = not_eq v.slot w.slot (λ p. q (sym p)) in
    let m : ltb v.slot w.slot ≡ true = lt-ltb v.slot w.slot (grind arith) in
    rw (n, m) refl

pub inserted : {B : Type 0} (v : Vote B) (vs : List (Vote B)) (d : Vote B)
    → (place v.slot vs < length vs → (get_or vs (place v.slot vs) d).slot ≡ v.slot → ⊥)
    → take (place v.slot vs) vs ++ v ∷ drop (place v.slot vs) vs ≡ put_vote v vs
inserted v [] d g = refl
inserted v (w ∷ ws) d g = inserted_at v w ws d (ltb w.slot v.slot) refl (inserted v ws d) g

-- whether the slot has a vote, from a look at its place

pub seen : {B : Type 0} (slot i : ℕ) (v : Vote B) (vs : List (Vote B)) → i ≡ place slot vs → i < length vs → v ≡ get_or vs i v
    → v.slot ≡ slot → is_some (vote_in slot vs) ≡ true
seen {B = B} slot i v vs e l r g =
    let m : place slot vs < length vs = omega arith in
    let a : get_or vs (place slot vs) v ≡ v = sym (subst (λ (k : ℕ). v ≡ get_or vs k v) e r) in
    ap is_some (found slot vs v m (ap (λ (w : Vote B). w.slot) a ∙ g))

pub seen_other : {B : Type 0} (slot i : ℕ) (v : Vote B) (vs : List (Vote B)) → Ascends vs → i ≡ place slot vs → v ≡ get_or vs i v
    → (v.slot ≡ slot → ⊥) → is_some (vote_in slot vs) ≡ false
seen_other {B = B} slot i v vs h e r g =
    let a : v ≡ get_or vs (place slot vs) v = subst (λ (k : ℕ). v ≡ get_or vs k v) e r in
    ap is_some (absent slot vs v h (λ l q. g (ap (λ (w : Vote B). w.slot) a ∙ q)))

pub seen_none : {B : Type 0} (slot i : ℕ) (vs : List (Vote B)) → Ascends vs → i ≡ place slot vs → length vs ≤ i
    → is_some (vote_in slot vs) ≡ false
seen_none slot i [] h e l = refl
seen_none slot i (v ∷ vs) h e l = ap is_some (absent slot (v ∷ vs) v h (λ m q. absurd (omega arith)))

-- if the slot has a vote, the vote at its place is the one

sought : {B : Type 0} (slot : ℕ) (vs : List (Vote B)) (d : Vote B) → Ascends vs → is_some (vote_in slot vs) ≡ true
    → (place slot vs < length vs) × ((get_or vs (place slot vs) d).slot ≡ slot)
sought slot vs d h e = go (ltb (place slot vs) (length vs)) (eqb (get_or vs (place slot vs) d).slot slot) refl refl
  where
    none : ((place slot vs < length vs) → (get_or vs (place slot vs) d).slot ≡ slot → ⊥) → ⊥
    none g = let n = absent slot vs d h g in let k = rw n at e in cc

    go : (a b : Bool) → ltb (place slot vs) (length vs) ≡ a → eqb (get_or vs (place slot vs) d).slot slot ≡ b
        → (place slot vs < length vs) × ((get_or vs (place slot vs) d).slot ≡ slot)
    go true true p q = (ltb-true _ _ p, eqb-true _ _ q)
    go false b p q = absurd (none (λ l g. let k = lt_false (place slot vs) (length vs) p in absurd (omega arith)))
    go true false p q = absurd (none (λ l g. let k = eq-eqb _ slot g in cc))

pub put_found : {B : Type 0} (v : Vote B) (vs : List (Vote B)) → Ascends vs → is_some (vote_in v.slot vs) ≡ true
    → set vs (place v.slot vs) v ≡ put_vote v vs
put_found v vs h e = let k = sought v.slot vs v h e in replaced v vs v k.0 k.1

pub put_free : {B : Type 0} (v : Vote B) (vs : List (Vote B)) → is_some (vote_in v.slot vs) ≡ false
    → take (place v.slot vs) vs ++ v ∷ drop (place v.slot vs) vs ≡ put_vote v vs
put_free v vs e = inserted v vs v (λ l g. let n = found v.slot vs v l g in let k = rw n at e in cc)

pub hit : {B : Type 0} (slot i : ℕ) (v : Vote B) (vs : List (Vote B)) → Ascends vs → is_some (vote_in slot vs) ≡ true
    → i ≡ place slot vs → v ≡ get_or vs i v → Some v ≡ vote_in slot vs
hit {B = B} slot i v vs h e p r =
    let k = sought slot vs v h e in
    let a : v ≡ get_or vs (place slot vs) v = subst (λ (j : ℕ). v ≡ get_or vs j v) p r in
    ap Some a ∙ sym (found slot vs v k.0 k.1)

pub miss : {B : Type 0} (o : Option (Vote B)) → is_some o ≡ false → None ≡ o
miss None e = refl
miss (Some v) e = cc

-- the slots still ascend

put_after : {B : Type 0} (slot : ℕ) (v : Vote B) (ws : List (Vote B)) → slot < v.slot → AllAfter slot ws → AllAfter slot (put_vote v ws)
put_after slot v [] g h = (g, tt)
put_after slot v (w ∷ ws) g h = go (eqb v.slot w.slot) (ltb v.slot w.slot) (put_after slot v ws g h.1)
  where
    go : (a b : Bool) → AllAfter slot (put_vote v ws) → AllAfter slot (cond a (v ∷ ws) (cond b (v ∷ (w ∷ ws)) (w ∷ put_vote v ws)))
    go true b k = (g, h.1)
    go false true k = (g, h)
    go false false k = (h.0, k)

pub put_ascending : {B : Type 0} (v : Vote B) (ws : List (Vote B)) → Ascends ws → Ascends (put_vote v ws)
put_ascending v [] h = (tt, tt)
put_ascending {B} v (w ∷ ws) h = go (eqb v.slot w.slot) (ltb v.slot w.slot) refl refl (put_ascending v ws h.1)
  where
    go : (a b : Bool) → eqb v.slot w.slot ≡ a → ltb v.slot w.slot ≡ b → Ascends (put_vote v ws)
        → Ascends (cond a (v ∷ ws) (cond b (v ∷ (w ∷ ws)) (w ∷ put_vote v ws)))
    go true b p q k = (after_lower w.slot v.slot ws (let e = eqb-true v.slot w.slot p in omega arith) h.0, h.1)
    go false true p q k =
        let l : v.slot < w.slot = ltb-true v.slot w.slot q in
        ((l, after_lower w.slot v.slot ws (omega arith) h.0), h)
    go false false p q k =
        let l : w.slot ≤ v.slot = lt_false v.slot w.slot q in
        let m : w.slot < v.slot = below_or v.slot w.slot p l in
        (put_after w.slot v ws m h.0, k)

-- the votes from a slot on

pub ascending_drop : {B : Type 0} (k : ℕ) (vs : List (Vote B)) → Ascends vs → Ascends (drop k vs)
ascending_drop zero vs h = h
ascending_drop (suc k) [] h = tt
ascending_drop (suc k) (v ∷ vs) h = ascending_drop k vs h.1

from_at : {B : Type 0} (slot : ℕ) (v : Vote B) (vs : List (Vote B)) (b : Bool) → ltb v.slot slot ≡ b → AllAfter v.slot vs
    → drop (place slot vs) vs ≡ votes_from slot vs
    → drop (cond b (suc (place slot vs)) 0) (v ∷ vs) ≡ votes_from slot (v ∷ vs)
from_at slot v vs true e h more = let a : v.slot < slot = ltb-true v.slot slot e in rw (not_le slot v.slot a) more
from_at slot v vs false e h more =
    let a : slot ≤ v.slot = lt_false v.slot slot e in
    rw (is_le slot v.slot a) (ap (λ ws. v ∷ ws) (sym (kept_after v.slot slot vs a h)))

pub from_place : {B : Type 0} (slot : ℕ) (vs : List (Vote B)) → Ascends vs → drop (place slot vs) vs ≡ votes_from slot vs
from_place slot [] h = refl
from_place slot (v ∷ vs) h = from_at slot v vs (ltb v.slot slot) refl h.0 (from_place slot vs h.1)

pub parted : {B : Type 0} (slot : ℕ) (vs : List (Vote B)) → Ascends vs → IsPartitionedBy (λ v. ltb v.slot slot) vs
parted slot vs h i j d le l e =
    let a : j < place slot vs = place_above slot j vs d h l (ltb-true (get_or vs j d).slot slot e) in
    lt-ltb (get_or vs i d).slot slot (place_reaches slot i vs d (omega arith) (omega arith))

pub place_is : {B : Type 0} (slot : ℕ) (vs : List (Vote B)) (i : ℕ) → Ascends vs → i ≤ length vs
    → IsPartitionPoint (λ v. ltb v.slot slot ≡ true) (λ v. ltb v.slot slot ≡ false) vs i → i ≡ place slot vs
place_is slot [] i h l p = omega arith
place_is slot (v ∷ vs) zero h l p =
    let e : ltb v.slot slot ≡ false = p.1 0 v (omega arith) (omega arith) in
    rw e refl
place_is slot (v ∷ vs) (suc i) h l p =
    let e : ltb v.slot slot ≡ true = p.0 0 v (omega arith) (omega arith) in
    rw e
    (ap suc (place_is slot vs i h.1 (omega arith)
    (λ k d a b. p.0 (suc k) d (omega arith) (omega arith), λ k d a b. p.1 (suc k) d (omega arith) (omega arith))))

-- votes are put, one after the other

pub put_votes-push : {B : Type 0} (xs : List (Vote B)) (v : Vote B) (ws : List (Vote B))
    → put_votes (xs ++ v ∷ []) ws ≡ put_vote v (put_votes xs ws)
put_votes-push [] v ws = refl
put_votes-push (x ∷ xs) v ws = put_votes-push xs v (put_vote x ws)

-- what is in a slot after a vote was put

vote_in-put_at : {B : Type 0} (v w : Vote B) (ws : List (Vote B)) (slot : ℕ)
    → vote_in slot (put_vote v ws) ≡ cond (eqb v.slot slot) (Some v) (vote_in slot ws)
    → (a b : Bool) → eqb v.slot w.slot ≡ a → ltb v.slot w.slot ≡ b
    → vote_in slot (cond a (v ∷ ws) (cond b (v ∷ (w ∷ ws)) (w ∷ put_vote v ws)))
    ≡ cond (eqb v.slot slot) (Some v) (cond (eqb w.slot slot) (Some w) (vote_in slot ws))
vote_in-put_at v w ws slot more true b p q = go (eqb v.slot slot) refl
  where
    go : (c : Bool) → eqb v.slot slot ≡ c
        → cond (eqb v.slot slot) (Some v) (vote_in slot ws)
        ≡ cond (eqb v.slot slot) (Some v) (cond (eqb w.slot slot) (Some w) (vote_in slot ws))
    go true e = rw e refl
    go false e =
        let l : v.slot ≡ w.slot = eqb-true v.slot w.slot p in
        let n : eqb w.slot slot ≡ false = subst (λ (s : ℕ). eqb s slot ≡ false) l e in
        rw n refl
vote_in-put_at v w ws slot more false true p q = refl
vote_in-put_at v w ws slot more false false p q = go (eqb w.slot slot) refl
  where
    go : (c : Bool) → eqb w.slot slot ≡ c
        → cond (eqb w.slot slot) (Some w) (vote_in slot (put_vote v ws))
        ≡ cond (eqb v.slot slot) (Some v) (cond (eqb w.slot slot) (Some w) (vote_in slot ws))
    go true e =
        let l : w.slot ≡ slot = eqb-true w.slot slot e in
        let n : eqb v.slot slot ≡ false = subst (λ (s : ℕ). eqb v.slot s ≡ false) l p in
        rw (e, n) refl
    go false e = rw (e, more) refl

pub vote_in-put : {B : Type 0} (v : Vote B) (vs : List (Vote B)) (slot : ℕ)
    → vote_in slot (put_vote v vs) ≡ cond (eqb v.slot slot) (Some v) (vote_in slot vs)
vote_in-put v [] slot = refl
vote_in-put v (w ∷ ws) slot = vote_in-put_at v w ws slot (vote_in-put v ws slot) (eqb v.slot w.slot) (ltb v.slot w.slot) refl refl
