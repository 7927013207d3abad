-- The votes that a node reports once it has cast more: those from a slot on of all of them are these with what it cast from that slot on.
use Rattle.std.proofs.Common.{◌≡◌, ℕ, ◌<◌, ◌≤◌, length, drop, Bool, true, false, cond, List, [], ◌∷◌, ltb, leb, eqb, refl, sym, ap, ◌∙◌, arith}
use Rattle.std.proofs.lemmas.Bool.{ltb-true, eqb-true}
use Rattle.std.proofs.lemmas.List.{drop_all}
use Rattle.std.proofs.lemmas.Bool.Decides.{nat_tests}
use Rattle.paxos_packets.specs.Vote.{put_vote, put_votes, votes_from}
use Rattle.paxos_packets.specs.declared.vote.Vote.{Vote}
use Rattle.world_rescue.specs.Casting.{put_from, put_each_from}

lt_false : (a b : ℕ) → ltb a b ≡ false → b ≤ a
lt_false a b h = grind (arith, nat_tests)

le_true : (a b : ℕ) → leb a b ≡ true → a ≤ b
le_true a b h = grind (arith, nat_tests)

le_false : (a b : ℕ) → leb a b ≡ false → b < a
le_false a b h = grind (arith, nat_tests)

is_lt : (a b : ℕ) → a < b → ltb a b ≡ true
is_lt a b h = grind (arith, nat_tests)

not_lt : (a b : ℕ) → b ≤ a → ltb a b ≡ false
not_lt a b h = grind (arith, nat_tests)

is_le : (a b : ℕ) → a ≤ b → leb a b ≡ true
is_le a b h = grind (arith, nat_tests)

not_le : (a b : ℕ) → b < a → leb a b ≡ false
not_le a b h = grind (arith, nat_tests)

not_eq : (a b : ℕ) → (a ≡ b → ⊥) → eqb a b ≡ false
not_eq a b h = grind (arith, nat_tests)

-- a vote below the slot changes nothing of those from it on
below : {B : Type 0} (first : ℕ) (v : Vote B) (ws : List (Vote B)) → v.slot < first → votes_from first (put_vote v ws) ≡ votes_from first ws
below first v [] l = rw (not_le first v.slot l) refl
below {B} first v (w ∷ ws) l = go (eqb v.slot w.slot) (ltb v.slot w.slot) refl refl (below first v ws l)
  where
    here : leb first v.slot ≡ false
    here = not_le first v.slot l

    go : (b c : Bool) → eqb v.slot w.slot ≡ b → ltb v.slot w.slot ≡ c → votes_from first (put_vote v ws) ≡ votes_from first ws
        → votes_from first (cond b (v ∷ ws) (cond c (v ∷ (w ∷ ws)) (w ∷ put_vote v ws))) ≡ votes_from first (w ∷ ws)
    go true c e f i =
        let k : v.slot ≡ w.slot = eqb-true v.slot w.slot e in
        let there : leb first w.slot ≡ false = not_le first w.slot (omega (arith, k)) in
        rw here (rw there refl)
    go false true e f i = rw here refl
    go false false e f i = ap (λ (us : List (Vote B)). cond (leb first w.slot) (w ∷ us) us) i

-- one from it on is put among these
above : {B : Type 0} (first : ℕ) (v : Vote B) (ws : List (Vote B)) → first ≤ v.slot → votes_from first (put_vote v ws) ≡ put_vote v (votes_from first ws)
above first v [] l = rw (is_le first v.slot l) refl
above {B} first v (w ∷ ws) l = go (eqb v.slot w.slot) (ltb v.slot w.slot) (leb first w.slot) refl refl refl (above first v ws l)
  where
    here : leb first v.slot ≡ true
    here = is_le first v.slot l

    go : (b c d : Bool) → eqb v.slot w.slot ≡ b → ltb v.slot w.slot ≡ c → leb first w.slot ≡ d
        → votes_from first (put_vote v ws) ≡ put_vote v (votes_from first ws)
        → votes_from first (cond b (v ∷ ws) (cond c (v ∷ (w ∷ ws)) (w ∷ put_vote v ws)))
        ≡ put_vote v (cond d (w ∷ votes_from first ws) (votes_from first ws))
    go true c true e f g i = rw here (rw e refl)
    go true c false e f g i =
        let k : v.slot ≡ w.slot = eqb-true v.slot w.slot e in
        let m : w.slot < first = le_false first w.slot g in
        absurd (omega (arith, k, m, l))
    go false true true e f g i = rw here (rw g (rw e (rw f refl)))
    go false true false e f g i =
        let k : v.slot < w.slot = ltb-true v.slot w.slot f in
        let m : w.slot < first = le_false first w.slot g in
        absurd (omega (arith, k, m, l))
    go false false true e f g i = rw g (rw e (rw f (ap (λ (us : List (Vote B)). w ∷ us) i)))
    go false false false e f g i = rw g i

one : {B : Type 0} (first : ℕ) (v : Vote B) (ws : List (Vote B)) → votes_from first (put_vote v ws) ≡ put_from first v (votes_from first ws)
one {B} first v ws = go (ltb v.slot first) refl
  where
    go : (b : Bool) → ltb v.slot first ≡ b → votes_from first (put_vote v ws) ≡ cond b (votes_from first ws) (put_vote v (votes_from first ws))
    go true e = below first v ws (ltb-true v.slot first e)
    go false e = above first v ws (lt_false v.slot first e)

pub each : {B : Type 0} (first : ℕ) (vs ws : List (Vote B)) → put_each_from first vs (votes_from first ws) ≡ votes_from first (put_votes vs ws)
each first [] ws = refl
each {B} first (v ∷ vs) ws =
    ap (λ (us : List (Vote B)). put_each_from first vs us) (sym (one first v ws)) ∙ each first vs (put_vote v ws)

-- at the end of the list
pub ended : {B : Type 0} (first : ℕ) (cast : List (Vote B)) (i : ℕ) (votes start rows : List (Vote B)) → length cast ≤ i
    → put_each_from first (drop i cast) votes ≡ put_each_from first cast start → start ≡ votes_from first rows
    → votes ≡ votes_from first (put_votes cast rows)
ended {B} first cast i votes start rows l p q =
    ap (λ (us : List (Vote B)). put_each_from first us votes) (sym (drop_all i cast l))
    ∙ p ∙ ap (λ (us : List (Vote B)). put_each_from first cast us) q ∙ each first cast rows
