-- What was learned ascends by slot, each slot from above the floor to 2^40 - 1.
use Rattle.std.proofs.Common.{◌≡◌, ℕ, ◌+◌, ◌<◌, ◌≤◌, Bool, true, false, cond, ◌||◌, Option, Some, None, List, [], ◌∷◌, length, ltb, eqb}
use Rattle.std.proofs.Common.{refl, arith}
use Rattle.std.proofs.lemmas.Bool.{ltb-true, eqb-true}
use Rattle.std.proofs.lemmas.Bool.Decides.{nat_tests}
use Rattle.std.specs.Prelude.{option_map, ◌==◌, ◌^◌}
use Rattle.std.specs.List.{find}
use Rattle.paxos_packets.specs.declared.entry.Entry.{Entry}
use Rattle.paxos_learner.specs.declared.learned.LearnedEntry.{LearnedEntry}
use Rattle.paxos_learner.specs.Learned.{placed, placed_in, all_places, AreRising, Rises, is_learned}
use Rattle.paxos_learner.specs.Learner.{learned_at, put_learned, learn_among}
use Rattle.paxos_learner.proofs.Ahead.{whole_rises}

pub rises_lower : {B : Type 0} (m n : ℕ) (ls : List (LearnedEntry B)) → m ≤ n → Rises n ls → Rises m ls
rises_lower m n [] l r = let k : n < 2 ^ 40 = r in omega arith
rises_lower m n (x ∷ xs) l r = let k : n < x.slot = r.0 in (omega arith, r.1)

pub ends : {B : Type 0} (n : ℕ) (ls : List (LearnedEntry B)) → Rises n ls → n < 2 ^ 40
ends n [] r = r
ends n (x ∷ xs) r = let k : n < x.slot = r.0 in let m : x.slot < 2 ^ 40 = ends x.slot xs r.1 in omega arith

-- a run, then what is ahead of it

placed_rises : {B : Type 0} (n : ℕ) (ps : List (ℕ × Option (Entry B))) → AreRising n ps → Rises n (placed ps)
placed_rises n [] a = a
placed_rises {B} n (p ∷ ps) a = go p.1 (placed_rises p.0 ps a.1)
  where
    go : (x : Option (Entry B)) → Rises p.0 (placed ps) → Rises n (placed_in p.0 x (placed ps))
    go None r = let k : n < p.0 = a.0 in rises_lower n p.0 (placed ps) (omega arith) r
    go (Some e) r = (a.0, r)

pub shelf_rises : {B : Type 0} (floor : ℕ) (run : List (Option (Entry B))) (ps : List (ℕ × Option (Entry B)))
    → AreRising (floor + length run) ps → Rises floor (placed (all_places floor run ps))
shelf_rises floor run ps a = placed_rises floor (all_places floor run ps) (whole_rises floor run ps a)

-- where an entry was learned

pub above : {B : Type 0} (n slot : ℕ) (ls : List (LearnedEntry B)) (e : Entry B) → Rises n ls → learned_at slot ls ≡ Some e
    → (n < slot) × (slot < 2 ^ 40)
above n slot [] e r h = absurd (cc)
above {B} n slot (x ∷ xs) e r h = go (eqb x.slot slot) refl h (above x.slot slot xs e r.1)
  where
    go : (b : Bool) → eqb x.slot slot ≡ b
        → option_map (λ (l : LearnedEntry B). l.entry) (cond b (Some x) (find (λ l. l.slot == slot) xs)) ≡ Some e
        → (learned_at slot xs ≡ Some e → (x.slot < slot) × (slot < 2 ^ 40)) → (n < slot) × (slot < 2 ^ 40)
    go true q f more =
        let k : n < x.slot = r.0 in
        let m : x.slot < 2 ^ 40 = ends x.slot xs r.1 in
        let z : x.slot ≡ slot = eqb-true x.slot slot q in
        (omega arith, omega arith)
    go false q f more =
        let k : n < x.slot = r.0 in
        let m = more f in
        let z : x.slot < slot = m.0 in
        (omega arith, m.1)

-- no entry is outside these slots
pub none_outside : {B : Type 0} (floor slot : ℕ) (ls : List (LearnedEntry B)) → Rises floor ls → ((1 ≤ slot) × (slot < 2 ^ 40) → ⊥)
    → None ≡ learned_at slot ls
none_outside {B} floor slot ls r out = go (learned_at slot ls) refl
  where
    go : (o : Option (Entry B)) → learned_at slot ls ≡ o → None ≡ o
    go None h = refl
    go (Some e) h =
        let k = above floor slot ls e r h in
        let l : floor < slot = k.0 in
        absurd (out (omega arith, k.1))

-- and where one is put

put_rises : {B : Type 0} (n slot : ℕ) (e : Entry B) (ls : List (LearnedEntry B)) → n < slot → slot < 2 ^ 40 → Rises n ls
    → is_learned slot ls ≡ false → Rises n (put_learned (record { slot = slot; entry = e }) ls)
put_rises n slot e [] l m r h = (l, m)
put_rises {B} n slot e (x ∷ xs) l m r h =
    go (ltb x.slot slot) (eqb x.slot slot) refl refl h (λ k. put_rises x.slot slot e xs k m r.1)
  where
    go : (a b : Bool) → ltb x.slot slot ≡ a → eqb x.slot slot ≡ b → (b || is_learned slot xs) ≡ false
        → (x.slot < slot → is_learned slot xs ≡ false → Rises x.slot (put_learned (record { slot = slot; entry = e }) xs))
        → Rises n (cond a (x ∷ put_learned (record { slot = slot; entry = e }) xs) (record { slot = slot; entry = e } ∷ (x ∷ xs)))
    go a true p q f more = absurd (cc)
    go true false p q f more = (r.0, more (ltb-true x.slot slot p) f)
    go false false p q f more = (l, (grind (arith, nat_tests), r.1))

pub learn_rises : {B : Type 0} (floor slot : ℕ) (e : Entry B) (ls : List (LearnedEntry B)) → floor < slot → slot < 2 ^ 40 → Rises floor ls
    → Rises floor (learn_among slot e ls)
learn_rises {B} floor slot e ls l m r = go (is_learned slot ls) refl
  where
    go : (b : Bool) → is_learned slot ls ≡ b → Rises floor (cond b ls (put_learned (record { slot = slot; entry = e }) ls))
    go true h = r
    go false h = put_rises floor slot e ls l m r h
