-- What is left of the places, of the entries and of the slots with a place, once a snapshot gives the log up to a floor.
use Rattle.std.proofs.Common.{◌≡◌, ℕ, zero, suc, ◌+◌, ◌-◌, ◌<◌, ◌≤◌, Bool, true, false, cond, ◌||◌, Option, Some, None, List, [], ◌∷◌, ◌++◌}
use Rattle.std.proofs.Common.{length, take, drop, eqb, refl, ap, sym, ◌∙◌, subst, arith, length-drop, ◌⊎◌, inl, inr}
use Rattle.std.proofs.lemmas.Bool.{ltb-true, lt-ltb, cases_lt}
use Rattle.std.proofs.lemmas.Bool.Decides.{nat_tests}
use Rattle.std.proofs.lemmas.List.Elements.{filter-append}
use Rattle.std.specs.Prelude.{◌==◌, ◌^◌, nat_lt, nat_le, filter}
use Rattle.std.specs.List.{list_any}
use Rattle.std.specs.Map.{keys_of}
use Rattle.paxos_packets.specs.declared.entry.Entry.{Entry}
use Rattle.paxos_learner.specs.declared.learned.LearnedEntry.{LearnedEntry}
use Rattle.paxos_learner.specs.Learned.{placed, placed_in, places_from, all_places, AreRising, is_learned, has_place, KeepsPlaces}
use Rattle.paxos_learner.specs.Learned.{learned_above, slots_above, numbered, Rises, Begins}
use Rattle.paxos_learner.proofs.Ahead.{ends}

-- the places above a floor
abbrev pub places_above : {X : Type 0} → ℕ → List (ℕ × X) → List (ℕ × X)
places_above floor ps = filter (λ p. nat_lt floor p.0) ps

-- their entries, and their slots

pub placed_above : {B : Type 0} (floor : ℕ) (ps : List (ℕ × Option (Entry B))) → placed (places_above floor ps) ≡ learned_above floor (placed ps)
placed_above floor [] = refl
placed_above {B} floor (p ∷ ps) = go (nat_lt floor p.0) refl p.1 (placed_above floor ps)
  where
    go : (b : Bool) → nat_lt floor p.0 ≡ b → (o : Option (Entry B)) → placed (places_above floor ps) ≡ learned_above floor (placed ps)
        → placed (cond b ((p.0, o) ∷ places_above floor ps) (places_above floor ps)) ≡ learned_above floor (placed_in p.0 o (placed ps))
    go true e None h = h
    go true e (Some d) h = rw e (ap (λ (ls : List (LearnedEntry B)). record { slot = p.0; entry = d } ∷ ls) h)
    go false e None h = h
    go false e (Some d) h = rw e h

pub keys_above : {X : Type 0} (floor : ℕ) (ps : List (ℕ × X)) → keys_of (places_above floor ps) ≡ slots_above floor (keys_of ps)
keys_above floor [] = refl
keys_above {X} floor (p ∷ ps) = go (nat_lt floor p.0) (keys_above floor ps)
  where
    go : (b : Bool) → keys_of (places_above floor ps) ≡ slots_above floor (keys_of ps)
        → keys_of (cond b (p ∷ places_above floor ps) (places_above floor ps)) ≡ cond b (p.0 ∷ slots_above floor (keys_of ps)) (slots_above floor (keys_of ps))
    go true h = ap (λ (ks : List ℕ). p.0 ∷ ks) h
    go false h = h

-- the places of a run: the first of them are forgotten

not_above : (floor slot : ℕ) → slot ≤ floor → nat_lt floor slot ≡ false
not_above floor slot l = grind (arith, nat_tests)

all_above : {B : Type 0} (floor n : ℕ) (run : List (Option (Entry B))) → floor < n → places_above floor (places_from n run) ≡ places_from n run
all_above floor n [] l = refl
all_above {B} floor n (o ∷ os) l =
    rw (lt-ltb floor n l) (ap (λ (ps : List (ℕ × Option (Entry B))). (n, o) ∷ ps) (all_above floor (suc n) os (omega arith)))

run_above : {B : Type 0} (n count floor : ℕ) (run : List (Option (Entry B))) → floor ≡ n + count
    → places_above floor (places_from (suc n) run) ≡ places_from (suc floor) (drop count run)
run_above {B} n zero floor run p =
    let q : n ≡ floor = omega arith in
    all_above floor (suc n) run (omega arith) ∙ ap (λ (k : ℕ). places_from (suc k) run) q
run_above n (suc count) floor [] p = refl
run_above n (suc count) floor (o ∷ os) p =
    rw (not_above floor (suc n) (omega arith)) (run_above (suc n) count floor os (omega arith))

pub whole_above : {B : Type 0} (old count floor : ℕ) (run : List (Option (Entry B))) (ps : List (ℕ × Option (Entry B))) → floor ≡ old + count
    → all_places floor (drop count run) (places_above floor ps) ≡ places_above floor (all_places old run ps)
whole_above {B} old count floor run ps p =
    ap (λ (qs : List (ℕ × Option (Entry B))). qs ++ places_above floor ps) (sym (run_above old count floor run p))
    ∙ sym (filter-append (λ (q : ℕ × Option (Entry B)). nat_lt floor q.0) (places_from (suc old) run) ps)

-- they rise from the floor on

rising_above : {X : Type 0} (k n floor : ℕ) (ps : List (ℕ × X)) → (k ≤ n) ⊎ (k ≤ floor) → k < 2 ^ 40 → AreRising n ps
    → AreRising k (places_above floor ps)
rising_above k n floor [] l m a = m
rising_above {X} k n floor (p ∷ ps) l m a =
    go (nat_lt floor p.0) refl l (rising_above p.0 p.0 floor ps (inl (omega arith)) (ends p.0 ps a.1) a.1)
    (λ d. rising_above k p.0 floor ps d m a.1)
  where
    go : (b : Bool) → nat_lt floor p.0 ≡ b → (k ≤ n) ⊎ (k ≤ floor) → AreRising p.0 (places_above floor ps)
        → ((k ≤ p.0) ⊎ (k ≤ floor) → AreRising k (places_above floor ps))
        → AreRising k (cond b (p ∷ places_above floor ps) (places_above floor ps))
    go true e (inl d) later rest = let h : n < p.0 = a.0 in (omega arith, later)
    go true e (inr d) later rest = let h : floor < p.0 = ltb-true floor p.0 e in (omega arith, later)
    go false e (inl d) later rest = let h : n < p.0 = a.0 in rest (inl (omega arith))
    go false e (inr d) later rest = rest (inr d)

pub rest_rises : {B : Type 0} (old count floor : ℕ) (run : List (Option (Entry B))) (ps : List (ℕ × Option (Entry B))) → floor ≡ old + count
    → floor < 2 ^ 40 → AreRising (old + length run) ps → AreRising (floor + length (drop count run)) (places_above floor ps)
rest_rises {B} old count floor run ps p m a = go (cases_lt (length run) count)
  where
    left : length (drop count run) ≡ length run - count
    left = length-drop count run

    last : old + length run < 2 ^ 40
    last = ends (old + length run) ps a

    go : (length run < count) ⊎ (count ≤ length run) → AreRising (floor + length (drop count run)) (places_above floor ps)
    go (inl l) = rising_above (floor + length (drop count run)) (old + length run) floor ps (inr (omega (arith, left))) (omega (arith, left)) a
    go (inr l) = rising_above (floor + length (drop count run)) (old + length run) floor ps (inl (omega (arith, left))) (omega (arith, left, last)) a

-- and no slot above it loses its place

any_above : {X : Type 0} (of : X → ℕ) (floor slot : ℕ) (xs : List X) → floor < slot
    → list_any (λ x. of x == slot) (filter (λ x. nat_lt floor (of x)) xs) ≡ list_any (λ x. of x == slot) xs
any_above of floor slot [] l = refl
any_above {X} of floor slot (x ∷ xs) l = go (nat_lt floor (of x)) refl (any_above of floor slot xs l)
  where
    above : List X
    above = filter (λ y. nat_lt floor (of y)) xs

    go : (b : Bool) → nat_lt floor (of x) ≡ b → list_any (λ y. of y == slot) above ≡ list_any (λ y. of y == slot) xs
        → list_any (λ y. of y == slot) (cond b (x ∷ above) above) ≡ (eqb (of x) slot || list_any (λ y. of y == slot) xs)
    go true e h = ap (λ (c : Bool). eqb (of x) slot || c) h
    go false e h = let n : eqb (of x) slot ≡ false = grind (arith, nat_tests) in rw n h

pub keeps_above : {B : Type 0} (old floor : ℕ) (ls : List (LearnedEntry B)) (slots : List ℕ) → old ≤ floor
    → KeepsPlaces (record { floor = old; learned = ls; places = slots })
    (record { floor = floor; learned = learned_above floor ls; places = slots_above floor slots })
keeps_above {B} old floor ls slots l slot h = go (nat_le slot floor) refl
  where
    same : floor < slot → has_place slot (learned_above floor ls) (slots_above floor slots) ≡ has_place slot ls slots
    same m =
        ap (λ (a : Bool). a || list_any (λ k. k == slot) (slots_above floor slots)) (any_above (λ (x : LearnedEntry B). x.slot) floor slot ls m)
        ∙ ap (λ (a : Bool). is_learned slot ls || a) (any_above (λ (k : ℕ). k) floor slot slots m)

    was : floor < slot → has_place slot ls slots ≡ true
    was m = let f : nat_le slot old ≡ false = grind (arith, nat_tests) in let k = rw f at h in k

    go : (b : Bool) → nat_le slot floor ≡ b → (b || has_place slot (learned_above floor ls) (slots_above floor slots)) ≡ true
    go true e = refl
    go false e = let m : floor < slot = grind (arith, nat_tests) in same m ∙ was m

-- what was learned begins with what is left of the log

all_left : {B : Type 0} (floor n : ℕ) (ls : List (LearnedEntry B)) → floor ≤ n → Rises n ls → learned_above floor ls ≡ ls
all_left floor n [] l r = refl
all_left {B} floor n (x ∷ xs) l r =
    let k : n < x.slot = r.0 in
    let above : floor < x.slot = omega arith in
    rw (lt-ltb floor x.slot above) (ap (λ (ls : List (LearnedEntry B)). x ∷ ls) (all_left floor x.slot xs (omega arith) r.1))

pub begins_above : {B : Type 0} (old count floor : ℕ) (log : List (Entry B)) (ls : List (LearnedEntry B)) → floor ≡ old + count → count ≤ length log
    → Rises old ls → Begins old log ls → Begins floor (drop count log) (learned_above floor ls)
begins_above {B} old zero floor log ls p l r h =
    let q : old ≡ floor = omega arith in
    ap (λ (xs : List (LearnedEntry B)). take (length log) xs) (all_left floor old ls (omega arith) r) ∙ h ∙ ap (λ (n : ℕ). numbered (suc n) log) q
begins_above old (suc count) floor [] ls p l r h = absurd (omega arith)
begins_above old (suc count) floor (e ∷ es) [] p l r h = absurd (cc)
begins_above {B} old (suc count) floor (e ∷ es) (x ∷ xs) p l r h =
    let first : x ≡ record { slot = suc old; entry = e } = cc in
    let rest : take (length es) xs ≡ numbered (suc (suc old)) es = cc in
    let slot : x.slot ≡ suc old = ap (λ (y : LearnedEntry B). y.slot) first in
    let below : nat_lt floor x.slot ≡ false = not_above floor x.slot (omega arith) in
    rw below
    (begins_above (suc old) count floor es xs (omega arith) (omega arith) (subst (λ (n : ℕ). Rises n xs) slot r.1) rest)
