-- The places of a run after a floor and those ahead of it: where an entry is found, where one is put, and which slots have a place.
use Rattle.std.proofs.Common.{◌≡◌, ℕ, zero, suc, ◌+◌, ◌<◌, ◌≤◌, Bool, true, false, cond, ◌||◌, Option, Some, None, List, [], ◌∷◌, ◌++◌}
use Rattle.std.proofs.Common.{Ordering, Less, Equal, Greater, length, get_or, set, ltb, eqb, refl, ap, sym, ◌∙◌, subst, lt-ltb, eq-eqb, arith, is_some, ◌⊎◌, inl, inr}
use Rattle.std.proofs.lemmas.Bool.{ltb-true, eqb-true, cases_lt}
use Rattle.std.proofs.lemmas.Bool.Decides.{nat_tests}
use Rattle.std.specs.Ordering.{nat_cmp, is_eq, match_ordering}
use Rattle.std.specs.Prelude.{option_map, ◌==◌, ◌^◌, nat_le}
use Rattle.std.specs.Option.{option_flatten}
use Rattle.std.specs.List.{find, list_any}
use Rattle.std.specs.Map.{lookup, keys_of}
use Rattle.std.specs.BTreeMap.{insert_entry, is_at}
use Rattle.paxos_packets.specs.declared.entry.Entry.{Entry}
use Rattle.paxos_learner.specs.declared.learned.LearnedEntry.{LearnedEntry}
use Rattle.paxos_learner.specs.Learned.{placed, placed_in, places_from, all_places, shelf_with, shelf_of, starts_at, AreRising, is_learned, has_place}
use Rattle.paxos_learner.specs.Learned.{is_closed, has_room_on, KeepsPlaces}
use Rattle.paxos_learner.specs.Learner.{learned_at, put_learned}

abbrev Places : Type 0 → Type 0
Places B = List (ℕ × Option (Entry B))

not_eq : (a b : ℕ) → (a ≡ b → ⊥) → eqb a b ≡ false
not_eq a b h = grind (arith, nat_tests)

not_lt : (a b : ℕ) → b ≤ a → ltb a b ≡ false
not_lt a b h = grind (arith, nat_tests)

-- places that rise

pub lower : {X : Type 0} (m n : ℕ) (ps : List (ℕ × X)) → m ≤ n → AreRising n ps → AreRising m ps
lower m n [] l a = let k : n < 2 ^ 40 = a in omega arith
lower m n (p ∷ ps) l a = let k : n < p.0 = a.0 in (omega arith, a.1)

pub ends : {X : Type 0} (n : ℕ) (ps : List (ℕ × X)) → AreRising n ps → n < 2 ^ 40
ends n [] a = a
ends n (p ∷ ps) a = let k : n < p.0 = a.0 in let m : p.0 < 2 ^ 40 = ends p.0 ps a.1 in omega arith

pub rising_put : {X : Type 0} (n slot : ℕ) (x : X) (ps : List (ℕ × X)) → n < slot → slot < 2 ^ 40 → AreRising n ps
    → AreRising n (insert_entry nat_cmp ps slot x)
rising_put n slot x [] l m a = (l, m)
rising_put {X} n slot x (p ∷ ps) l m a = go (ltb slot p.0) (eqb slot p.0) refl refl (λ k. rising_put p.0 slot x ps k m)
  where
    go : (y z : Bool) → ltb slot p.0 ≡ y → eqb slot p.0 ≡ z
        → (p.0 < slot → AreRising p.0 ps → AreRising p.0 (insert_entry nat_cmp ps slot x))
        → AreRising n (match_ordering (cond y Less (cond z Equal Greater)) ((slot, x) ∷ p ∷ ps) ((p.0, x) ∷ ps) (p ∷ insert_entry nat_cmp ps slot x))
    go true z b c more = (l, (ltb-true slot p.0 b, a.1))
    go false true b c more = (a.0, a.1)
    go false false b c more = (a.0, more (grind (arith, nat_tests)) a.1)

-- an entry is found

is_eq_cmp : (a b : ℕ) → is_eq (nat_cmp a b) ≡ eqb b a
is_eq_cmp a b = go (ltb a b) (eqb a b) (eqb b a) refl refl refl
  where
    go : (x y z : Bool) → ltb a b ≡ x → eqb a b ≡ y → eqb b a ≡ z → is_eq (cond x Less (cond y Equal Greater)) ≡ z
    go true y true p q r = let k = ltb-true a b p in let m = eqb-true b a r in absurd (omega arith)
    go true y false p q r = refl
    go false true true p q r = refl
    go false true false p q r = let k = eq-eqb b a (sym (eqb-true a b q)) in absurd (cc)
    go false false true p q r = let k = eq-eqb a b (sym (eqb-true b a r)) in absurd (cc)
    go false false false p q r = refl

-- nothing is in or below a slot that all places are above
pub none_at : {B : Type 0} (slot n : ℕ) (ps : Places B) → slot ≤ n → AreRising n ps → None ≡ learned_at slot (placed ps)
none_at slot n [] l a = refl
none_at {B} slot n (p ∷ ps) l a = go p.1 (none_at slot p.0 ps (let k : n < p.0 = a.0 in omega arith) a.1)
  where
    go : (x : Option (Entry B)) → None ≡ learned_at slot (placed ps) → None ≡ learned_at slot (placed_in p.0 x (placed ps))
    go None h = h
    go (Some e) h = let k : n < p.0 = a.0 in rw (not_eq p.0 slot (λ q. omega arith)) h

pub in_ahead : {B : Type 0} (slot n : ℕ) (ps : Places B) → AreRising n ps
    → option_flatten (lookup (is_at (nat_cmp slot)) ps) ≡ learned_at slot (placed ps)
in_ahead slot n [] a = refl
in_ahead {B} slot n (p ∷ ps) a = rw (is_eq_cmp slot p.0) (go (eqb p.0 slot) refl p.1 (in_ahead slot p.0 ps a.1))
  where
    go : (b : Bool) → eqb p.0 slot ≡ b → (x : Option (Entry B)) → option_flatten (lookup (is_at (nat_cmp slot)) ps) ≡ learned_at slot (placed ps)
        → option_flatten (cond b (Some x) (lookup (is_at (nat_cmp slot)) ps)) ≡ learned_at slot (placed_in p.0 x (placed ps))
    go true e (Some y) h = rw e refl
    go true e None h = none_at slot p.0 ps (let k = eqb-true p.0 slot e in omega arith) a.1
    go false e (Some y) h = rw e h
    go false e None h = h

-- no entry was learned in the slot

pub learned_is : {B : Type 0} (slot : ℕ) (ls : List (LearnedEntry B)) → is_learned slot ls ≡ is_some (learned_at slot ls)
learned_is slot [] = refl
learned_is {B} slot (l ∷ ls) = go (eqb l.slot slot) (learned_is slot ls)
  where
    go : (b : Bool) → is_learned slot ls ≡ is_some (learned_at slot ls)
        → (b || is_learned slot ls) ≡ is_some (option_map (λ (m : LearnedEntry B). m.entry) (cond b (Some l) (find (λ m. m.slot == slot) ls)))
    go true h = refl
    go false h = h

-- an entry is put

put_first : {B : Type 0} (slot n : ℕ) (e : Entry B) (ps : Places B) → slot ≤ n → AreRising n ps
    → record { slot = slot; entry = e } ∷ placed ps ≡ put_learned (record { slot = slot; entry = e }) (placed ps)
put_first slot n e [] l a = refl
put_first {B} slot n e (p ∷ ps) l a = go p.1 (put_first slot p.0 e ps (let k : n < p.0 = a.0 in omega arith) a.1)
  where
    put : LearnedEntry B
    put = record { slot = slot; entry = e }

    go : (x : Option (Entry B)) → put ∷ placed ps ≡ put_learned put (placed ps)
        → put ∷ placed_in p.0 x (placed ps) ≡ put_learned put (placed_in p.0 x (placed ps))
    go None h = h
    go (Some y) h = let k : n < p.0 = a.0 in rw (not_lt p.0 slot (omega arith)) refl

pub put_among : {B : Type 0} (slot n : ℕ) (e : Entry B) (ps : Places B) → AreRising n ps → learned_at slot (placed ps) ≡ None
    → placed (insert_entry nat_cmp ps slot (Some e)) ≡ put_learned (record { slot = slot; entry = e }) (placed ps)
put_among slot n e [] a h = refl
put_among {B} slot n e (p ∷ ps) a h = go (ltb slot p.0) (eqb slot p.0) refl refl p.1 h (put_among slot p.0 e ps a.1)
  where
    l : LearnedEntry B
    l = record { slot = slot; entry = e }

    go : (x y : Bool) → ltb slot p.0 ≡ x → eqb slot p.0 ≡ y → (o : Option (Entry B)) → learned_at slot (placed_in p.0 o (placed ps)) ≡ None
        → (learned_at slot (placed ps) ≡ None → placed (insert_entry nat_cmp ps slot (Some e)) ≡ put_learned l (placed ps))
        → placed (match_ordering (cond x Less (cond y Equal Greater)) ((slot, Some e) ∷ (p.0, o) ∷ ps) ((p.0, Some e) ∷ ps)
        ((p.0, o) ∷ insert_entry nat_cmp ps slot (Some e)))
        ≡ put_learned l (placed_in p.0 o (placed ps))
    go true y b c None f more = put_first slot p.0 e ps (let k = ltb-true slot p.0 b in omega arith) a.1
    go true y b c (Some d) f more = let k = ltb-true slot p.0 b in rw (not_lt p.0 slot (omega arith)) refl
    go false true b c None f more =
        let q = eqb-true slot p.0 c in
        ap (λ (s : ℕ). record { slot = s; entry = e } ∷ placed ps) (sym q) ∙ put_first slot p.0 e ps (omega arith) a.1
    go false true b c (Some d) f more = let k = rw (eq-eqb p.0 slot (sym (eqb-true slot p.0 c))) at f in absurd (cc)
    go false false b c None f more = more f
    go false false b c (Some d) f more =
        let j : p.0 < slot = grind (arith, nat_tests) in
        let n : eqb p.0 slot ≡ false = not_eq p.0 slot (λ q. omega arith) in
        let k = rw n at f in
        rw (lt-ltb p.0 slot j) (ap (λ (ls : List (LearnedEntry B)). record { slot = p.0; entry = d } ∷ ls) (more k))

-- a place is kept

pub kept_among : {B : Type 0} (slot : ℕ) (ps : Places B) → lookup (is_at (nat_cmp slot)) ps ≡ None
    → placed (insert_entry nat_cmp ps slot None) ≡ placed ps
kept_among slot [] h = refl
kept_among {B} slot (p ∷ ps) h = go (nat_cmp slot p.0) h (kept_among slot ps)
  where
    go : (o : Ordering) → cond (is_eq o) (Some p.1) (lookup (is_at (nat_cmp slot)) ps) ≡ None
        → (lookup (is_at (nat_cmp slot)) ps ≡ None → placed (insert_entry nat_cmp ps slot None) ≡ placed ps)
        → placed (match_ordering o ((slot, None) ∷ p ∷ ps) ((p.0, None) ∷ ps) (p ∷ insert_entry nat_cmp ps slot None)) ≡ placed (p ∷ ps)
    go Less f more = refl
    go Equal f more = absurd (cc)
    go Greater f more = ap (λ ls. placed_in p.0 p.1 ls) (more f)

-- the places of a run, in front of others

pub all_rise : {B : Type 0} (n : ℕ) (run : List (Option (Entry B))) (ps : Places B) → AreRising (n + length run) ps
    → AreRising n (places_from (suc n) run ++ ps)
all_rise n [] ps a = lower n (n + 0) ps (omega arith) a
all_rise n (o ∷ os) ps a = (omega arith, all_rise (suc n) os ps (lower (suc n + length os) (n + suc (length os)) ps (omega arith) a))

pub whole_rises : {B : Type 0} (floor : ℕ) (run : List (Option (Entry B))) (ps : Places B) → AreRising (floor + length run) ps
    → AreRising floor (all_places floor run ps)
whole_rises floor run ps a = all_rise floor run ps a

pub look_run : {B : Type 0} (n slot i : ℕ) (run : List (Option (Entry B))) (rest : Places B) (d : Option (Entry B)) → slot ≡ n + i
    → i < length run → lookup (is_at (nat_cmp slot)) (places_from n run ++ rest) ≡ Some (get_or run i d)
look_run n slot i [] rest d p l = absurd (omega arith)
look_run n slot zero (o ∷ os) rest d p l = rw (is_eq_cmp slot n, eq-eqb n slot (omega arith)) refl
look_run n slot (suc i) (o ∷ os) rest d p l =
    let f : eqb n slot ≡ false = not_eq n slot (λ h. omega arith) in
    rw (is_eq_cmp slot n, f) (look_run (suc n) slot i os rest d (omega arith) (omega arith))

pub look_behind : {B : Type 0} (n slot : ℕ) (run : List (Option (Entry B))) (rest : Places B) → n + length run ≤ slot
    → lookup (is_at (nat_cmp slot)) (places_from n run ++ rest) ≡ lookup (is_at (nat_cmp slot)) rest
look_behind n slot [] rest l = refl
look_behind n slot (o ∷ os) rest l =
    let f : eqb n slot ≡ false = not_eq n slot (λ h. omega arith) in
    rw (is_eq_cmp slot n, f) (look_behind (suc n) slot os rest (omega arith))

pub set_run : {B : Type 0} (n slot i : ℕ) (x : Option (Entry B)) (run : List (Option (Entry B))) (rest : Places B) → slot ≡ n + i
    → i < length run → places_from n (set run i x) ++ rest ≡ insert_entry nat_cmp (places_from n run ++ rest) slot x
set_run n slot i x [] rest p l = absurd (omega arith)
set_run n slot zero x (o ∷ os) rest p l = rw (not_lt slot n (omega arith), eq-eqb slot n (omega arith)) refl
set_run {B} n slot (suc i) x (o ∷ os) rest p l =
    let f : eqb slot n ≡ false = not_eq slot n (λ h. omega arith) in
    rw (not_lt slot n (omega arith), f)
    (ap (λ (ps : Places B). (n, o) ∷ ps) (set_run (suc n) slot i x os rest (omega arith) (omega arith)))

pub put_behind : {B : Type 0} (n slot : ℕ) (x : Option (Entry B)) (run : List (Option (Entry B))) (rest : Places B) → n + length run ≤ slot
    → places_from n run ++ insert_entry nat_cmp rest slot x ≡ insert_entry nat_cmp (places_from n run ++ rest) slot x
put_behind n slot x [] rest l = refl
put_behind {B} n slot x (o ∷ os) rest l =
    let f : eqb slot n ≡ false = not_eq slot n (λ h. omega arith) in
    rw (not_lt slot n (omega arith), f)
    (ap (λ (ps : Places B). (n, o) ∷ ps) (put_behind (suc n) slot x os rest (omega arith)))

-- an entry is found in the run, or after it

pub in_run : {B : Type 0} (floor slot i : ℕ) (run : List (Option (Entry B))) (ps : Places B) (o : Option (Entry B)) → slot ≡ suc floor + i
    → i < length run → o ≡ get_or run i o → AreRising (floor + length run) ps → o ≡ learned_at slot (placed (all_places floor run ps))
in_run floor slot i run ps o p l q a =
    ap option_flatten (ap Some q ∙ sym (look_run (suc floor) slot i run ps o p l))
    ∙ in_ahead slot floor (all_places floor run ps) (whole_rises floor run ps a)

pub past_run : {B : Type 0} (floor slot : ℕ) (run : List (Option (Entry B))) (ps : Places B) → suc floor + length run ≤ slot
    → AreRising (floor + length run) ps → learned_at slot (placed ps) ≡ learned_at slot (placed (all_places floor run ps))
past_run floor slot run ps l a =
    sym (in_ahead slot (floor + length run) ps a) ∙ ap option_flatten (sym (look_behind (suc floor) slot run ps l))
    ∙ in_ahead slot floor (all_places floor run ps) (whole_rises floor run ps a)

pub outside_run : {B : Type 0} (floor slot : ℕ) (run : List (Option (Entry B))) (ps : Places B) → (floor < slot → suc floor + length run ≤ slot)
    → AreRising (floor + length run) ps → learned_at slot (placed ps) ≡ learned_at slot (placed (all_places floor run ps))
outside_run {B} floor slot run ps past a = go (cases_lt floor slot)
  where
    go : (floor < slot) ⊎ (slot ≤ floor) → learned_at slot (placed ps) ≡ learned_at slot (placed (all_places floor run ps))
    go (inl l) = past_run floor slot run ps (past l) a
    go (inr l) =
        sym (none_at slot (floor + length run) ps (omega arith) a) ∙ none_at slot floor (all_places floor run ps) l (whole_rises floor run ps a)

-- the run goes on by a place

pub moved : {B : Type 0} (n k : ℕ) (o : Option (Entry B)) (run : List (Option (Entry B))) (ps : Places B) → k ≡ n + length run
    → places_from n (run ++ o ∷ []) ++ ps ≡ places_from n run ++ (k, o) ∷ ps
moved {B} n k o [] ps p = let q : n ≡ k = omega arith in ap (λ (s : ℕ). (s, o) ∷ ps) q
moved {B} n k o (x ∷ xs) ps p = ap (λ (qs : Places B). (n, x) ∷ qs) (moved (suc n) k o xs ps (omega arith))

pub free_placed : {B : Type 0} (k : ℕ) (xs ys : Places B) → placed (xs ++ (k, None) ∷ ys) ≡ placed (xs ++ ys)
free_placed k [] ys = refl
free_placed k (x ∷ xs) ys = ap (λ ls. placed_in x.0 x.1 ls) (free_placed k xs ys)

-- slots with a place

pub key_is : {X : Type 0} (slot : ℕ) (ps : List (ℕ × X)) → is_some (lookup (is_at (nat_cmp slot)) ps) ≡ list_any (λ k. k == slot) (keys_of ps)
key_is slot [] = refl
key_is {X} slot (p ∷ ps) = rw (is_eq_cmp slot p.0) (go (eqb p.0 slot) (key_is slot ps))
  where
    go : (b : Bool) → is_some (lookup (is_at (nat_cmp slot)) ps) ≡ list_any (λ k. k == slot) (keys_of ps)
        → is_some (cond b (Some p.1) (lookup (is_at (nat_cmp slot)) ps)) ≡ (b || list_any (λ k. k == slot) (keys_of ps))
    go true h = refl
    go false h = h

pub or_right : (a b : Bool) → b ≡ true → (a || b) ≡ true
or_right true b h = refl
or_right false b h = h

pub or_left : (a b : Bool) → a ≡ true → (a || b) ≡ true
or_left a b h = rw h refl

key_put : {X : Type 0} (slot : ℕ) (x : X) (ps : List (ℕ × X)) → list_any (λ k. k == slot) (keys_of (insert_entry nat_cmp ps slot x)) ≡ true
key_put slot x [] = or_left (eqb slot slot) false (eq-eqb slot slot refl)
key_put {X} slot x (p ∷ ps) = go (ltb slot p.0) (eqb slot p.0) refl refl (key_put slot x ps)
  where
    go : (y z : Bool) → ltb slot p.0 ≡ y → eqb slot p.0 ≡ z → list_any (λ k. k == slot) (keys_of (insert_entry nat_cmp ps slot x)) ≡ true
        → list_any (λ k. k == slot) (keys_of (match_ordering (cond y Less (cond z Equal Greater)) ((slot, x) ∷ p ∷ ps) ((p.0, x) ∷ ps)
        (p ∷ insert_entry nat_cmp ps slot x))) ≡ true
    go true z b c more = or_left (eqb slot slot) _ (eq-eqb slot slot refl)
    go false true b c more = or_left (eqb p.0 slot) _ (eq-eqb p.0 slot (sym (eqb-true slot p.0 c)))
    go false false b c more = or_right (eqb p.0 slot) _ more

or_then : (a b c : Bool) → (a || b) ≡ true → (b ≡ true → c ≡ true) → (a || c) ≡ true
or_then true b c h f = refl
or_then false b c h f = f h

or_both : (a b c d : Bool) → (a ≡ true → c ≡ true) → (b ≡ true → d ≡ true) → (a || b) ≡ true → (c || d) ≡ true
or_both true b c d f g h = or_left c d (f refl)
or_both false b c d f g h = or_right c d (g h)

key_stays : {X : Type 0} (other slot : ℕ) (x : X) (ps : List (ℕ × X)) → list_any (λ k. k == other) (keys_of ps) ≡ true
    → list_any (λ k. k == other) (keys_of (insert_entry nat_cmp ps slot x)) ≡ true
key_stays other slot x [] h = absurd (cc)
key_stays {X} other slot x (p ∷ ps) h = go (nat_cmp slot p.0) (key_stays other slot x ps)
  where
    go : (o : Ordering)
        → (list_any (λ k. k == other) (keys_of ps) ≡ true → list_any (λ k. k == other) (keys_of (insert_entry nat_cmp ps slot x)) ≡ true)
        → list_any (λ k. k == other) (keys_of (match_ordering o ((slot, x) ∷ p ∷ ps) ((p.0, x) ∷ ps) (p ∷ insert_entry nat_cmp ps slot x))) ≡ true
    go Less more = or_right (eqb slot other) _ h
    go Equal more = h
    go Greater more = or_then (eqb p.0 other) _ _ h more

learned_stays : {B : Type 0} (other : ℕ) (l : LearnedEntry B) (ls : List (LearnedEntry B)) → is_learned other ls ≡ true
    → is_learned other (put_learned l ls) ≡ true
learned_stays other l [] h = absurd (cc)
learned_stays {B} other l (m ∷ ms) h = go (ltb m.slot l.slot) (learned_stays other l ms)
  where
    go : (b : Bool) → (is_learned other ms ≡ true → is_learned other (put_learned l ms) ≡ true)
        → is_learned other (cond b (m ∷ put_learned l ms) (l ∷ (m ∷ ms))) ≡ true
    go true more = or_then (eqb m.slot other) _ _ h more
    go false more = or_right (eqb l.slot other) _ h

-- the slot has its place after it was kept, and no other loses its own

pub place_kept : {B : Type 0} (slot : ℕ) (ps : Places B)
    → has_place slot (placed (insert_entry nat_cmp ps slot None)) (keys_of (insert_entry nat_cmp ps slot None)) ≡ true
place_kept slot ps = or_right (is_learned slot (placed (insert_entry nat_cmp ps slot None))) _ (key_put slot None ps)

-- a closed slot has room, and others have theirs by their places
closed_or : (floor slot : ℕ) (a b : Bool) → (a ≡ true → b ≡ true) → (is_closed floor slot || a) ≡ true → (is_closed floor slot || b) ≡ true
closed_or floor slot a b f h = or_then (is_closed floor slot) a b h f

pub keeps_kept : {B : Type 0} (floor slot : ℕ) (ps : Places B) → lookup (is_at (nat_cmp slot)) ps ≡ None
    → KeepsPlaces (shelf_with floor ps) (shelf_with floor (insert_entry nat_cmp ps slot None))
keeps_kept {B} floor slot ps h other =
    closed_or floor other _ _
    (or_both (is_learned other (placed ps)) _ _ _
    (λ g. subst (λ (ls : List (LearnedEntry B)). is_learned other ls ≡ true) (sym (kept_among slot ps h)) g)
    (λ g. key_stays other slot None ps g))

pub keeps_put : {B : Type 0} (floor slot : ℕ) (e : Entry B) (ps : Places B)
    → placed (insert_entry nat_cmp ps slot (Some e)) ≡ put_learned (record { slot = slot; entry = e }) (placed ps)
    → KeepsPlaces (shelf_with floor ps) (shelf_with floor (insert_entry nat_cmp ps slot (Some e)))
keeps_put {B} floor slot e ps q other =
    closed_or floor other _ _
    (or_both (is_learned other (placed ps)) _ _ _
    (λ g. subst (λ (ls : List (LearnedEntry B)). is_learned other ls ≡ true) (sym q) (learned_stays other (record { slot = slot; entry = e }) _ g))
    (λ g. key_stays other slot (Some e) ps g))

key_beside : {X : Type 0} (other : ℕ) (p : ℕ × X) (xs ys : List (ℕ × X)) → list_any (λ k. k == other) (keys_of (xs ++ ys)) ≡ true
    → list_any (λ k. k == other) (keys_of (xs ++ p ∷ ys)) ≡ true
key_beside other p [] ys h = or_right (eqb p.0 other) _ h
key_beside other p (x ∷ xs) ys h = or_then (eqb x.0 other) _ _ h (key_beside other p xs ys)

pub keeps_free : {B : Type 0} (floor k : ℕ) (xs ys : Places B)
    → KeepsPlaces (shelf_with floor (xs ++ ys)) (shelf_with floor (xs ++ (k, None) ∷ ys))
keeps_free {B} floor k xs ys other =
    closed_or floor other _ _
    (or_both (is_learned other (placed (xs ++ ys))) _ _ _
    (λ g. subst (λ (ls : List (LearnedEntry B)). is_learned other ls ≡ true) (sym (free_placed k xs ys)) g)
    (key_beside other (k, None) xs ys))

pub has_kept : {B : Type 0} (slot : ℕ) (ls : List (LearnedEntry B)) (ps : Places B) → is_some (lookup (is_at (nat_cmp slot)) ps) ≡ true
    → has_place slot ls (keys_of ps) ≡ true
has_kept slot ls ps h = or_right (is_learned slot ls) _ (sym (key_is slot ps) ∙ h)

-- a place is kept after the run

pub kept_behind : {B : Type 0} (floor slot : ℕ) (run : List (Option (Entry B))) (ps : Places B) → suc floor + length run ≤ slot
    → lookup (is_at (nat_cmp slot)) ps ≡ None
    → placed (all_places floor run (insert_entry nat_cmp ps slot None)) ≡ placed (all_places floor run ps)
kept_behind floor slot run ps l h =
    ap placed (put_behind (suc floor) slot None run ps l) ∙ kept_among slot (all_places floor run ps) (look_behind (suc floor) slot run ps l ∙ h)

pub keeps_behind : {B : Type 0} (floor slot : ℕ) (run : List (Option (Entry B))) (ps : Places B) → suc floor + length run ≤ slot
    → lookup (is_at (nat_cmp slot)) ps ≡ None → KeepsPlaces (shelf_of floor run ps) (shelf_of floor run (insert_entry nat_cmp ps slot None))
keeps_behind {B} floor slot run ps l h =
    subst (λ (qs : Places B). KeepsPlaces (shelf_of floor run ps) (shelf_with floor qs)) (sym (put_behind (suc floor) slot None run ps l))
    (keeps_kept floor slot (all_places floor run ps) (look_behind (suc floor) slot run ps l ∙ h))

pub has_behind : {B : Type 0} (floor slot : ℕ) (run : List (Option (Entry B))) (ps : Places B) → suc floor + length run ≤ slot
    → is_some (lookup (is_at (nat_cmp slot)) ps) ≡ true → has_room_on slot (shelf_of floor run ps) ≡ true
has_behind floor slot run ps l h =
    or_right (is_closed floor slot) _
    (has_kept slot (placed (all_places floor run ps)) (all_places floor run ps) (ap is_some (look_behind (suc floor) slot run ps l) ∙ h))

pub has_put : {B : Type 0} (floor slot : ℕ) (run : List (Option (Entry B))) (ps : Places B) → suc floor + length run ≤ slot
    → has_room_on slot (shelf_of floor run (insert_entry nat_cmp ps slot None)) ≡ true
has_put {B} floor slot run ps l =
    or_right (is_closed floor slot) _
    (subst (λ (qs : Places B). has_place slot (placed qs) (keys_of qs) ≡ true) (sym (put_behind (suc floor) slot None run ps l))
    (place_kept slot (all_places floor run ps)))

pub has_near : {B : Type 0} (floor slot i : ℕ) (run : List (Option (Entry B))) (ps : Places B) → slot ≡ suc floor + i → i < length run
    → has_room_on slot (shelf_of floor run ps) ≡ true
has_near floor slot i run ps p l =
    or_right (is_closed floor slot) _
    (has_kept slot (placed (all_places floor run ps)) (all_places floor run ps) (ap is_some (look_run (suc floor) slot i run ps None p l)))

-- an entry is put into its place, in the run or after it

pub put_near : {B : Type 0} (floor slot i : ℕ) (e : Entry B) (run : List (Option (Entry B))) (ps : Places B) → slot ≡ suc floor + i → i < length run
    → AreRising (floor + length run) ps → learned_at slot (placed (all_places floor run ps)) ≡ None
    → placed (all_places floor (set run i (Some e)) ps) ≡ put_learned (record { slot = slot; entry = e }) (placed (all_places floor run ps))
put_near floor slot i e run ps p l a h =
    ap placed (set_run (suc floor) slot i (Some e) run ps p l)
    ∙ put_among slot floor e (all_places floor run ps) (whole_rises floor run ps a) h

pub keeps_near : {B : Type 0} (floor slot i : ℕ) (e : Entry B) (run : List (Option (Entry B))) (ps : Places B) → slot ≡ suc floor + i → i < length run
    → AreRising (floor + length run) ps → learned_at slot (placed (all_places floor run ps)) ≡ None
    → KeepsPlaces (shelf_of floor run ps) (shelf_of floor (set run i (Some e)) ps)
keeps_near {B} floor slot i e run ps p l a h =
    subst (λ (qs : Places B). KeepsPlaces (shelf_of floor run ps) (shelf_with floor qs)) (sym (set_run (suc floor) slot i (Some e) run ps p l))
    (keeps_put floor slot e (all_places floor run ps) (put_among slot floor e (all_places floor run ps) (whole_rises floor run ps a) h))

pub put_far : {B : Type 0} (floor slot : ℕ) (e : Entry B) (run : List (Option (Entry B))) (ps : Places B) → suc floor + length run ≤ slot
    → AreRising (floor + length run) ps → learned_at slot (placed (all_places floor run ps)) ≡ None
    → placed (all_places floor run (insert_entry nat_cmp ps slot (Some e)))
    ≡ put_learned (record { slot = slot; entry = e }) (placed (all_places floor run ps))
put_far floor slot e run ps l a h =
    ap placed (put_behind (suc floor) slot (Some e) run ps l)
    ∙ put_among slot floor e (all_places floor run ps) (whole_rises floor run ps a) h

pub keeps_far : {B : Type 0} (floor slot : ℕ) (e : Entry B) (run : List (Option (Entry B))) (ps : Places B) → suc floor + length run ≤ slot
    → AreRising (floor + length run) ps → learned_at slot (placed (all_places floor run ps)) ≡ None
    → KeepsPlaces (shelf_of floor run ps) (shelf_of floor run (insert_entry nat_cmp ps slot (Some e)))
keeps_far {B} floor slot e run ps l a h =
    subst (λ (qs : Places B). KeepsPlaces (shelf_of floor run ps) (shelf_with floor qs)) (sym (put_behind (suc floor) slot (Some e) run ps l))
    (keeps_put floor slot e (all_places floor run ps) (put_among slot floor e (all_places floor run ps) (whole_rises floor run ps a) h))

-- a slot above the floor with room has a place
pub open_place : (floor slot : ℕ) (b : Bool) → floor < slot → (is_closed floor slot || b) ≡ true → b ≡ true
open_place floor slot b l h = let k : nat_le slot floor ≡ false = grind (arith, nat_tests) in let m = rw k at h in m

-- a slot that was not learned and has a place is ahead
pub has_key : {B : Type 0} (slot : ℕ) (learned : List (LearnedEntry B)) (ps : Places B) → learned_at slot learned ≡ None
    → has_place slot learned (keys_of ps) ≡ true → lookup (is_at (nat_cmp slot)) ps ≡ None → ⊥
has_key slot learned ps n h l =
    let k : is_learned slot learned ≡ false = learned_is slot learned ∙ ap is_some n in
    let m : list_any (λ k. k == slot) (keys_of ps) ≡ false = sym (key_is slot ps) ∙ ap is_some l in
    let o = rw (k, m) at h in cc

pub none_of : {X : Type 0} (o : Option X) → is_some o ≡ false → o ≡ None
none_of None h = refl
none_of (Some x) h = absurd (cc)

pub starts_first : {X : Type 0} (slot j : ℕ) (x : X) (ps rest : List (ℕ × X)) → starts_at slot ps → ps ≡ (j, x) ∷ rest → j ≡ slot
starts_first {X} slot j x ps rest s p = subst (λ (qs : List (ℕ × X)). starts_at slot qs) p s
