-- What was learned from a slot on: the run up to the first gap, and what is in the next n slots.
use Rattle.std.proofs.Common.{◌≡◌, ℕ, suc, ◌<◌, ◌≤◌, Bool, true, false, cond, ◌&&◌, Some, None, List, [], ◌∷◌, ◌++◌, ltb, eqb}
use Rattle.std.proofs.Common.{refl, sym, ap, subst, ◌∙◌, arith, ◌⊎◌, inl, inr}
use Rattle.std.proofs.lemmas.Bool.{eqb-true, lt-ltb, cases_lt}
use Rattle.std.proofs.lemmas.List.{append-nil, append_assoc}
use Rattle.std.proofs.lemmas.Bool.Decides.{nat_tests}
use Rattle.std.specs.Prelude.{option_map, ◌==◌, ◌^◌, nat_lt, nat_le}
use Rattle.std.specs.List.{find}
use Rattle.paxos_packets.specs.declared.entry.Entry.{Entry}
use Rattle.paxos_learner.specs.declared.learned.LearnedEntry.{LearnedEntry}
use Rattle.paxos_learner.specs.Learned.{Rises}
use Rattle.paxos_learner.specs.Learner.{learned_at, learned_within, run_from, run_with}
use Rattle.paxos_learner.proofs.Rising.{above, ends}

pub not_eq : (a b : ℕ) → (a ≡ b → ⊥) → eqb a b ≡ false
not_eq a b h = grind (arith, nat_tests)

-- the run

pub run_none : {B : Type 0} (slot : ℕ) (ls : List (LearnedEntry B)) → learned_at slot ls ≡ None → run_from slot ls ≡ []
run_none slot [] h = refl
run_none {B} slot (x ∷ xs) h = go (eqb x.slot slot) (ltb x.slot slot) h (run_none slot xs)
  where
    go : (b c : Bool)
        → option_map (λ (l : LearnedEntry B). l.entry) (cond b (Some x) (find (λ l. l.slot == slot) xs)) ≡ None
        → (learned_at slot xs ≡ None → run_from slot xs ≡ [])
        → run_with b c x.entry (run_from (cond b (suc slot) slot) xs) ≡ []
    go true c f more = absurd (cc)
    go false true f more = more f
    go false false f more = refl

pub run_some : {B : Type 0} (n slot : ℕ) (ls : List (LearnedEntry B)) (e : Entry B) → Rises n ls → learned_at slot ls ≡ Some e
    → run_from slot ls ≡ e ∷ run_from (suc slot) ls
run_some n slot [] e r h = absurd (cc)
run_some {B} n slot (x ∷ xs) e r h = go (eqb x.slot slot) refl h (run_some x.slot slot xs e r.1)
  where
    go : (b : Bool) → eqb x.slot slot ≡ b
        → option_map (λ (l : LearnedEntry B). l.entry) (cond b (Some x) (find (λ l. l.slot == slot) xs)) ≡ Some e
        → (learned_at slot xs ≡ Some e → run_from slot xs ≡ e ∷ run_from (suc slot) xs)
        → run_with b (ltb x.slot slot) x.entry (run_from (cond b (suc slot) slot) xs) ≡ e ∷ run_from (suc slot) (x ∷ xs)
    go true q f more =
        let z : x.slot ≡ slot = eqb-true x.slot slot q in
        let later : eqb x.slot (suc slot) ≡ false = not_eq x.slot (suc slot) (λ k. omega arith) in
        let earlier : ltb x.slot (suc slot) ≡ true = lt-ltb x.slot (suc slot) (omega arith) in
        let same : x.entry ≡ e = cc in
        rw (later, earlier) (ap (λ (d : Entry B). d ∷ run_from (suc slot) xs) same)
    go false q f more =
        let l : x.slot < slot = (above x.slot slot xs e r.1 f).0 in
        let now : ltb x.slot slot ≡ true = lt-ltb x.slot slot l in
        let later : eqb x.slot (suc slot) ≡ false = not_eq x.slot (suc slot) (λ k. omega arith) in
        let earlier : ltb x.slot (suc slot) ≡ true = lt-ltb x.slot (suc slot) (omega arith) in
        rw (now, later, earlier) (more f)

-- what was found of it, with the rest

pub run_over : {B : Type 0} (n slot : ℕ) (found whole : List (Entry B)) (ls : List (LearnedEntry B)) → slot ≡ suc n → learned_at slot ls ≡ None
    → found ++ run_from (suc n) ls ≡ whole → found ≡ whole
run_over {B} n slot found whole ls p h is =
    let none : learned_at (suc n) ls ≡ None = subst (λ (s : ℕ). learned_at s ls ≡ None) p h in
    sym (append-nil found) ∙ ap (λ (es : List (Entry B)). found ++ es) (sym (run_none (suc n) ls none)) ∙ is

pub run_more : {B : Type 0} (floor n slot : ℕ) (found more whole : List (Entry B)) (e : Entry B) (ls : List (LearnedEntry B)) → slot ≡ suc n
    → Rises floor ls → learned_at slot ls ≡ Some e → more ≡ found ++ e ∷ [] → found ++ run_from (suc n) ls ≡ whole
    → more ++ run_from (suc slot) ls ≡ whole
run_more {B} floor n slot found more whole e ls p r h k is =
    let next : run_from (suc n) ls ≡ e ∷ run_from (suc slot) ls =
    ap (λ (s : ℕ). run_from s ls) (sym p) ∙ run_some floor slot ls e r h in
    ap (λ (es : List (Entry B)). es ++ run_from (suc slot) ls) k ∙ append_assoc found (e ∷ []) (run_from (suc slot) ls)
    ∙ ap (λ (es : List (Entry B)). found ++ es) (sym next) ∙ is

-- what is in the next n slots

tested_in : (n m s : ℕ) → n ≤ s → s < m → (nat_le n s && nat_lt s m) ≡ true
tested_in n m s l h = grind (arith, nat_tests)

tested_below : (n m s : ℕ) → s < n → (nat_le n s && nat_lt s m) ≡ false
tested_below n m s l = grind (arith, nat_tests)

tested_above : (n m s : ℕ) → m ≤ s → (nat_le n s && nat_lt s m) ≡ false
tested_above n m s l = grind (arith, nat_tests)

-- none is there if all are above
within_above : {B : Type 0} (k n m : ℕ) (ls : List (LearnedEntry B)) → m ≤ suc k → Rises k ls → learned_within n m ls ≡ []
within_above k n m [] l r = refl
within_above k n m (x ∷ xs) l r =
    let h : k < x.slot = r.0 in
    rw (tested_above n m x.slot (omega arith)) (within_above x.slot n m xs (omega arith) r.1)

pub within_past : {B : Type 0} (k n m : ℕ) (ls : List (LearnedEntry B)) → 2 ^ 40 ≤ n → Rises k ls → learned_within n m ls ≡ []
within_past k n m [] l r = refl
within_past k n m (x ∷ xs) l r =
    let h : x.slot < 2 ^ 40 = ends x.slot xs r.1 in
    rw (tested_below n m x.slot (omega arith)) (within_past x.slot n m xs l r.1)

pub within_nothing : {B : Type 0} (n m : ℕ) (ls : List (LearnedEntry B)) → m ≤ n → learned_within n m ls ≡ []
within_nothing n m [] l = refl
within_nothing {B} n m (x ∷ xs) l = go (nat_le n x.slot) refl (within_nothing n m xs l)
  where
    go : (b : Bool) → nat_le n x.slot ≡ b → learned_within n m xs ≡ [] → learned_within n m (x ∷ xs) ≡ []
    go true h more =
        let k : n ≤ x.slot = grind (arith, nat_tests) in
        rw (tested_above n m x.slot (omega arith)) more
    go false h more =
        let k : x.slot < n = grind (arith, nat_tests) in
        rw (tested_below n m x.slot k) more

-- the first slots, then the rest
pub within_both : {B : Type 0} (k n p m : ℕ) (ls : List (LearnedEntry B)) → n ≤ p → p ≤ m → Rises k ls
    → learned_within n p ls ++ learned_within p m ls ≡ learned_within n m ls
within_both k n p m [] l h r = refl
within_both {B} k n p m (x ∷ xs) l h r = go (cases_lt x.slot n) (cases_lt x.slot p) (cases_lt x.slot m) (within_both x.slot n p m xs l h r.1)
  where
    go : (x.slot < n) ⊎ (n ≤ x.slot) → (x.slot < p) ⊎ (p ≤ x.slot) → (x.slot < m) ⊎ (m ≤ x.slot)
        → learned_within n p xs ++ learned_within p m xs ≡ learned_within n m xs
        → learned_within n p (x ∷ xs) ++ learned_within p m (x ∷ xs) ≡ learned_within n m (x ∷ xs)
    go (inl a) b c more =
        rw (tested_below n p x.slot a, tested_below p m x.slot (omega arith), tested_below n m x.slot a) more
    go (inr a) (inl b) c more =
        rw (tested_in n p x.slot a b, tested_below p m x.slot b, tested_in n m x.slot a (omega arith))
        (ap (λ (ls : List (LearnedEntry B)). x ∷ ls) more)
    go (inr a) (inr b) (inl c) more =
        let none : learned_within n p xs ≡ [] = within_above x.slot n p xs (omega arith) r.1 in
        let rest : learned_within p m xs ≡ learned_within n m xs = ap (λ (ls : List (LearnedEntry B)). ls ++ learned_within p m xs) (sym none) ∙ more in
        rw (tested_above n p x.slot b, tested_in p m x.slot b c, tested_in n m x.slot a c, none)
        (ap (λ (ls : List (LearnedEntry B)). x ∷ ls) rest)
    go (inr a) (inr b) (inr c) more =
        rw (tested_above n p x.slot b, tested_above p m x.slot c, tested_above n m x.slot c) more

-- one slot

pub within_none : {B : Type 0} (n : ℕ) (ls : List (LearnedEntry B)) → learned_at n ls ≡ None → learned_within n (suc n) ls ≡ []
within_none n [] h = refl
within_none {B} n (x ∷ xs) h = go (eqb x.slot n) refl h (within_none n xs)
  where
    go : (b : Bool) → eqb x.slot n ≡ b
        → option_map (λ (l : LearnedEntry B). l.entry) (cond b (Some x) (find (λ l. l.slot == n) xs)) ≡ None
        → (learned_at n xs ≡ None → learned_within n (suc n) xs ≡ []) → learned_within n (suc n) (x ∷ xs) ≡ []
    go true q f more = absurd (cc)
    go false q f more =
        let out : (nat_le n x.slot && nat_lt x.slot (suc n)) ≡ false = grind (arith, nat_tests) in
        rw out (more f)

pub within_some : {B : Type 0} (k n : ℕ) (ls : List (LearnedEntry B)) (e : Entry B) → Rises k ls → learned_at n ls ≡ Some e
    → learned_within n (suc n) ls ≡ record { slot = n; entry = e } ∷ []
within_some k n [] e r h = absurd (cc)
within_some {B} k n (x ∷ xs) e r h = go (eqb x.slot n) refl h (within_some x.slot n xs e r.1)
  where
    go : (b : Bool) → eqb x.slot n ≡ b
        → option_map (λ (l : LearnedEntry B). l.entry) (cond b (Some x) (find (λ l. l.slot == n) xs)) ≡ Some e
        → (learned_at n xs ≡ Some e → learned_within n (suc n) xs ≡ record { slot = n; entry = e } ∷ [])
        → learned_within n (suc n) (x ∷ xs) ≡ record { slot = n; entry = e } ∷ []
    go true q f more =
        let z : x.slot ≡ n = eqb-true x.slot n q in
        let same : x.entry ≡ e = cc in
        let none : learned_within n (suc n) xs ≡ [] = within_above x.slot n (suc n) xs (omega arith) r.1 in
        rw (tested_in n (suc n) x.slot (omega arith) (omega arith), none)
        (λ i. record { slot = z i; entry = same i } ∷ [])
    go false q f more =
        let out : (nat_le n x.slot && nat_lt x.slot (suc n)) ≡ false = grind (arith, nat_tests) in
        rw out (more f)

-- what was found of them, with the rest

pub within_over : {B : Type 0} (n m : ℕ) (found whole ls : List (LearnedEntry B)) → m ≤ n → found ++ learned_within n m ls ≡ whole → found ≡ whole
within_over {B} n m found whole ls l is =
    sym (append-nil found) ∙ ap (λ (es : List (LearnedEntry B)). found ++ es) (sym (within_nothing n m ls l)) ∙ is

pub within_more : {B : Type 0} (floor n next m : ℕ) (found more whole ls : List (LearnedEntry B)) → next ≡ suc n → n < m → Rises floor ls
    → more ≡ found ++ learned_within n (suc n) ls → found ++ learned_within n m ls ≡ whole → more ++ learned_within next m ls ≡ whole
within_more {B} floor n next m found more whole ls p l r k is =
    ap (λ (s : ℕ). more ++ learned_within s m ls) p
    ∙ ap (λ (es : List (LearnedEntry B)). es ++ learned_within (suc n) m ls) k
    ∙ append_assoc found (learned_within n (suc n) ls) (learned_within (suc n) m ls)
    ∙ ap (λ (es : List (LearnedEntry B)). found ++ es) (within_both floor n (suc n) m ls (omega arith) (omega arith) r) ∙ is

pub within_same : {B : Type 0} (n : ℕ) (found more ls : List (LearnedEntry B)) → more ≡ found → learned_at n ls ≡ None
    → more ≡ found ++ learned_within n (suc n) ls
within_same {B} n found more ls p h =
    p ∙ sym (append-nil found) ∙ ap (λ (es : List (LearnedEntry B)). found ++ es) (sym (within_none n ls h))
