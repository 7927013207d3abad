-- A log above a floor that what was learned begins with goes on as more is learned.
use Rattle.std.proofs.Common.{◌≡◌, ℕ, zero, suc, ◌+◌, ◌<◌, ◌≤◌, Bool, true, false, cond, ◌||◌, Option, Some, None, List, [], ◌∷◌, ◌++◌, length, take, ltb, eqb}
use Rattle.std.proofs.Common.{refl, sym, ap, subst, ◌∙◌, arith, eq-eqb, is_some}
use Rattle.std.proofs.lemmas.Bool.{eqb-true, ltb-true, or_parts}
use Rattle.std.proofs.lemmas.Bool.Decides.{nat_tests}
use Rattle.std.specs.Prelude.{option_map, map, ◌==◌}
use Rattle.std.specs.List.{find}
use Rattle.paxos_packets.specs.declared.entry.Entry.{Entry}
use Rattle.paxos_learner.specs.declared.hearing.News.{News}
use Rattle.paxos_learner.specs.declared.hearing.News.TheVariants.{Cast, Told}
use Rattle.paxos_learner.specs.declared.learned.LearnedEntry.{LearnedEntry}
use Rattle.paxos_learner.specs.Hearing.{hear_news, hear_all}
use Rattle.paxos_learner.specs.Learned.{numbered, is_closed, Rises, Begins, is_learned}
use Rattle.paxos_learner.specs.Learner.{State, LearnerState, learned_at, put_learned, learn, run_from, run_with, has_most, hears}
use Rattle.paxos_learner.proofs.Ahead.{learned_is}
use Rattle.paxos_learner.proofs.Overlay.{at_put}
use Rattle.paxos_learner.proofs.Rising.{above}
use Rattle.paxos_learner.proofs.Running.{not_eq}

-- each of these entries was learned, in the slots from this one on
abbrev AreLearned : {B : Type 0} → ℕ → List (Entry B) → List (LearnedEntry B) → Type 0
AreLearned slot [] ls = Unit {0}
AreLearned slot (e ∷ es) ls = (learned_at slot ls ≡ Some e) × AreLearned (suc slot) es ls

past : {B : Type 0} (n : ℕ) (es : List (Entry B)) (x : LearnedEntry B) (xs : List (LearnedEntry B)) → x.slot < n → AreLearned n es xs
    → AreLearned n es (x ∷ xs)
past n [] x xs l a = tt
past n (e ∷ es) x xs l a = (rw (not_eq x.slot n (λ p. omega arith)) a.0, past (suc n) es x xs (omega arith) a.1)

back : {B : Type 0} (n : ℕ) (es : List (Entry B)) (x : LearnedEntry B) (xs : List (LearnedEntry B)) → x.slot < n → AreLearned n es (x ∷ xs)
    → AreLearned n es xs
back n [] x xs l a = tt
back n (e ∷ es) x xs l a =
    let k = rw (not_eq x.slot n (λ p. omega arith)) at a.0 in
    (k, back (suc n) es x xs (omega arith) a.1)

joined : {B : Type 0} (n : ℕ) (es ds : List (Entry B)) (ls : List (LearnedEntry B)) → AreLearned n es ls → AreLearned (n + length es) ds ls
    → AreLearned n (es ++ ds) ls
joined n [] ds ls a b = let p : n + 0 ≡ n = omega arith in subst (λ (s : ℕ). AreLearned s ds ls) p b
joined n (e ∷ es) ds ls a b =
    let p : n + suc (length es) ≡ suc n + length es = omega arith in
    (a.0, joined (suc n) es ds ls a.1 (subst (λ (s : ℕ). AreLearned s ds ls) p b))

first_ones : {B : Type 0} (n m : ℕ) (es : List (Entry B)) (ls : List (LearnedEntry B)) → AreLearned n es ls → AreLearned n (take m es) ls
first_ones n zero es ls a = tt
first_ones n (suc m) [] ls a = tt
first_ones n (suc m) (e ∷ es) ls a = (a.0, first_ones (suc n) m es ls a.1)

-- if a list begins with a log, its entries were learned; and if they were, it does

begun_learned : {B : Type 0} (n : ℕ) (log : List (Entry B)) (ls : List (LearnedEntry B)) → take (length log) ls ≡ numbered n log → AreLearned n log ls
begun_learned n [] ls h = tt
begun_learned n (e ∷ es) [] h = absurd (cc)
begun_learned {B} n (e ∷ es) (x ∷ xs) h =
    let first : x ≡ record { slot = n; entry = e } = cc in
    let rest : take (length es) xs ≡ numbered (suc n) es = cc in
    let slot : x.slot ≡ n = ap (λ (l : LearnedEntry B). l.slot) first in
    let entry : x.entry ≡ e = ap (λ (l : LearnedEntry B). l.entry) first in
    (rw (eq-eqb x.slot n slot) (ap Some entry), past (suc n) es x xs (omega arith) (begun_learned (suc n) es xs rest))

learned_begins : {B : Type 0} (n : ℕ) (log : List (Entry B)) (ls : List (LearnedEntry B)) → Rises n ls → AreLearned (suc n) log ls
    → take (length log) ls ≡ numbered (suc n) log
learned_begins n [] ls r a = refl
learned_begins n (e ∷ es) [] r a = absurd (let k = a.0 in cc)
learned_begins {B} n (e ∷ es) (x ∷ xs) r a = go (eqb x.slot (suc n)) refl a.0 (λ s t. learned_begins (suc n) es xs s t)
  where
    go : (b : Bool) → eqb x.slot (suc n) ≡ b
        → option_map (λ (l : LearnedEntry B). l.entry) (cond b (Some x) (find (λ l. l.slot == suc n) xs)) ≡ Some e
        → (Rises (suc n) xs → AreLearned (suc (suc n)) es xs → take (length es) xs ≡ numbered (suc (suc n)) es)
        → x ∷ take (length es) xs ≡ record { slot = suc n; entry = e } ∷ numbered (suc (suc n)) es
    go true q f more =
        let z : x.slot ≡ suc n = eqb-true x.slot (suc n) q in
        let same : x.entry ≡ e = cc in
        let rest : take (length es) xs ≡ numbered (suc (suc n)) es =
        more (subst (λ (s : ℕ). Rises s xs) z r.1) (back (suc (suc n)) es x xs (omega arith) a.1) in
        λ i. record { slot = z i; entry = same i } ∷ rest i
    go false q f more =
        let l : x.slot < suc n = (above x.slot (suc n) xs e r.1 f).0 in
        let m : n < x.slot = r.0 in
        absurd (omega arith)

-- a run was learned

run_learned : {B : Type 0} (slot : ℕ) (ls : List (LearnedEntry B)) → AreLearned slot (run_from slot ls) ls
run_learned slot [] = tt
run_learned {B} slot (x ∷ xs) =
    go (eqb x.slot slot) (ltb x.slot slot) refl refl (run_learned (suc slot) xs) (run_learned slot xs)
  where
    go : (b c : Bool) → eqb x.slot slot ≡ b → ltb x.slot slot ≡ c → AreLearned (suc slot) (run_from (suc slot) xs) xs
        → AreLearned slot (run_from slot xs) xs
        → AreLearned slot (run_with b c x.entry (run_from (cond b (suc slot) slot) xs)) (x ∷ xs)
    go true c p q next same =
        let z : x.slot ≡ slot = eqb-true x.slot slot p in
        (rw p refl, past (suc slot) (run_from (suc slot) xs) x xs (omega arith) next)
    go false true p q next same = past slot (run_from slot xs) x xs (ltb-true x.slot slot q) same
    go false false p q next same = tt

-- what was learned stays learned

put_stays : {B : Type 0} (s slot : ℕ) (d e : Entry B) (ls : List (LearnedEntry B)) → learned_at slot ls ≡ None → learned_at s ls ≡ Some e
    → learned_at s (put_learned (record { slot = slot; entry = d }) ls) ≡ Some e
put_stays {B} s slot d e ls n h = at_put s slot d ls n ∙ go (eqb slot s) refl
  where
    go : (b : Bool) → eqb slot s ≡ b → cond b (Some d) (learned_at s ls) ≡ Some e
    go true q = absurd (let k = subst (λ (t : ℕ). learned_at t ls ≡ None) (eqb-true slot s q) n in cc)
    go false q = h

none_learned : {B : Type 0} (slot : ℕ) (ls : List (LearnedEntry B)) → is_learned slot ls ≡ false → learned_at slot ls ≡ None
none_learned {B} slot ls h = go (learned_at slot ls) (sym (learned_is slot ls) ∙ h)
  where
    go : (o : Option (Entry B)) → is_some o ≡ false → o ≡ None
    go None k = refl
    go (Some e) k = absurd (cc)

learn_stays : {B : Type 0} (s slot : ℕ) (d e : Entry B) (l : LearnerState B) → learned_at s l.learned ≡ Some e
    → learned_at s (learn slot d l).learned ≡ Some e
learn_stays {B} s slot d e l h = go (is_closed l.floor slot || is_learned slot l.learned) refl
  where
    put : LearnerState B
    put = record { floor = l.floor; heard = l.heard; learned = put_learned (record { slot = slot; entry = d }) l.learned }

    go : (b : Bool) → (is_closed l.floor slot || is_learned slot l.learned) ≡ b → learned_at s (cond b l put).learned ≡ Some e
    go true q = h
    go false q =
        put_stays s slot d e l.learned (none_learned slot l.learned (or_parts (is_closed l.floor slot) (is_learned slot l.learned) q).1) h

one_stays : {B : Type 0} (n : News B) (st : State B) (s : ℕ) (e : Entry B) → learned_at s st.learner.learned ≡ Some e
    → learned_at s (hear_news n st).learner.learned ≡ Some e
one_stays (Told slot d) st s e h = learn_stays s slot d e st.learner h
one_stays {B} (Cast node v) st s e h = go (is_closed st.learner.floor v.slot) (has_most st.members v (hears node v st.learner))
  where
    heard : LearnerState B
    heard = hears node v st.learner

    go : (a b : Bool) → learned_at s (cond a st.learner (cond b (learn v.slot v.entry heard) heard)).learned ≡ Some e
    go true b = h
    go false true = learn_stays s v.slot v.entry e heard h
    go false false = h

pub all_stay : {B : Type 0} (news : List (News B)) (st : State B) (s : ℕ) (e : Entry B) → learned_at s st.learner.learned ≡ Some e
    → learned_at s (hear_all news st).learner.learned ≡ Some e
all_stay [] st s e h = h
all_stay (n ∷ ns) st s e h = all_stay ns (hear_news n st) s e (one_stays n st s e h)

entries_stay : {B : Type 0} (n : ℕ) (es : List (Entry B)) (news : List (News B)) (st : State B) → AreLearned n es st.learner.learned
    → AreLearned n es (hear_all news st).learner.learned
entries_stay n [] news st a = tt
entries_stay n (e ∷ es) news st a = (all_stay news st n e a.0, entries_stay (suc n) es news st a.1)

-- so it begins with the log and as much of the run after it

pub goes_on : {B : Type 0} (floor : ℕ) (log : List (Entry B)) (news : List (News B)) (st : State B) (m : ℕ)
    → Begins floor log st.learner.learned → Rises floor (hear_all news st).learner.learned
    → Begins floor (log ++ take m (run_from (suc (floor + length log)) (hear_all news st).learner.learned)) (hear_all news st).learner.learned
goes_on {B} floor log news st m h r =
    let ls : List (LearnedEntry B) = (hear_all news st).learner.learned in
    let next : ℕ = suc (floor + length log) in
    let run : List (Entry B) = take m (run_from next ls) in
    let p : next ≡ suc floor + length log = omega arith in
    let more : AreLearned (suc floor + length log) run ls =
    subst (λ (s : ℕ). AreLearned s run ls) p (first_ones next m (run_from next ls) ls (run_learned next ls)) in
    learned_begins floor (log ++ run) ls r
    (joined (suc floor) log run ls (entries_stay (suc floor) log news st (begun_learned (suc floor) log st.learner.learned h)) more)

-- what was learned in the log's slots

among : {B : Type 0} (n slot : ℕ) (es : List (Entry B)) (ls : List (LearnedEntry B)) → AreLearned n es ls → n ≤ slot → slot < n + length es
    → is_learned slot ls ≡ true
among n slot [] ls a l h = absurd (omega arith)
among {B} n slot (e ∷ es) ls a l h = go (eqb n slot) refl (λ k. among (suc n) slot es ls a.1 k (omega arith))
  where
    go : (b : Bool) → eqb n slot ≡ b → (suc n ≤ slot → is_learned slot ls ≡ true) → is_learned slot ls ≡ true
    go true q more = subst (λ (s : ℕ). is_learned s ls ≡ true) (eqb-true n slot q) (learned_is n ls ∙ ap is_some a.0)
    go false q more = let d : n < slot = grind (arith, nat_tests) in more (omega arith)

pub log_is_learned : {B : Type 0} (floor : ℕ) (log : List (Entry B)) (ls : List (LearnedEntry B)) (slot : ℕ) → Begins floor log ls → floor < slot
    → slot ≤ floor + length log → is_learned slot ls ≡ true
log_is_learned floor log ls slot h l m =
    among (suc floor) slot log ls (begun_learned (suc floor) log ls h) (omega arith) (omega arith)

-- the entries of the log

pub entries_are : {B : Type 0} (n : ℕ) (es : List (Entry B)) → map (λ (l : LearnedEntry B). l.entry) (numbered n es) ≡ es
entries_are n [] = refl
entries_are {B} n (e ∷ es) = ap (λ (ds : List (Entry B)). e ∷ ds) (entries_are (suc n) es)
