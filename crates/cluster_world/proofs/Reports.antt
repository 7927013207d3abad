-- What the promises of a majority call for.
use Rattle.std.proofs.Common.{◌≡◌, ◌⊎◌, inl, inr, ⊎_elim, ℕ, zero, suc, ◌<◌, ◌≤◌, Bool, true, false, ◌&&◌, eqb, refl, sym, ap, ◌∙◌, subst}
use Rattle.std.proofs.Common.{arith, max, List, [], ◌∷◌, length, Option, Some, None}
use Rattle.std.proofs.lemmas.Bool.{cond_both, cond-true, cond-false, cases_Bool, ltb-true, eqb-true, eq-eqb, and_parts, and_cases, or_cases}
use Rattle.cluster_world.proofs.Order.{Le, le_refl, le_trans, lt_le, lt_from_test, le_from_test}
use Rattle.cluster_world.proofs.Lists.{has_cons, has_nil, has_left, has_right, has_cases}
use Rattle.cluster_world.proofs.Invariant.{Known, Carried, Safe, Free, Tops, Tells, AllSafe}
use Rattle.paxos_packets.specs.Ballot.{below}
use Rattle.cluster_world.specs.Has.{Has, here, there}
use Rattle.paxos_packets.specs.Members.{is_majority}
use Rattle.paxos_proposer.specs.declared.promises.CountedPromise.{CountedPromise}
use Rattle.paxos_proposer.specs.Promises.{above_floors, lowest}
use Rattle.paxos_proposer.specs.Reports.{entry_or_noop, better, best, reports, past_reports, is_counted, called_in}
use Rattle.paxos_proposer.specs.Proposer.{next_vote}
use Rattle.paxos_packets.specs.declared.ballot.Ballot.{Ballot}
use Rattle.paxos_packets.specs.declared.packet.Packet.{Packet}
use Rattle.paxos_packets.specs.declared.vote.Vote.{Vote}
use Rattle.paxos_packets.specs.declared.packet.Kind.TheVariants.{Accept}

off : false ≡ true → ⊥
off e = cc

-- the better of two
record Pick {B : Type 0} (slot : ℕ) (v w : Vote B) : Type 0 where
  m : Vote B
  is : better slot v (Some w) ≡ Some m
  which : ((v ≡ m) × (v.slot ≡ slot)) ⊎ (w ≡ m)
  second : Le w.ballot m.ballot
  first : v.slot ≡ slot → Le v.ballot m.ballot

pick : {B : Type 0} (slot : ℕ) (v w : Vote B) → Pick slot v w
pick slot v w =
    ⊎_elim
    (λ e. let p = and_parts (eqb v.slot slot) (below w.ballot v.ballot) e in
    record {
      m = v;
      is = cond-true test (Some v) (Some w) e;
      which = inl (refl, eqb-true v.slot slot p.0);
      second = lt_le (lt_from_test w.ballot v.ballot p.1);
      first = λ s. le_refl v.ballot;
    })
    (λ e.
    record {
      m = w;
      is = cond-false test (Some v) (Some w) e;
      which = inr refl;
      second = le_refl w.ballot;
      first = λ s. le_from_test w.ballot v.ballot
          (⊎_elim (λ f. absurd (off (sym f ∙ eq-eqb v.slot slot s))) (λ f. f) (and_cases (eqb v.slot slot) (below w.ballot v.ballot) e));
    })
    (cases_Bool test)
  where
    test : Bool
    test = eqb v.slot slot && below w.ballot v.ballot

record Best {B : Type 0} (slot : ℕ) (vs : List (Vote B)) (u : Vote B) : Type 0 where
  m : Vote B
  is : best slot vs ≡ Some m
  has : Has vs m
  slot_is : m.slot ≡ slot
  high : Le u.ballot m.ballot

pub best_has : {B : Type 0} (slot : ℕ) (vs : List (Vote B)) (m : Vote B) → best slot vs ≡ Some m → Has vs m × (m.slot ≡ slot)
best_has slot [] m e = absurd (cc)
best_has {B} slot (v ∷ vs) m e = go (λ w f. best_has slot vs w f) (best slot vs) refl
  where
    same : (a b : Vote B) → Some a ≡ Some b → a ≡ b
    same a b p = cc

    go : ((w : Vote B) → best slot vs ≡ Some w → Has vs w × (w.slot ≡ slot)) → (o : Option (Vote B)) → best slot vs ≡ o
        → Has (v ∷ vs) m × (m.slot ≡ slot)
    go rest None f = cond_both (eqb v.slot slot) (Some v) None (λ o. o ≡ Some m → Has (v ∷ vs) m × (m.slot ≡ slot))
        (λ t p. (
          subst (λ z. Has (v ∷ vs) z) (same v m p) here,
          subst (λ (z : Vote B). z.slot ≡ slot) (same v m p) (eqb-true v.slot slot t),
        ))
        (λ t p. absurd (nothing p))
        (sym (ap (λ o. better slot v o) f) ∙ e)
      where
        nothing : None ≡ Some m → ⊥
        nothing p = cc
    go rest (Some w) f =
        let p = pick slot v w in
        let q : p.m ≡ m = same p.m m (sym p.is ∙ (sym (ap (λ o. better slot v o) f) ∙ e)) in
        let r = rest w f in
        ⊎_elim
        (λ (h : (v ≡ p.m) × (v.slot ≡ slot)). (
          subst (λ z. Has (v ∷ vs) z) (h.0 ∙ q) here,
          subst (λ (z : Vote B). z.slot ≡ slot) (h.0 ∙ q) h.1,
        ))
        (λ (h : w ≡ p.m). (subst (λ z. Has (v ∷ vs) z) (h ∙ q) (there r.0), subst (λ (z : Vote B). z.slot ≡ slot) (h ∙ q) r.1))
        p.which

best_high : {B : Type 0} (slot : ℕ) (vs : List (Vote B)) (u : Vote B) → Has vs u → u.slot ≡ slot
    → (m : Vote B) × (best slot vs ≡ Some m) × Le u.ballot m.ballot
best_high slot [] u h s = absurd (has_nil h)
best_high {B} slot (v ∷ vs) u h s = ⊎_elim (λ e. head e (best slot vs) refl) (λ r. tail (best_high slot vs u r s)) (has_cons h)
  where
    head : v ≡ u → (o : Option (Vote B)) → best slot vs ≡ o → (m : Vote B) × (best slot (v ∷ vs) ≡ Some m) × Le u.ballot m.ballot
    head e None f = (
      v,
      ap (λ o. better slot v o) f ∙ cond-true (eqb v.slot slot) (Some v) None
          (eq-eqb v.slot slot (ap (λ (z : Vote B). z.slot) e ∙ s)),
      subst (λ (z : Vote B). Le z.ballot v.ballot) e (le_refl v.ballot),
    )
    head e (Some w) f =
        let p = pick slot v w in (
          p.m,
          ap (λ o. better slot v o) f ∙ p.is,
          subst (λ (z : Vote B). Le z.ballot p.m.ballot) e (p.first (ap (λ (z : Vote B). z.slot) e ∙ s)),
        )

    tail : (w : Vote B) × (best slot vs ≡ Some w) × Le u.ballot w.ballot
        → (m : Vote B) × (best slot (v ∷ vs) ≡ Some m) × Le u.ballot m.ballot
    tail r = let p = pick slot v r.0 in (p.m, ap (λ o. better slot v o) r.1 ∙ p.is, le_trans r.2 p.second)

best_is : {B : Type 0} (slot : ℕ) (vs : List (Vote B)) (u : Vote B) → Has vs u → u.slot ≡ slot → Best slot vs u
best_is slot vs u h s =
    let a = best_high slot vs u h s in
    let b = best_has slot vs a.0 a.1 in
    record { m = a.0; is = a.1; has = b.0; slot_is = b.1; high = a.2 }

pub reports_has : {B : Type 0} {cs : List (CountedPromise B)} {c : CountedPromise B} {u : Vote B} → Has cs c → Has c.votes u
    → Has (reports cs) u
reports_has (here {x = c}) g = has_left _ g
reports_has (there {y = d} h) g = has_right d.votes (reports_has h g)

pub has_reports : {B : Type 0} (cs : List (CountedPromise B)) (u : Vote B) → Has (reports cs) u
    → (c : CountedPromise B) × Has cs c × Has c.votes u
has_reports [] u h = absurd (has_nil h)
has_reports (c ∷ cs) u h =
    ⊎_elim (λ g. (c, here, g)) (λ g. let r = has_reports cs u g in (r.0, there r.1, r.2)) (has_cases c.votes (reports cs) h)

pub past_has : {B : Type 0} (floor : ℕ) (vs : List (Vote B)) (u : Vote B) → Has vs u → u.slot < past_reports floor vs
past_has floor [] u h = absurd (has_nil h)
past_has {B} floor (v ∷ vs) u h =
    ⊎_elim (λ e. subst (λ (z : Vote B). z.slot < past_reports floor (v ∷ vs)) e (omega arith))
    (λ r. let l = past_has floor vs u r in omega arith) (has_cons h)

counted_has : {B : Type 0} (cs : List (CountedPromise B)) (k : ℕ) → is_counted cs k ≡ true
    → (c : CountedPromise B) × Has cs c × (c.node ≡ k)
counted_has [] k e = absurd (off e)
counted_has (c ∷ cs) k e =
    ⊎_elim (λ s. (c, here, eqb-true c.node k s)) (λ r. let z = counted_has cs k r in (z.0, there z.1, z.2))
    (or_cases (eqb c.node k) (is_counted cs k) e)

pub length-called_in : {B : Type 0} (vs : List (Vote B)) (slot n : ℕ) → length (called_in vs slot n) ≡ n
length-called_in vs slot zero = refl
length-called_in vs slot (suc n) = ap suc (length-called_in vs (suc slot) n)

-- the first slot above each floor
pub above_has : {B : Type 0} (cs : List (CountedPromise B)) (slot : ℕ) → (slot ≤ above_floors slot cs)
    × ((c : CountedPromise B) → Has cs c → c.floor < above_floors slot cs)
above_has [] slot = (omega arith, λ c h. absurd (has_nil h))
above_has {B} (d ∷ cs) slot =
    let r = above_has cs (max slot (suc d.floor)) in (
      (let l = r.0 in omega arith),
      λ c h. ⊎_elim (λ e. subst (λ (z : CountedPromise B). z.floor < above_floors (max slot (suc d.floor)) cs) e (let l = r.0 in omega arith))
          (λ i. r.1 c i) (has_cons h),
    )

-- a leader's first slot: not before the one that was asked for, above its own floor and each one reported
pub lowest_has : {B : Type 0} (first own : ℕ) (cs : List (CountedPromise B)) → (first ≤ lowest first own cs) × (own < lowest first own cs)
    × ((c : CountedPromise B) → Has cs c → c.floor < lowest first own cs)
lowest_has first own cs =
    let r = above_has cs (max first (suc own)) in ((let l = r.0 in omega arith), (let l = r.0 in omega arith), r.1)

-- it is the one that was asked for, if no floor reaches it
above_is : {B : Type 0} (slot : ℕ) (cs : List (CountedPromise B)) → ((c : CountedPromise B) → Has cs c → c.floor < slot)
    → above_floors slot cs ≡ slot
above_is slot [] h = refl
above_is slot (c ∷ cs) h = ap (λ k. above_floors k cs) (greater c.floor (h c here)) ∙ above_is slot cs (λ d i. h d (there i))
  where
    greater : (a : ℕ) → a < slot → max slot (suc a) ≡ slot
    greater a l = omega arith

pub lowest_is : {B : Type 0} (first own : ℕ) (cs : List (CountedPromise B)) → own < first
    → ((c : CountedPromise B) → Has cs c → c.floor < first) → lowest first own cs ≡ first
lowest_is first own cs l h = ap (λ k. above_floors k cs) (greater own l) ∙ above_is first cs h
  where
    greater : (a : ℕ) → a < first → max first (suc a) ≡ first
    greater a g = omega arith

module _ {B : Type 0} (members : ℕ) (promised : ℕ → Option Ballot) (sent : List (Packet B)) (b : Ballot) (first : ℕ)
    (cs : List (CountedPromise B)) (most : is_majority members (is_counted cs) ≡ true)
    (kept : (c : CountedPromise B) → Has cs c → Tells promised sent c.node b first c.floor c.votes) (low : ℕ) (from : first ≤ low)
    (over : (c : CountedPromise B) → Has cs c → c.floor < low) where
  told_by : (k : ℕ) → is_counted cs k ≡ true → (c : CountedPromise B) × Has cs c × Tells promised sent k b first c.floor c.votes
  told_by k e =
      let c = counted_has cs k e in
      (c.0, c.1, subst (λ j. Tells promised sent j b first c.0.floor c.0.votes) c.2 (kept c.0 c.1))

  -- from the leader's first slot on each report tells of the slot
  covers : (slot s : ℕ) → low ≤ slot → s ≡ slot → (c : CountedPromise B) → Has cs c → (first ≤ s) × (c.floor < s)
  covers slot s l e c h = let g = over c h in (omega arith, omega arith)

  -- what the reports call for in a slot is safe there
  pub called_safe : (slot : ℕ) → low ≤ slot → Safe members promised sent (next_vote b slot (entry_or_noop (best slot (reports cs))))
  called_safe slot l =
      record {
        quorum = is_counted cs;
        most = ltb-true _ _ most;
        backs =
            λ k m q.
            let t = told_by k q in
            record {
              reaches = t.2.reaches;
              carries = λ w s a i. let z = covers slot w.slot l s t.0 t.1 in carried k w s t.0 t.1 (t.2.told w z.0 z.1 a i);
            };
      }
    where
      carried : (k : ℕ) (w : Vote B) → w.slot ≡ slot → (c : CountedPromise B) → Has cs c → Tops c.votes w
          → Carried sent (next_vote b slot (entry_or_noop (best slot (reports cs)))) w
      carried k w s c h t =
          let a = best_is slot (reports cs) t.best (reports_has h t.is) (t.slot ∙ s) in
          let d = has_reports cs a.m a.has in
          record {
            ballot = a.m.ballot;
            above = le_trans t.high a.high;
            under = (kept d.0 d.1).low a.m d.2;
            known =
                subst (λ z. Known sent (Accept z))
                (λ i. record { slot = a.slot_is i; ballot = a.m.ballot; entry = entry_or_noop (sym a.is i) })
                ((kept d.0 d.1).known a.m d.2);
          }

  pub past_free : (slot : ℕ) → low ≤ slot → past_reports low (reports cs) ≤ slot → Free members promised sent b slot
  past_free slot l p =
      record {
        quorum = is_counted cs;
        most = ltb-true _ _ most;
        clear =
            λ k m q.
            let t = told_by k q in
            record {
              reaches = t.2.reaches;
              never = λ w s a i. let z = covers slot w.slot l s t.0 t.1 in never w s t.0 t.1 (t.2.told w z.0 z.1 a i);
            };
      }
    where
      never : (w : Vote B) → w.slot ≡ slot → (c : CountedPromise B) → Has cs c → Tops c.votes w → ⊥
      never w s c h t = let z = past_has low (reports cs) t.best (reports_has h t.is) in later z (t.slot ∙ s)
        where
          later : t.best.slot < past_reports low (reports cs) → t.best.slot ≡ slot → ⊥
          later z e = omega arith

  pub all_called : (n slot : ℕ) → low ≤ slot → AllSafe members promised sent b slot (called_in (reports cs) slot n)
  all_called zero slot l = tt
  all_called (suc n) slot l = (called_safe slot l, all_called n (suc slot) (omega arith))
