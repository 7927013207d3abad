-- How a node's standing goes on along entries: what is over stays over, and what took effect in a boot that goes on stays so.
use Rattle.std.proofs.Common.{◌≡◌, ◌⊎◌, inl, inr, ⊎_elim, ℕ, suc, ◌+◌, ◌<◌, ◌≤◌, true, false, ◌&&◌, eqb, refl, sym, ap, ◌∙◌, subst, arith}
use Rattle.std.proofs.Common.{List, [], ◌∷◌}
use Rattle.std.specs.Prelude.{nat_lt, nat_le}
use Rattle.std.proofs.lemmas.Bool.{cond_both, cond-true, and_parts, and_from, and_right, or_from, or_parts, eqb-true, eq-eqb, ltb-true}
use Rattle.std.proofs.lemmas.Bool.{le-ltb, le-leb, leb-true, cases_Bool}
use Rattle.cluster_world.proofs.Fading.{old_boots, Past, past_step, past_on}
use Rattle.cluster_world.proofs.Lists.{has_nil, has_cons}
use Rattle.cluster_world.proofs.Owing.{Early, early_live, gone_early, next_early}
use Rattle.cluster_world.specs.Has.{Has, here, there}
use Rattle.paxos_packets.specs.declared.entry.Entry.{Entry}
use Rattle.paxos_packets.specs.declared.entry.Entry.TheVariants.{Noop, Boot, Lost, Item}
use Rattle.paxos_node.specs.Applying.{is_own_lost, ends_boot, has_end}
use Rattle.replica_machine.specs.declared.roll.Standing.{Standing}
use Rattle.replica_machine.specs.declared.roll.Standing.TheVariants.{Unknown, Live, Gone}
use Rattle.replica_machine.specs.Roll.{is_new_boot, is_live, is_next, gone, standing_after, standing_from, was_taken}

off : false ≡ true → ⊥
off e = cc

-- a boot that is live, or past
abbrev pub LiveOrPast : ℕ → Standing → Type 0
LiveOrPast c s = (is_live s c ≡ true) ⊎ Past c s

live_from : {B : Type 0} (k c d q : ℕ) (e : Entry B) → d ≡ c → LiveOrPast c (standing_after k (Live d q) e)
live_from k c d q Noop i = inl (eq-eqb d c i)
live_from k c d q (Boot j f) i =
    cond_both (eqb j k && nat_lt d f) (Live f 0) (Live d q) (λ z. LiveOrPast c z)
    (λ t. inr (subst (λ a. a < f) i (ltb-true d f (and_parts (eqb j k) (nat_lt d f) t).1))) (λ t. inl (eq-eqb d c i))
live_from k c d q (Lost j f) i =
    cond_both (eqb j k && eqb d f) (Gone d) (Live d q) (λ z. LiveOrPast c z) (λ t. inr (low i)) (λ t. inl (eq-eqb d c i))
  where
    low : d ≡ c → c ≤ d
    low e = omega arith
live_from k c d q (Item j f p t x) i =
    cond_both (eqb j k && (eqb d f && eqb p (q + 1))) (Live f p) (Live d q) (λ z. LiveOrPast c z)
    (λ u. inl (eq-eqb f c (sym (eqb-true d f (and_parts (eqb d f) (eqb p (q + 1)) (and_parts (eqb j k) (eqb d f && eqb p (q + 1)) u).1).0)
    ∙ i)))
    (λ u. inl (eq-eqb d c i))

live_step : {B : Type 0} (k c : ℕ) (s : Standing) (e : Entry B) → LiveOrPast c s → LiveOrPast c (standing_after k s e)
live_step k c s e h = ⊎_elim (λ l. go s l) (λ p. inr (past_step k c s e p)) h
  where
    go : (z : Standing) → is_live z c ≡ true → LiveOrPast c (standing_after k z e)
    go Unknown l = absurd (off l)
    go (Live d q) l = live_from k c d q e (eqb-true d c l)
    go (Gone d) l = absurd (off l)

-- its Lost ends it
lost_ends : (B : Type 0) (k c : ℕ) (s : Standing) → LiveOrPast c s → Past c (standing_after {B = B} k s (Lost k c))
lost_ends B k c s h = ⊎_elim (λ l. go s l) (λ p. past_step {B = B} k c s (Lost k c) p) h
  where
    go : (z : Standing) → is_live z c ≡ true → Past c (standing_after {B = B} k z (Lost k c))
    go Unknown l = absurd (off l)
    go (Live d q) l =
        subst (λ z. Past c z) (sym (cond-true (eqb k k && eqb d c) (Gone d) (Live d q) (and_from (eqb k k) (eqb d c) (eq-eqb k k refl) l)))
        (low (eqb-true d c l))
      where
        low : d ≡ c → c ≤ d
        low e = omega arith
    go (Gone d) l = absurd (off l)

pub lost_past : {B : Type 0} (k c : ℕ) (es : List (Entry B)) (s : Standing) → LiveOrPast c s → Has es (Lost k c) → Past c
    (standing_from k s es)
lost_past k c [] s h i = absurd (has_nil i)
lost_past {B} k c (e ∷ es) s h i =
    ⊎_elim (λ j. past_on k c es (standing_after k s e) (subst (λ z. Past c (standing_after k s z)) (sym j) (lost_ends B k c s h)))
    (λ j. lost_past k c es (standing_after k s e) (live_step k c s e h) j) (has_cons i)

-- a boot that was live is past once it is not live
pub live_on : {B : Type 0} (k c : ℕ) (es : List (Entry B)) (s : Standing) → LiveOrPast c s → LiveOrPast c (standing_from k s es)
live_on k c [] s h = h
live_on k c (e ∷ es) s h = live_on k c es (standing_after k s e) (live_step k c s e h)

-- a Boot in the list is not new after it
boot_ends : (B : Type 0) (k c : ℕ) (s : Standing) → is_new_boot (standing_after {B = B} k s (Boot k c)) c ≡ false
boot_ends B k c s =
    cond_both (eqb k k && is_new_boot s c) (Live c 0) s (λ z. is_new_boot z c ≡ false) (λ t. le-ltb c c (omega arith))
    (λ t. ap (λ a. a && is_new_boot s c) (sym (eq-eqb k k refl)) ∙ t)

pub boot_old : {B : Type 0} (k c : ℕ) (es : List (Entry B)) (s : Standing) → Has es (Boot k c) → is_new_boot (standing_from k s es) c
    ≡ false
boot_old k c [] s i = absurd (has_nil i)
boot_old {B} k c (e ∷ es) s i =
    ⊎_elim
    (λ j. old_boots k c es (standing_after k s e) (subst (λ z. is_new_boot (standing_after k s z) c ≡ false) (sym j) (boot_ends B k c s)))
    (λ j. boot_old k c es (standing_after k s e) j) (has_cons i)

-- while a boot goes on

abbrev pub BootsUpTo : {B : Type 0} → ℕ → ℕ → List (Entry B) → Type 0
BootsUpTo {B} n b es = (c : ℕ) → Has es (Boot n c) → c ≤ b

-- an entry of its node that does not end it: it stands as it was, or one act further on
go_on : {B : Type 0} (n b q : ℕ) (e : Entry B) → ends_boot n b (Live b q) e ≡ false → ((c : ℕ) → e ≡ Boot n c → c ≤ b)
    → (standing_after n (Live b q) e ≡ Live b q) ⊎ (standing_after n (Live b q) e ≡ Live b (suc q))
go_on n b q Noop f h = inl refl
go_on n b q (Boot k c) f h =
    cond_both (eqb k n && nat_lt b c) (Live c 0) (Live b q) (λ z. (z ≡ Live b q) ⊎ (z ≡ Live b (suc q)))
    (λ t. let p = and_parts (eqb k n) (nat_lt b c) t in absurd (high (ltb-true b c p.1) (h c (ap (λ j. Boot j c) (eqb-true k n p.0)))))
    (λ t. inl refl)
  where
    high : b < c → c ≤ b → ⊥
    high l g = omega arith
go_on n b q (Lost k c) f h =
    cond_both (eqb k n && eqb b c) (Gone b) (Live b q) (λ z. (z ≡ Live b q) ⊎ (z ≡ Live b (suc q)))
    (λ t. let p = and_parts (eqb k n) (eqb b c) t in
    absurd (off (sym f ∙ and_from (eqb k n && eqb c b) (eqb b b) (and_from (eqb k n) (eqb c b) p.0 (eq-eqb c b (sym (eqb-true b c p.1))))
    (eq-eqb b b refl))))
    (λ t. inl refl)
go_on n b q (Item k c p t x) f h =
    cond_both (eqb k n && (eqb b c && eqb p (q + 1))) (Live c p) (Live b q) (λ z. (z ≡ Live b q) ⊎ (z ≡ Live b (suc q)))
    (λ u. let r = and_parts (eqb b c) (eqb p (q + 1)) (and_parts (eqb k n) (eqb b c && eqb p (q + 1)) u).1 in
    inr (λ i. Live (sym (eqb-true b c r.0) i) ((eqb-true p (q + 1) r.1 ∙ plus_one q) i)))
    (λ u. inl refl)
  where
    plus_one : (k : ℕ) → k + 1 ≡ suc k
    plus_one k = omega arith

-- an act that took effect in it
taken_step : {B : Type 0} (n b q : ℕ) (s : Standing) (e : Entry B) → was_taken s b q ≡ true → ends_boot n b s e ≡ false
    → ((c : ℕ) → e ≡ Boot n c → c ≤ b) → was_taken (standing_after n s e) b q ≡ true
taken_step n b q Unknown e w f h = absurd (off w)
taken_step n b q (Gone d) e w f h = absurd (off w)
taken_step {B} n b q (Live d p) e w f h =
    let r = and_parts (eqb d b) (nat_le q p) w in
    at (eqb-true d b r.0) (leb-true q p r.1)
  where
    more : q ≤ p → q ≤ suc p
    more l = omega arith

    taken : (m : ℕ) → q ≤ m → was_taken (Live b m) b q ≡ true
    taken m l = and_from (eqb b b) (nat_le q m) (eq-eqb b b refl) (le-leb q m l)

    at : d ≡ b → q ≤ p → was_taken (standing_after n (Live d p) e) b q ≡ true
    at i l =
        subst (λ z. was_taken (standing_after n (Live z p) e) b q ≡ true) (sym i)
        (⊎_elim (λ j. subst (λ z. was_taken z b q ≡ true) (sym j) (taken p l))
        (λ j. subst (λ z. was_taken z b q ≡ true) (sym j) (taken (suc p) (more l)))
        (go_on n b p e (subst (λ z. ends_boot n b (Live z p) e ≡ false) i f) h))

pub taken_on : {B : Type 0} (n b q : ℕ) (es : List (Entry B)) (s : Standing) → was_taken s b q ≡ true → has_end n b s es ≡ false
    → BootsUpTo n b es → was_taken (standing_from n s es) b q ≡ true
taken_on n b q [] s w f h = w
taken_on {B} n b q (e ∷ es) s w f h =
    let r = or_parts (ends_boot n b s e) (has_end n b (standing_after n s e) es) f in
    taken_on n b q es (standing_after n s e) (taken_step n b q s e w r.0 (λ c i. h c (subst (λ z. Has (e ∷ es) z) i here))) r.1
    (λ c i. h c (there i))

-- the next one takes effect
pub next_taken : {B : Type 0} (n b q t : ℕ) (x : B) (es : List (Entry B)) (s : Standing) → s ≡ Live b q → has_end n b s es ≡ false
    → BootsUpTo n b es → Has es (Item n b (suc q) t x) → was_taken (standing_from n s es) b (suc q) ≡ true
next_taken n b q t x [] s is f h i = absurd (has_nil i)
next_taken {B} n b q t x (e ∷ es) s is f h i =
    ⊎_elim
    (λ j. later (subst (λ z. standing_after n s z ≡ Live b (suc q)) (sym j)
    (ap (λ z. standing_after n z (Item n b (suc q) t x)) is ∙ taken)))
    (λ j. ⊎_elim (λ g. next_taken n b q t x es (standing_after n s e) g r.1 (λ c k. h c (there k)) j) later on)
    (has_cons i)
  where
    r : (ends_boot n b s e ≡ false) × (has_end n b (standing_after n s e) es ≡ false)
    r = or_parts (ends_boot n b s e) (has_end n b (standing_after n s e) es) f

    plus_one : (k : ℕ) → suc k ≡ k + 1
    plus_one k = omega arith

    taken : standing_after n (Live b q) (Item n b (suc q) t x) ≡ Live b (suc q)
    taken =
        cond-true (eqb n n && (eqb b b && eqb (suc q) (q + 1))) (Live b (suc q)) (Live b q)
        (and_from (eqb n n) (eqb b b && eqb (suc q) (q + 1)) (eq-eqb n n refl)
        (and_from (eqb b b) (eqb (suc q) (q + 1)) (eq-eqb b b refl) (eq-eqb (suc q) (q + 1) (plus_one q))))

    on : (standing_after n s e ≡ Live b q) ⊎ (standing_after n s e ≡ Live b (suc q))
    on =
        subst (λ z. (standing_after n z e ≡ Live b q) ⊎ (standing_after n z e ≡ Live b (suc q))) (sym is)
        (go_on n b q e (subst (λ z. ends_boot n b z e ≡ false) is r.0) (λ c k. h c (subst (λ z. Has (e ∷ es) z) k here)))

    later : standing_after n s e ≡ Live b (suc q) → was_taken (standing_from n s (e ∷ es)) b (suc q) ≡ true
    later g =
        taken_on n b (suc q) es (standing_after n s e)
        (subst (λ z. was_taken z b (suc q) ≡ true) (sym g)
        (and_from (eqb b b) (nat_le (suc q) (suc q)) (eq-eqb b b refl) (le-leb (suc q) (suc q) (omega arith))))
        r.1 (λ c k. h c (there k))

-- before a boot begins

early_step : {B : Type 0} (n b : ℕ) (s : Standing) (e : Entry B) → Early b s → ((c : ℕ) → e ≡ Boot n c → c < b) → Early b
    (standing_after n s e)
early_step n b s Noop h g = h
early_step n b s (Boot k c) h g =
    cond_both (eqb k n && is_new_boot s c) (Live c 0) s (λ z. Early b z)
    (λ t. early_live b c 0 (g c (ap (λ j. Boot j c) (eqb-true k n (and_parts (eqb k n) (is_new_boot s c) t).0)))) (λ t. h)
early_step n b s (Lost k c) h g = cond_both (eqb k n && is_live s c) (gone s) s (λ z. Early b z) (λ t. gone_early b s h) (λ t. h)
early_step n b s (Item k c q t x) h g =
    cond_both (eqb k n && is_next s c q) (Live c q) s (λ z. Early b z)
    (λ u. next_early b c q s h (and_parts (eqb k n) (is_next s c q) u).1) (λ u. h)

abbrev pub BootsBelow : {B : Type 0} → ℕ → ℕ → List (Entry B) → Type 0
BootsBelow {B} n b es = (c : ℕ) → Has es (Boot n c) → c < b

pub early_on : {B : Type 0} (n b : ℕ) (es : List (Entry B)) (s : Standing) → Early b s → BootsBelow n b es
    → Early b (standing_from n s es) × (has_end n b s es ≡ false)
early_on n b [] s h g = (h, refl)
early_on {B} n b (e ∷ es) s h g =
    let r = early_on n b es (standing_after n s e) (early_step n b s e h (λ c i. g c (subst (λ z. Has (e ∷ es) z) i here)))
    (λ c i. g c (there i)) in (
      r.0,
      or_from (ends_boot n b s e) (has_end n b (standing_after n s e) es) (and_right (is_own_lost n b e) (is_live s b) h.not_live) r.1,
    )

-- a list without its Lost does not end it
pub no_end : {B : Type 0} (n b : ℕ) (es : List (Entry B)) (s : Standing) → (Has es (Lost n b) → ⊥) → has_end n b s es ≡ false
no_end n b [] s h = refl
no_end {B} n b (e ∷ es) s h =
    or_from (ends_boot n b s e) (has_end n b (standing_after n s e) es) (one e (λ i. h (subst (λ z. Has (e ∷ es) z) i here)))
    (no_end n b es (standing_after n s e) (λ i. h (there i)))
  where
    one : (e : Entry B) → (e ≡ Lost n b → ⊥) → ends_boot n b s e ≡ false
    one Noop g = refl
    one (Boot k c) g = refl
    one (Item k c q t x) g = refl
    one (Lost k c) g = ⊎_elim (λ t. absurd (named t)) (λ t. t) (cases_Bool ((eqb k n && eqb c b) && is_live s b))
      where
        named : ((eqb k n && eqb c b) && is_live s b) ≡ true → ⊥
        named t =
            let p = and_parts (eqb k n) (eqb c b) (and_parts (eqb k n && eqb c b) (is_live s b) t).0 in
            g (λ i. Lost (eqb-true k n p.0 i) (eqb-true c b p.1 i))
