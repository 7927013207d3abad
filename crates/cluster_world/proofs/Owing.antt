-- What a node owes, by its standing in its log: an entry more settles what it settles, and no more.
use Rattle.std.proofs.Common.{◌≡◌, ◌⊎◌, inl, inr, ⊎_elim, ℕ, zero, suc, ◌+◌, ◌-◌, ◌<◌, ◌≤◌, Bool, true, false, not, ◌&&◌, eqb, leb, refl, sym, ap, ◌∙◌, subst}
use Rattle.std.proofs.Common.{arith, List, [], ◌∷◌, ◌++◌, length}
use Rattle.std.specs.Prelude.{filter, drop, if◌then◌else◌}
use Rattle.std.proofs.lemmas.List.{length-drop, drop-append-le}
use Rattle.std.proofs.lemmas.Bool.{cond-true, cond-false, cases_lt, and_parts, and_from, eqb-true, eq-eqb, ne_eqb, ltb-true, lt-ltb, le-ltb, le-leb}
use Rattle.std.proofs.lemmas.Bool.{lt-leb}
use Rattle.paxos_packets.specs.declared.entry.Entry.{Entry}
use Rattle.paxos_packets.specs.declared.entry.Entry.TheVariants.{Noop, Boot, Lost, Item}
use Rattle.replica_machine.specs.declared.roll.Standing.{Standing}
use Rattle.replica_machine.specs.declared.roll.Standing.TheVariants.{Unknown, Live, Gone}
use Rattle.replica_machine.specs.Effects.{is_the}
use Rattle.replica_machine.specs.Roll.{is_new_boot, is_live, is_next, gone, standing_after, standing, was_taken, is_wanted_by, live_in, taken_in}
use Rattle.replica_machine.proofs.Places.{standing_last, live_boot_is, items_taken_is}
use Rattle.paxos_planning.specs.Node.{NodeState, Plan}
use Rattle.paxos_node.specs.Applying.{base, standing_of, note, ends, go_down, apply_all}
use Rattle.paxos_node.specs.Snapshots.{boot_in}
use Rattle.cluster_world.specs.Has.{Has, here, there}
use Rattle.cluster_world.specs.Origins.{Act}
use Rattle.cluster_world.specs.Owed.{is_any_lost, items_after, owed}

off : false ≡ true → ⊥
off e = cc

pub filter_swap : {A : Type 0} (p q : A → Bool) (xs : List A) → filter p (filter q xs) ≡ filter q (filter p xs)
filter_swap p q [] = refl
filter_swap p q (x ∷ xs) = go (filter_swap p q xs) (p x) (q x) refl refl
  where
    go : filter p (filter q xs) ≡ filter q (filter p xs) → (a b : Bool) → p x ≡ a → q x ≡ b
        → filter p (if b then x ∷ filter q xs else filter q xs) ≡ filter q (if a then x ∷ filter p xs else filter p xs)
    go h true true a b =
        cond-true (p x) (x ∷ filter p (filter q xs)) (filter p (filter q xs)) a
        ∙ ap (λ l. x ∷ l) h
        ∙ sym (cond-true (q x) (x ∷ filter q (filter p xs)) (filter q (filter p xs)) b)
    go h true false a b = h ∙ sym (cond-false (q x) (x ∷ filter q (filter p xs)) (filter q (filter p xs)) b)
    go h false true a b = cond-false (p x) (x ∷ filter p (filter q xs)) (filter p (filter q xs)) a ∙ h
    go h false false a b = h

zero_plus : (k : ℕ) → 0 + k ≡ k
zero_plus k = omega arith

drop_split : {A : Type 0} (q : ℕ) (xs : List A) → suc q ≤ length xs → (x : A) × (drop q xs ≡ x ∷ drop (suc q) xs)
drop_split q [] l = absurd (omega arith)
drop_split zero (x ∷ xs) l = (x, refl)
drop_split (suc q) (x ∷ xs) l = drop_split q xs (omega arith)

abbrev pub kept : {B : Type 0} → Entry B → Bool
kept e = not (is_any_lost e)

module _ {B : Type 0} (n b : ℕ) where
  -- by the node's standing
  abbrev pub owed_by : Standing → List (Act B) → List (Entry B)
  owed_by s acts =
      if is_live s b then items_after n b (taken_in s) (drop (taken_in s) acts)
      else Boot n b ∷ items_after n b 0 acts

  abbrev pub whole : List (Act B) → List (Entry B)
  whole acts = Boot n b ∷ items_after n b 0 acts

-- the log has no boot of the node, or an earlier one
pub record Early (b : ℕ) (s : Standing) : Type 0 where
  pub fresh : is_new_boot s b ≡ true
  pub untaken : (i : ℕ) → was_taken s b i ≡ false
  pub not_live : is_live s b ≡ false

pub early_unknown : (b : ℕ) → Early b Unknown
early_unknown b = record { fresh = refl; untaken = λ i. refl; not_live = refl }

apart : (b c : ℕ) → c < b → eqb c b ≡ false
apart b c l = ne_eqb c b (λ e. absurd (differ e))
  where
    differ : c ≡ b → ⊥
    differ e = omega arith

pub early_live : (b c q : ℕ) → c < b → Early b (Live c q)
early_live b c q l =
    record { fresh = lt-ltb c b l; untaken = λ i. ap (λ z. z && leb i q) (apart b c l); not_live = apart b c l }

early_gone : (b c : ℕ) → c < b → Early b (Gone c)
early_gone b c l = record { fresh = lt-ltb c b l; untaken = λ i. refl; not_live = refl }

pub gone_early : (b : ℕ) (s : Standing) → Early b s → Early b (gone s)
gone_early b Unknown e = e
gone_early b (Live c q) e = early_gone b c (ltb-true c b e.fresh)
gone_early b (Gone c) e = e

pub next_early : (b c q : ℕ) (s : Standing) → Early b s → is_next s c q ≡ true → Early b (Live c q)
next_early b c q Unknown e h = absurd (off h)
next_early b c q (Live d p) e h =
    early_live b c q (subst (λ k. k < b) (eqb-true d c (and_parts (eqb d c) (eqb q (p + 1)) h).0) (ltb-true d b e.fresh))
next_early b c q (Gone d) e h = absurd (off h)

-- or its boot is live there, and no more than this many acts took effect
abbrev pub MayStand : ℕ → Standing → ℕ → Type 0
MayStand b s taken = Early b s ⊎ ((q : ℕ) × (s ≡ Live b q) × (q ≤ taken))

not_yet : (b q i : ℕ) → q < i → was_taken (Live b q) b i ≡ false
not_yet b q i l = ap (λ z. z && leb i q) (eq-eqb b b refl) ∙ lt-leb i q l

module _ {B : Type 0} (n b : ℕ) where
  pub owed_early : (s : Standing) → Early b s → (acts : List (Act B)) → owed_by n b s acts ≡ whole n b acts
  owed_early s e acts = cond-false (is_live s b) (items_after n b (taken_in s) (drop (taken_in s) acts)) (whole n b acts) e.not_live

  pub owed_live : (q : ℕ) (acts : List (Act B)) → owed_by n b (Live b q) acts ≡ items_after n b q (drop q acts)
  owed_live q acts = cond-true (eqb b b) (items_after n b q (drop q acts)) (whole n b acts) (eq-eqb b b refl)

  -- where the nodes stand so
  module _ (places : ℕ → Standing) where
    abbrev pub Wants : List (Entry B) → List (Entry B)
    Wants es = filter (is_wanted_by places) es

    items_stay : (s : Standing) → places n ≡ s → (j : ℕ) (acts : List (Act B)) → ((i : ℕ) → j < i → was_taken s b i ≡ false)
        → Wants (items_after n b j acts) ≡ items_after n b j acts
    items_stay s is j [] h = refl
    items_stay s is j (a ∷ acts) h =
        cond-true (not (was_taken (places n) b (suc j))) (Item n b (suc j) a.transport a.body ∷ Wants (items_after n b (suc j) acts))
        (Wants (items_after n b (suc j) acts)) (ap (λ z. not (was_taken z b (suc j))) is ∙ ap not (h (suc j) (omega arith)))
        ∙ ap (λ l. Item n b (suc j) a.transport a.body ∷ l) (items_stay s is (suc j) acts (λ i l. h i (omega arith)))

    early_stays : (s : Standing) → places n ≡ s → Early b s → (acts : List (Act B)) → Wants (whole n b acts) ≡ whole n b acts
    early_stays s is e acts =
        cond-true (is_new_boot (places n) b) (Boot n b ∷ Wants (items_after n b 0 acts)) (Wants (items_after n b 0 acts))
        (ap (λ z. is_new_boot z b) is ∙ e.fresh)
        ∙ ap (λ l. Boot n b ∷ l) (items_stay s is 0 acts (λ i l. e.untaken i))

    live_stays : (q : ℕ) → places n ≡ Live b q → (acts : List (Act B))
        → Wants (items_after n b q (drop q acts)) ≡ items_after n b q (drop q acts)
    live_stays q is acts = items_stay (Live b q) is q (drop q acts) (λ i l. not_yet b q i l)

    begins : places n ≡ Live b 0 → (acts : List (Act B)) → Wants (whole n b acts) ≡ items_after n b 0 acts
    begins is acts =
        cond-false (is_new_boot (places n) b) (Boot n b ∷ Wants (items_after n b 0 acts)) (Wants (items_after n b 0 acts))
        (ap (λ z. is_new_boot z b) is ∙ le-ltb b b (omega arith))
        ∙ items_stay (Live b 0) is 0 acts (λ i l. not_yet b 0 i l)

    one_more : (q : ℕ) → places n ≡ Live b (suc q) → (acts : List (Act B)) → suc q ≤ length acts
        → Wants (items_after n b q (drop q acts)) ≡ items_after n b (suc q) (drop (suc q) acts)
    one_more q is acts l =
        let d = drop_split q acts l in
        ap (λ ds. Wants (items_after n b q ds)) d.1
        ∙ (cond-false (not (was_taken (places n) b (suc q)))
        (Item n b (suc q) (d.0).transport (d.0).body ∷ Wants (items_after n b (suc q) (drop (suc q) acts)))
        (Wants (items_after n b (suc q) (drop (suc q) acts)))
        (ap (λ z. not (was_taken z b (suc q))) is
        ∙ ap not (and_from (eqb b b) (leb (suc q) (suc q)) (eq-eqb b b refl) (le-leb (suc q) (suc q) (omega arith))))
        ∙ items_stay (Live b (suc q)) is (suc q) (drop (suc q) acts) (λ i l. not_yet b (suc q) i l))

    -- what is owed goes on with the standing
    abbrev pub Goes : Standing → List (Act B) → Standing → Type 0
    Goes s acts new = MayStand b new (length acts) × (Wants (owed_by n b s acts) ≡ owed_by n b new acts)

    pub stays : (s : Standing) (acts : List (Act B)) → MayStand b s (length acts) → places n ≡ s → Goes s acts s
    stays s acts (inl e) is = (
      inl e,
      ap (λ l. Wants l) (owed_early s e acts) ∙ early_stays s is e acts ∙ sym (owed_early s e acts),
    )
    stays s acts (inr m) is = (
      inr m,
      subst (λ z. places n ≡ z → Wants (owed_by n b z acts) ≡ owed_by n b z acts) (sym m.1)
          (λ is. ap (λ l. Wants l) (owed_live m.0 acts) ∙ live_stays m.0 is acts ∙ sym (owed_live m.0 acts)) is,
    )

    early_on : (s new : Standing) (acts : List (Act B)) → Early b s → Early b new → places n ≡ new → Goes s acts new
    early_on s new acts e f is = (
      inl f,
      ap (λ l. Wants l) (owed_early s e acts) ∙ early_stays new is f acts ∙ sym (owed_early new f acts),
    )

    boot_on : (s : Standing) (acts : List (Act B)) → Early b s → places n ≡ Live b 0 → Goes s acts (Live b 0)
    boot_on s acts e is = (
      inr (0, refl, omega arith),
      ap (λ l. Wants l) (owed_early s e acts) ∙ begins is acts ∙ sym (owed_live 0 acts),
    )

    item_on : (q : ℕ) (acts : List (Act B)) → suc q ≤ length acts → places n ≡ Live b (suc q) → Goes (Live b q) acts (Live b (suc q))
    item_on q acts l is = (
      inr (suc q, refl, l),
      ap (λ l. Wants l) (owed_live q acts) ∙ one_more q is acts l ∙ sym (owed_live (suc q) acts),
    )

    -- an entry more
    step : (s : Standing) (acts : List (Act B)) (e : Entry B) → MayStand b s (length acts) → places n ≡ standing_after n s e
        → ((c : ℕ) → e ≡ Boot n c → c ≤ b) → ((q t : ℕ) (x : B) → e ≡ Item n b q t x → q ≤ length acts)
        → (e ≡ Lost n b → is_live s b ≡ true → ⊥)
        → Goes s acts (standing_after n s e)
    step s acts Noop m is boots items lost = stays s acts m is
    step s acts (Boot k c) m is boots items lost = go (eqb k n && is_new_boot s c) refl is
      where
        live : (q : ℕ) → s ≡ Live b q → c ≤ b → is_new_boot s c ≡ true → ⊥
        live q i le h = let l : b < c = ltb-true b c (ap (λ z. is_new_boot z c) (sym i) ∙ h) in omega arith

        same : c ≤ b → b ≤ c → c ≡ b
        same l g = omega arith

        go : (z : Bool) → (eqb k n && is_new_boot s c) ≡ z → places n ≡ (if z then Live c 0 else s) → Goes s acts (if z then Live c 0 else s)
        go false t is = stays s acts m is
        go true t is =
            let p = and_parts (eqb k n) (is_new_boot s c) t in
            let le = boots c (ap (λ j. Boot j c) (eqb-true k n p.0)) in
            ⊎_elim
            (λ (e : Early b s). ⊎_elim (λ (l : c < b). early_on s (Live c 0) acts e (early_live b c 0 l) is)
            (λ (g : b ≤ c). subst (λ d. places n ≡ Live d 0 → Goes s acts (Live d 0)) (sym (same le g)) (λ is. boot_on s acts e is) is)
            (cases_lt c b))
            (λ (q : (q : ℕ) × (s ≡ Live b q) × (q ≤ length acts)). absurd (live q.0 q.1 le p.1))
            m
    step s acts (Lost k c) m is boots items lost = go (eqb k n && is_live s c) refl is
      where
        go : (z : Bool) → (eqb k n && is_live s c) ≡ z → places n ≡ (if z then gone s else s) → Goes s acts (if z then gone s else s)
        go false t is = stays s acts m is
        go true t is =
            let p = and_parts (eqb k n) (is_live s c) t in
            ⊎_elim
            (λ (e : Early b s). early_on s (gone s) acts e (gone_early b s e) is)
            (λ (q : (q : ℕ) × (s ≡ Live b q) × (q ≤ length acts)).
            let bc = eqb-true b c (ap (λ z. is_live z c) (sym q.1) ∙ p.1) in
            absurd (lost (λ i. Lost (eqb-true k n p.0 i) (sym bc i)) (ap (λ d. is_live s d) bc ∙ p.1)))
            m
    step s acts (Item k c q t x) m is boots items lost = go (eqb k n && is_next s c q) refl is
      where
        go : (z : Bool) → (eqb k n && is_next s c q) ≡ z → places n ≡ (if z then Live c q else s) → Goes s acts (if z then Live c q else s)
        go false t is = stays s acts m is
        go true y is =
            let p = and_parts (eqb k n) (is_next s c q) y in
            ⊎_elim
            (λ (e : Early b s). early_on s (Live c q) acts e (next_early b c q s e p.1) is)
            (λ (r : (r : ℕ) × (s ≡ Live b r) × (r ≤ length acts)).
            let h = and_parts (eqb b c) (eqb q (r.0 + 1)) (ap (λ z. is_next z c q) (sym r.1) ∙ p.1) in
            let bc = eqb-true b c h.0 in
            let next = eqb-true q (r.0 + 1) h.1 ∙ plus_one r.0 in
            let le = items q t x (λ i. Item (eqb-true k n p.0 i) (sym bc i) q t x) in
            subst (λ (z : Standing × ℕ × ℕ). places n ≡ Live z.1 z.2 → Goes z.0 acts (Live z.1 z.2)) (λ i. (sym r.1 i, bc i, sym next i))
            (λ is. item_on r.0 acts (subst (λ k. k ≤ length acts) next le) is) is)
            m
          where
            plus_one : (k : ℕ) → k + 1 ≡ suc k
            plus_one k = omega arith

-- what is pending is what is owed
pub record Owes {B : Type 0} (n : ℕ) (acts : List (Act B)) (x : NodeState B) : Type 0 where
  pub may : MayStand x.rows.boot (standing_of x n) (length acts)
  pub is : filter kept x.pending ≡ owed_by n x.rows.boot (standing_of x n) acts

module _ {B : Type 0} (n : ℕ) (acts : List (Act B)) where
  -- of the entries that a node applies, each Boot of it is of its boot or an earlier one, and each Item of its boot is an act
  pub record Known (b : ℕ) (es : List (Entry B)) : Type 0 where
    pub boots : (c : ℕ) → Has es (Boot n c) → c ≤ b
    pub items : (q t : ℕ) (x : B) → Has es (Item n b q t x) → q ≤ length acts

  noted : (e : Entry B) (o : Plan B) → Owes n acts o.node → ends n o.node e ≡ false → ((c : ℕ) → e ≡ Boot n c → c ≤ o.node.rows.boot)
      → ((q t : ℕ) (x : B) → e ≡ Item n o.node.rows.boot q t x → q ≤ length acts) → Owes n acts (note e o).node
  noted e o ok stays_up boots items =
      record {
        may = subst (λ s. MayStand o.node.rows.boot s (length acts)) (sym last) goes.0;
        is = filter_swap kept (is_wanted_by after) o.node.pending
            ∙ ap (λ l. filter (is_wanted_by after) l) ok.is
            ∙ goes.1
            ∙ ap (λ s. owed_by n o.node.rows.boot s acts) (sym last);
      }
    where
      after : ℕ → Standing
      after = standing_of (note e o).node

      last : after n ≡ standing_after n (standing_of o.node n) e
      last = standing_last n (base o.node.rows n) o.node.applied e

      lost : e ≡ Lost n o.node.rows.boot → is_live (standing_of o.node n) o.node.rows.boot ≡ true → ⊥
      lost i l =
          off
          (sym stays_up
          ∙ ap (λ f. ends n o.node f) i
          ∙ and_from (eqb n n && eqb o.node.rows.boot o.node.rows.boot) (is_live (standing_of o.node n) o.node.rows.boot)
          (and_from (eqb n n) (eqb o.node.rows.boot o.node.rows.boot) (eq-eqb n n refl) (eq-eqb o.node.rows.boot o.node.rows.boot refl)) l)

      goes : Goes n o.node.rows.boot after (standing_of o.node n) acts
          (standing_after n (standing_of o.node n) e)
      goes = step n o.node.rows.boot after (standing_of o.node n) acts e ok.may last boots items lost

  first_is : {x y : Entry B} (es : List (Entry B)) → y ≡ x → Has (y ∷ es) x
  first_is {x} {y} es e = subst (λ z. Has (y ∷ es) z) e here

  pub applies_owed : (es : List (Entry B)) (o : Plan B) → Owes n acts o.node → Known o.node.rows.boot es
      → (apply_all n es o).node.up ≡ true → Owes n acts (apply_all n es o).node
  applies_owed [] o ok k u = ok
  applies_owed (e ∷ es) o ok k u = go (ends n o.node e) refl (applies_owed es (note e o)) u
    where
      go : (z : Bool) → ends n o.node e ≡ z
          → (Owes n acts (note e o).node → Known o.node.rows.boot es → (apply_all n es (note e o)).node.up ≡ true
          → Owes n acts (apply_all n es (note e o)).node)
          → (if z then go_down (note e o) else apply_all n es (note e o)).node.up ≡ true
          → Owes n acts (if z then go_down (note e o) else apply_all n es (note e o)).node
      go true t more u = absurd (off u)
      go false t more u =
          more
          (noted e o ok t (λ c i. k.boots c (first_is es i)) (λ q t x i. k.items q t x (first_is es i)))
          (record { boots = λ c h. k.boots c (there h); items = λ q t x h. k.items q t x (there h) })
          u

  -- an act more
  items_push : (b j : ℕ) (more : List (Act B)) (a : Act B)
      → items_after n b j (more ++ a ∷ []) ≡ items_after n b j more ++ Item n b (suc (j + length more)) a.transport a.body ∷ []
  items_push b j [] a = ap (λ k. Item n b (suc k) a.transport a.body ∷ []) (plus_zero j)
    where
      plus_zero : (k : ℕ) → k ≡ k + 0
      plus_zero k = omega arith
  items_push b j (c ∷ more) a =
      ap (λ l. Item n b (suc j) c.transport c.body ∷ l)
      (items_push b (suc j) more a ∙ ap (λ k. items_after n b (suc j) more ++ Item n b (suc k) a.transport a.body ∷ []) (plus_suc j (length more)))
    where
      plus_suc : (k l : ℕ) → suc k + l ≡ k + suc l
      plus_suc k l = omega arith

  pub owed_push : (b : ℕ) (s : Standing) (a : Act B) → MayStand b s (length acts)
      → owed_by n b s (acts ++ a ∷ []) ≡ owed_by n b s acts ++ Item n b (suc (length acts)) a.transport a.body ∷ []
  owed_push b s a (inl e) =
      owed_early n b s e (acts ++ a ∷ [])
      ∙ ap (λ l. Boot n b ∷ l) (items_push b 0 acts a)
      ∙ ap (λ k. Boot n b ∷ (items_after n b 0 acts ++ Item n b (suc k) a.transport a.body ∷ [])) (zero_plus (length acts))
      ∙ ap (λ l. l ++ Item n b (suc (length acts)) a.transport a.body ∷ []) (sym (owed_early n b s e acts))
  owed_push b s a (inr m) =
      subst (λ z. owed_by n b z (acts ++ a ∷ []) ≡ owed_by n b z acts ++ Item n b (suc (length acts)) a.transport a.body ∷ []) (sym m.1)
      (owed_live n b m.0 (acts ++ a ∷ [])
      ∙ ap (λ l. items_after n b m.0 l) (drop-append-le m.0 acts (a ∷ []) m.2)
      ∙ items_push b m.0 (drop m.0 acts) a
      ∙ ap (λ k. items_after n b m.0 (drop m.0 acts) ++ Item n b (suc k) a.transport a.body ∷ [])
      (ap (λ k. m.0 + k) (length-drop m.0 acts) ∙ back m.0 (length acts) m.2)
      ∙ ap (λ l. l ++ Item n b (suc (length acts)) a.transport a.body ∷ []) (sym (owed_live n b m.0 acts)))
    where
      back : (k l : ℕ) → k ≤ l → k + (l - k) ≡ l
      back k l h = omega arith

-- a node that rests on another's snapshot: its boot is live neither there nor where it stood
pub rested_owed : {B : Type 0} (n b : ℕ) (places : ℕ → Standing) (s : Standing) (acts : List (Act B)) → Early b s → Early b (places n)
    → filter (is_wanted_by places) (owed_by n b s acts) ≡ owed_by n b (places n) acts
rested_owed n b places s acts e f = (early_on n b places s (places n) acts e f refl).1

-- its boot is not live with a greater one
pub boot_early : (b : ℕ) (s : Standing) → boot_in s < b → Early b s
boot_early b Unknown l = early_unknown b
boot_early b (Live c q) l = early_live b c q l
boot_early b (Gone c) l = early_gone b c l

-- by places in the log
pub owed_is : {B : Type 0} (n : ℕ) (log : List (Entry B)) (boot : ℕ) (acts : List (Act B))
    → owed_by n boot (standing n log) acts ≡ owed n log boot acts
owed_is n log boot acts i =
    if (the_live (standing n log) boot ∙ ap (λ o. is_the o boot) (sym (live_boot_is n log))) i
    then items_after n boot (sym (items_taken_is n log) i) (drop (sym (items_taken_is n log) i) acts)
    else Boot n boot ∷ items_after n boot 0 acts
  where
    the_live : (s : Standing) (b : ℕ) → is_live s b ≡ is_the (live_in s) b
    the_live Unknown b = refl
    the_live (Live c taken) b = refl
    the_live (Gone c) b = refl
