-- The places of a log, and each node's standing after it, say the same.
use Rattle.std.proofs.Common.{◌≡◌, ⊎_elim, ℕ, ◌+◌, Bool, true, false, ◌&&◌, ◌||◌, cond, eqb, ltb, refl, sym, ap, ◌∙◌, subst, arith, List}
use Rattle.std.proofs.Common.{[], ◌∷◌, ◌++◌, Option, Some, None}
use Rattle.std.specs.Prelude.{count_by, option_and_then, if◌then◌else◌}
use Rattle.std.specs.Option.{option_map_or}
use Rattle.std.specs.List.{list_any, list_all, cons_option}
use Rattle.std.proofs.lemmas.Bool.{eqb-false, and_left, or_right, false≢true, or_parts, and_right, false_from_ne_true, cases_Bool}
use Rattle.std.proofs.lemmas.Bool.{cond_both, cond-true, cond-false, ltb-true, ltb-false, eqb-true, eq-eqb, ne_eqb, and_parts, and_from}
use Rattle.std.proofs.lemmas.List.{append-nil, append_assoc}
use Rattle.std.proofs.Math.Nat.{max-eq_left, max-eq_right}
use Rattle.paxos_packets.specs.declared.entry.Entry.{Entry}
use Rattle.paxos_packets.specs.declared.entry.Entry.TheVariants.{Noop, Boot, Lost, Item}
use Rattle.replica_machine.specs.declared.roll.Standing.{Standing}
use Rattle.replica_machine.specs.declared.roll.Standing.TheVariants.{Unknown, Live, Gone}
use Rattle.replica_machine.specs.Effects.{is_boot, is_lost, is_item, boot_begun, boots_of, greatest, lost_since, live_boot, is_the}
use Rattle.replica_machine.specs.Effects.{has_effect, effective_from, effective, is_effective, items_taken}
use Rattle.replica_machine.specs.Roll.{is_new_boot, is_live, is_next, gone, standing_after, standing_from, standing, takes_effect, live_in}
use Rattle.replica_machine.specs.Roll.{taken_in, effective_behind}
use Rattle.replica_machine.proofs.Lists.{by_last, filter_map_last, count_by_last, list_any_last, any_after_last, any_after_none, top}
use Rattle.replica_machine.proofs.Lists.{greatest_last, all_below, all_below_greatest, has_greatest, none_above}

the_live : (s : Standing) (b : ℕ) → is_the (live_in s) b ≡ is_live s b
the_live Unknown b = refl
the_live (Live c taken) b = refl
the_live (Gone c) b = refl

module _ {B : Type 0} where
  -- the entries that took effect, with one more if that did
  abbrev pub joined : Bool → List (Entry B) → Entry B → List (Entry B)
  joined took so_far e = if took then so_far ++ e ∷ [] else so_far

  from_last : (before so_far es : List (Entry B)) (e : Entry B)
      → effective_from before so_far (es ++ e ∷ [])
      ≡ joined (has_effect (before ++ es) (effective_from before so_far es) e) (effective_from before so_far es) e
  from_last before so_far [] e = ap (λ l. joined (has_effect l so_far e) so_far e) (sym (append-nil before))
  from_last before so_far (x ∷ es) e =
      from_last (before ++ x ∷ []) (joined (has_effect before so_far x) so_far x) es e
      ∙ ap
      (λ l. let f = effective_from (before ++ x ∷ []) (joined (has_effect before so_far x) so_far x) es in joined (has_effect l f e) f
      e)
      (append_assoc before (x ∷ []) es)

  pub effective_last : (log : List (Entry B)) (e : Entry B) → effective (log ++ e ∷ []) ≡ joined (is_effective log e) (effective log) e
  effective_last log e = from_last [] [] log e

  pub standing_last : (n : ℕ) (s : Standing) (log : List (Entry B)) (e : Entry B)
      → standing_from n s (log ++ e ∷ []) ≡ standing_after n (standing_from n s log) e
  standing_last n s [] e = refl
  standing_last n s (x ∷ log) e = standing_last n (standing_after n s x) log e

  -- how many Items of (n, b) took effect
  abbrev pub items : ℕ → ℕ → List (Entry B) → ℕ
  items n b log = count_by (is_item n b) (effective log)

  pub items_last : (n b : ℕ) (log : List (Entry B)) (e : Entry B)
      → items n b (log ++ e ∷ []) ≡ items n b log + cond (is_effective log e && is_item n b e) 1 0
  items_last n b log e = ap (λ l. count_by (is_item n b) l) (effective_last log e) ∙ go (is_effective log e)
    where
      go : (t : Bool) → count_by (is_item n b) (joined t (effective log) e) ≡ items n b log + cond (t && is_item n b e) 1 0
      go true = count_by_last (is_item n b) (effective log) e
      go false = omega arith

  pub lost_last : (n b : ℕ) (log : List (Entry B)) (e : Entry B)
      → lost_since n b (log ++ e ∷ []) ≡ (lost_since n b log || (list_any (is_boot n b) log && is_lost n b e))
  lost_last n b log e = any_after_last (is_boot n b) (is_lost n b) log e

  pub boots_last : (n : ℕ) (log : List (Entry B)) (e : Entry B)
      → boots_of n (log ++ e ∷ []) ≡ boots_of n log ++ cons_option (boot_begun n e) []
  boots_last n log e = filter_map_last (boot_begun n) log e

  -- the Boot (n, b) is in the log exactly if b is among n's boots
  pub has_boot : (n b : ℕ) (log : List (Entry B)) → list_any (is_boot n b) log ≡ list_any (λ c. eqb c b) (boots_of n log)
  has_boot n b [] = refl
  has_boot n b (Noop ∷ log) = has_boot n b log
  has_boot n b (Lost k c ∷ log) = has_boot n b log
  has_boot n b (Item k c q t x ∷ log) = has_boot n b log
  has_boot n b (Boot k c ∷ log) = go (eqb k n) (has_boot n b log)
    where
      go : (t : Bool) → list_any (is_boot n b) log ≡ list_any (λ c. eqb c b) (boots_of n log)
          → ((t && eqb c b) || list_any (is_boot n b) log) ≡ list_any (λ c. eqb c b) (cons_option (cond t (Some c) None) (boots_of n log))
      go true ih = ap (λ u. eqb c b || u) ih
      go false ih = ih

  -- what the places say of n with this standing
  abbrev pub Stands : ℕ → List (Entry B) → Standing → Type 0
  Stands n log Unknown = greatest (boots_of n log) ≡ None
  Stands n log (Live b taken) = (greatest (boots_of n log) ≡ Some b) × (lost_since n b log ≡ false) × (items n b log ≡ taken)
  Stands n log (Gone b) = (greatest (boots_of n log) ≡ Some b) × (lost_since n b log ≡ true)

  -- what a node's standing says of an entry is what the places say

  pub new_boot : (n b : ℕ) (log : List (Entry B)) (s : Standing) → Stands n log s
      → list_all (λ c. ltb c b) (boots_of n log) ≡ is_new_boot s b
  new_boot n b log Unknown st = all_below_greatest (boots_of n log) b ∙ ap (λ o. all_below o b) st
  new_boot n b log (Live c taken) st = all_below_greatest (boots_of n log) b ∙ ap (λ o. all_below o b) st.0
  new_boot n b log (Gone c) st = all_below_greatest (boots_of n log) b ∙ ap (λ o. all_below o b) st.0

  pub live_is : (n : ℕ) (log : List (Entry B)) (s : Standing) → Stands n log s → live_boot n log ≡ live_in s
  live_is n log Unknown st = ap (λ o. option_and_then (λ b. if lost_since n b log then None else Some b) o) st
  live_is n log (Live c taken) st =
      ap (λ o. option_and_then (λ b. if lost_since n b log then None else Some b) o) st.0
      ∙ cond-false (lost_since n c log) None (Some c) st.1
  live_is n log (Gone c) st =
      ap (λ o. option_and_then (λ b. if lost_since n b log then None else Some b) o) st.0
      ∙ cond-true (lost_since n c log) None (Some c) st.1

  pub next_is : (n b q : ℕ) (log : List (Entry B)) (s : Standing) → Stands n log s
      → (is_the (live_boot n log) b && eqb q (items n b log + 1)) ≡ is_next s b q
  next_is n b q log s st = ap (λ o. is_the o b && eqb q (items n b log + 1)) (live_is n log s st) ∙ go s st
    where
      go : (s : Standing) → Stands n log s → (is_the (live_in s) b && eqb q (items n b log + 1)) ≡ is_next s b q
      go Unknown st = refl
      go (Gone c) st = refl
      go (Live c taken) st = ⊎_elim
          (λ (e : eqb c b ≡ true). ap (λ i. eqb c b && eqb q (i + 1)) (ap (λ j. items n j log) (sym (eqb-true c b e)) ∙ st.2))
          (λ (e : eqb c b ≡ false). ap (λ t. t && eqb q (items n b log + 1)) e ∙ sym (ap (λ t. t && eqb q (taken + 1)) e))
          (cases_Bool (eqb c b))

  -- each node has this standing
  abbrev AllStand : List (Entry B) → Type 0
  AllStand log = (n : ℕ) → Stands n log (standing n log)

  effect_is : (log : List (Entry B)) → AllStand log → (e : Entry B) → is_effective log e ≡ takes_effect log e
  effect_is log st Noop = refl
  effect_is log st (Boot n b) = new_boot n b log (standing n log) (st n)
  effect_is log st (Lost n b) = ap (λ o. is_the o b) (live_is n log (standing n log) (st n)) ∙ the_live (standing n log) b
  effect_is log st (Item n b q t x) = next_is n b q log (standing n log) (st n)

  -- a live boot has begun
  live_began : (n b : ℕ) (log : List (Entry B)) → is_the (live_boot n log) b ≡ true → list_any (is_boot n b) log ≡ true
  live_began n b log h = has_boot n b log ∙ has_greatest (boots_of n log) b (go (greatest (boots_of n log)) refl h)
    where
      at : (g : ℕ) → (t : Bool) → is_the (cond t None (Some g)) b ≡ true → g ≡ b
      at g true h = absurd (false≢true h)
      at g false h = eqb-true g b h

      go : (o : Option ℕ) → greatest (boots_of n log) ≡ o
          → is_the (option_and_then (λ c. if lost_since n c log then None else Some c) o) b ≡ true → greatest (boots_of n log) ≡ Some b
      go None e h = absurd (false≢true h)
      go (Some g) e h = e ∙ ap (λ c. Some c) (at g (lost_since n g log) h)

  -- no Item of a boot takes effect before it begins
  abbrev pub Unbegun : List (Entry B) → Type 0
  Unbegun log = (n b : ℕ) → list_any (is_boot n b) log ≡ false → items n b log ≡ 0

  unbegun_more : (log : List (Entry B)) (e : Entry B) → Unbegun log → Unbegun (log ++ e ∷ [])
  unbegun_more log e un n b h =
      items_last n b log e ∙ ap (λ i. i + cond (is_effective log e && is_item n b e) 1 0) (un n b p.0)
      ∙ ap (λ t. 0 + cond t 1 0) (nothing e)
    where
      p : (list_any (is_boot n b) log ≡ false) × (is_boot n b e ≡ false)
      p = or_parts (list_any (is_boot n b) log) (is_boot n b e) (sym (list_any_last (is_boot n b) log e) ∙ h)

      nothing : (e : Entry B) → (is_effective log e && is_item n b e) ≡ false
      nothing Noop = refl
      nothing (Boot k c) = and_right (is_effective log (Boot k c)) false refl
      nothing (Lost k c) = and_right (is_effective log (Lost k c)) false refl
      nothing (Item k c q t x) = false_from_ne_true _ (λ f. clash f)
        where
          clash : ((is_the (live_boot k log) c && eqb q (items k c log + 1)) && (eqb k n && eqb c b)) ≡ true → ⊥
          clash f =
              let u = and_parts (is_the (live_boot k log) c && eqb q (items k c log + 1)) (eqb k n && eqb c b) f in
              let l = (and_parts (is_the (live_boot k log) c) (eqb q (items k c log + 1)) u.0).0 in
              let v = and_parts (eqb k n) (eqb c b) u.1 in
              let m =
              subst (λ j. list_any (is_boot j b) log ≡ true) (eqb-true k n v.0)
              (subst (λ d. list_any (is_boot k d) log ≡ true) (eqb-true c b v.1) (live_began k c log l)) in
              false≢true (sym p.0 ∙ m)

  -- an entry that is of no matter to a node leaves its standing

  abbrev Misses : ℕ → Entry B → Standing → Type 0
  Misses n e Unknown = Unit {0}
  Misses n e (Live b taken) = is_lost n b e ≡ false
  Misses n e (Gone b) = Unit {0}

  misses : (n : ℕ) (e : Entry B) (s : Standing) → ((b : ℕ) → is_lost n b e ≡ false) → Misses n e s
  misses n e Unknown f = tt
  misses n e (Live b taken) f = f b
  misses n e (Gone b) f = tt

  stays : (n : ℕ) (log : List (Entry B)) (e : Entry B) (s : Standing) → greatest (boots_of n (log ++ e ∷ [])) ≡ greatest (boots_of n log)
      → Misses n e s → ((b : ℕ) → (is_effective log e && is_item n b e) ≡ false) → Stands n log s → Stands n (log ++ e ∷ []) s
  stays n log e Unknown g m i st = g ∙ st
  stays n log e (Live b taken) g m i st = (
    g ∙ st.0,
    lost_last n b log e ∙ ap (λ t. lost_since n b log || (list_any (is_boot n b) log && t)) m
        ∙ ap (λ t. t || (list_any (is_boot n b) log && false)) st.1 ∙ and_right (list_any (is_boot n b) log) false refl,
    same_items n b log e (i b) ∙ st.2,
  )
    where
      same_items : (n b : ℕ) (log : List (Entry B)) (e : Entry B) → (is_effective log e && is_item n b e) ≡ false
          → items n b (log ++ e ∷ []) ≡ items n b log
      same_items n b log e f = items_last n b log e ∙ ap (λ t. items n b log + cond t 1 0) f ∙ omega arith
  stays n log e (Gone b) g m i st = (g ∙ st.0, lost_last n b log e ∙ ap (λ t. t || (list_any (is_boot n b) log && is_lost n b e)) st.1)

  same_greatest : (n : ℕ) (log : List (Entry B)) (e : Entry B) → boot_begun n e ≡ None
      → greatest (boots_of n (log ++ e ∷ [])) ≡ greatest (boots_of n log)
  same_greatest n log e f =
      ap (λ l. greatest l) (boots_last n log e ∙ ap (λ o. boots_of n log ++ cons_option o []) f ∙ append-nil (boots_of n log))

  more_greatest : (n b : ℕ) (log : List (Entry B)) → greatest (boots_of n (log ++ Boot n b ∷ [])) ≡ Some (top (greatest (boots_of n log)) b)
  more_greatest n b log =
      ap (λ l. greatest l)
      (boots_last n log (Boot n b) ∙ ap (λ t. boots_of n log ++ cons_option (cond t (Some b) None) []) (eq-eqb n n refl))
      ∙ greatest_last (boots_of n log) b

  -- entries of n itself

  boot_step : (n c : ℕ) (log : List (Entry B)) (s : Standing) → Unbegun log → Stands n log s
      → Stands n (log ++ Boot n c ∷ []) (if is_new_boot s c then Live c 0 else s)
  boot_step n c log s un st =
      cond_both (is_new_boot s c) (Live c 0) s (λ z. Stands n (log ++ Boot n c ∷ []) z) begins
      (λ f. stays n log (Boot n c) s (passed s st f) (misses n (Boot n c) s (λ b. refl))
      (λ b. and_right (is_effective log (Boot n c)) false refl) st)
    where
      begins : is_new_boot s c ≡ true → Stands n (log ++ Boot n c ∷ []) (Live c 0)
      begins t =
          let above = new_boot n c log s st ∙ t in
          let unborn = has_boot n c log ∙ none_above (boots_of n log) c above in (
            more_greatest n c log
                ∙ ap (λ b. Some b) (top_new (greatest (boots_of n log)) c (sym (all_below_greatest (boots_of n log) c) ∙ above)),
            lost_last n c log (Boot n c)
                ∙ ap (λ u. u || (list_any (is_boot n c) log && false)) (any_after_none (is_boot n c) (is_lost n c) log unborn)
                ∙ and_right (list_any (is_boot n c) log) false refl,
            items_last n c log (Boot n c) ∙ ap (λ i. i + cond (is_effective log (Boot n c) && false) 1 0) (un n c unborn)
                ∙ ap (λ u. 0 + cond u 1 0) (and_right (is_effective log (Boot n c)) false refl),
          )
        where
          top_new : (o : Option ℕ) (b : ℕ) → all_below o b ≡ true → top o b ≡ b
          top_new None b h = refl
          top_new (Some g) b h = let l = ltb-true g b h in max-eq_right (omega arith)

      passed : (s : Standing) → Stands n log s → is_new_boot s c ≡ false
          → greatest (boots_of n (log ++ Boot n c ∷ [])) ≡ greatest (boots_of n log)
      passed Unknown st f = absurd (false≢true (sym f))
      passed (Live g taken) st f =
          more_greatest n c log ∙ ap (λ o. Some (top o c)) st.0 ∙ ap (λ b. Some b) (max-eq_left (ltb-false g c f)) ∙ sym st.0
      passed (Gone g) st f =
          more_greatest n c log ∙ ap (λ o. Some (top o c)) st.0 ∙ ap (λ b. Some b) (max-eq_left (ltb-false g c f)) ∙ sym st.0

  lost_step : (n c : ℕ) (log : List (Entry B)) (s : Standing) → Stands n log s
      → Stands n (log ++ Lost n c ∷ []) (if is_live s c then gone s else s)
  lost_step n c log s st =
      cond_both (is_live s c) (gone s) s (λ z. Stands n (log ++ Lost n c ∷ []) z) (ends s st)
      (λ f. stays n log (Lost n c) s (same_greatest n log (Lost n c) refl) (other s f)
      (λ b. and_right (is_effective log (Lost n c)) false refl) st)
    where
      ends : (s : Standing) → Stands n log s → is_live s c ≡ true → Stands n (log ++ Lost n c ∷ []) (gone s)
      ends Unknown st t = absurd (false≢true t)
      ends (Gone b) st t = absurd (false≢true t)
      ends (Live b taken) st t = (
        same_greatest n log (Lost n c) refl ∙ st.0,
        lost_last n b log (Lost n c)
            ∙ or_right (lost_since n b log) _ (and_from _ _ (has_boot n b log ∙ has_greatest (boots_of n log) b st.0)
            (and_from (eqb n n) (eqb c b) (eq-eqb n n refl) (eq-eqb c b (sym (eqb-true b c t))))),
      )

      other : (s : Standing) → is_live s c ≡ false → Misses n (Lost n c) s
      other Unknown f = tt
      other (Gone b) f = tt
      other (Live b taken) f = and_right (eqb n n) (eqb c b) (ne_eqb c b (λ e. eqb-false b c f (sym e)))

  item_step : (n c q t : ℕ) (x : B) (log : List (Entry B)) (s : Standing) → is_effective log (Item n c q t x) ≡ is_next s c q
      → Stands n log s → Stands n (log ++ Item n c q t x ∷ []) (if is_next s c q then Live c q else s)
  item_step n c q t x log s takes st =
      cond_both (is_next s c q) (Live c q) s (λ z. Stands n (log ++ Item n c q t x ∷ []) z) (goes_on s takes st)
      (λ f. stays n log (Item n c q t x) s (same_greatest n log (Item n c q t x) refl) (misses n (Item n c q t x) s (λ b. refl))
      (λ b. and_left (is_effective log (Item n c q t x)) (eqb n n && eqb c b) (takes ∙ f)) st)
    where
      goes_on : (s : Standing) → is_effective log (Item n c q t x) ≡ is_next s c q → Stands n log s → is_next s c q ≡ true
          → Stands n (log ++ Item n c q t x ∷ []) (Live c q)
      goes_on Unknown takes st h = absurd (false≢true h)
      goes_on (Gone b) takes st h = absurd (false≢true h)
      goes_on (Live b taken) takes st h =
          let p = and_parts (eqb b c) (eqb q (taken + 1)) h in
          let bc = eqb-true b c p.0 in (
            same_greatest n log (Item n c q t x) refl ∙ st.0 ∙ ap (λ d. Some d) bc,
            lost_last n c log (Item n c q t x)
                ∙ ap (λ u. u || (list_any (is_boot n c) log && false)) (ap (λ d. lost_since n d log) (sym bc) ∙ st.1)
                ∙ and_right (list_any (is_boot n c) log) false refl,
            items_last n c log (Item n c q t x)
                ∙ ap (λ u. items n c log + cond u 1 0)
                (and_from _ _ (takes ∙ h) (and_from (eqb n n) (eqb c c) (eq-eqb n n refl) (eq-eqb c c refl)))
                ∙ ap (λ i. i + 1) (ap (λ d. items n d log) (sym bc) ∙ st.2) ∙ sym (eqb-true q (taken + 1) p.1),
          )

  -- each entry keeps the nodes' standings
  step : (log : List (Entry B)) (e : Entry B) → AllStand log → Unbegun log → (n : ℕ)
      → Stands n (log ++ e ∷ []) (standing_after n (standing n log) e)
  step log Noop st un n =
      stays n log Noop (standing n log) (same_greatest n log Noop refl) (misses n Noop (standing n log) (λ b. refl)) (λ b. refl) (st n)
  step log (Boot k c) st un n = ⊎_elim same other (cases_Bool (eqb k n))
    where
      s : Standing
      s = standing n log

      after : Bool → Standing
      after z = if z && is_new_boot s c then Live c 0 else s

      same : eqb k n ≡ true → Stands n (log ++ Boot k c ∷ []) (after (eqb k n))
      same f =
          subst (λ z. Stands n (log ++ Boot k c ∷ []) (after z)) (sym f)
          (subst (λ j. Stands n (log ++ Boot j c ∷ []) (after true)) (sym (eqb-true k n f)) (boot_step n c log s un (st n)))

      other : eqb k n ≡ false → Stands n (log ++ Boot k c ∷ []) (after (eqb k n))
      other f =
          subst (λ z. Stands n (log ++ Boot k c ∷ []) (after z)) (sym f)
          (stays n log (Boot k c) s (same_greatest n log (Boot k c) (cond-false (eqb k n) (Some c) None f))
          (misses n (Boot k c) s (λ b. refl)) (λ b. and_right (is_effective log (Boot k c)) false refl) (st n))
  step log (Lost k c) st un n = ⊎_elim same other (cases_Bool (eqb k n))
    where
      s : Standing
      s = standing n log

      after : Bool → Standing
      after z = if z && is_live s c then gone s else s

      same : eqb k n ≡ true → Stands n (log ++ Lost k c ∷ []) (after (eqb k n))
      same f =
          subst (λ z. Stands n (log ++ Lost k c ∷ []) (after z)) (sym f)
          (subst (λ j. Stands n (log ++ Lost j c ∷ []) (after true)) (sym (eqb-true k n f)) (lost_step n c log s (st n)))

      other : eqb k n ≡ false → Stands n (log ++ Lost k c ∷ []) (after (eqb k n))
      other f =
          subst (λ z. Stands n (log ++ Lost k c ∷ []) (after z)) (sym f)
          (stays n log (Lost k c) s (same_greatest n log (Lost k c) refl) (misses n (Lost k c) s (λ b. and_left (eqb k n) (eqb c b) f))
          (λ b. and_right (is_effective log (Lost k c)) false refl) (st n))
  step log (Item k c q t x) st un n = ⊎_elim same other (cases_Bool (eqb k n))
    where
      s : Standing
      s = standing n log

      after : Bool → Standing
      after z = if z && is_next s c q then Live c q else s

      same : eqb k n ≡ true → Stands n (log ++ Item k c q t x ∷ []) (after (eqb k n))
      same f =
          subst (λ z. Stands n (log ++ Item k c q t x ∷ []) (after z)) (sym f)
          (subst (λ j. Stands n (log ++ Item j c q t x ∷ []) (after true)) (sym (eqb-true k n f))
          (item_step n c q t x log s (effect_is log st (Item n c q t x)) (st n)))

      other : eqb k n ≡ false → Stands n (log ++ Item k c q t x ∷ []) (after (eqb k n))
      other f =
          subst (λ z. Stands n (log ++ Item k c q t x ∷ []) (after z)) (sym f)
          (stays n log (Item k c q t x) s (same_greatest n log (Item k c q t x) refl) (misses n (Item k c q t x) s (λ b. refl))
          (λ b. and_right (is_effective log (Item k c q t x)) (eqb k n && eqb c b) (and_left (eqb k n) (eqb c b) f)) (st n))

  all_stand : (log : List (Entry B)) → AllStand log × Unbegun log
  all_stand log = by_last (λ l. AllStand l × Unbegun l) ((λ n. refl), (λ n b h. refl)) more log
    where
      more : (log : List (Entry B)) (e : Entry B) → AllStand log × Unbegun log → AllStand (log ++ e ∷ []) × Unbegun (log ++ e ∷ [])
      more log e p = (
        (λ n. subst (λ s. Stands n (log ++ e ∷ []) s) (sym (standing_last n Unknown log e)) (step log e p.0 p.1 n)),
        unbegun_more log e p.1,
      )

  pub stands : (n : ℕ) (log : List (Entry B)) → Stands n log (standing n log)
  stands n log = (all_stand log).0 n

  -- by places and by standings, the same entries take effect
  pub effective_is : (log : List (Entry B)) (e : Entry B) → is_effective log e ≡ takes_effect log e
  effective_is log e = effect_is log (all_stand log).0 e

  pub live_boot_is : (n : ℕ) (log : List (Entry B)) → live_boot n log ≡ live_in (standing n log)
  live_boot_is n log = live_is n log (standing n log) ((all_stand log).0 n)

  -- the entries that take effect go on after a log
  pub effective_append : (log es : List (Entry B)) → effective (log ++ es) ≡ effective log ++ effective_behind log es
  effective_append log [] = ap (λ l. effective l) (append-nil log) ∙ sym (append-nil (effective log))
  effective_append log (e ∷ es) =
      ap (λ l. effective l) (sym (append_assoc log (e ∷ []) es))
      ∙ effective_append (log ++ e ∷ []) es
      ∙ ap (λ l. l ++ effective_behind (log ++ e ∷ []) es)
      (effective_last log e ∙ ap (λ t. joined t (effective log) e) (effective_is log e) ∙ split (takes_effect log e))
      ∙ append_assoc (effective log) (if takes_effect log e then e ∷ [] else []) (effective_behind (log ++ e ∷ []) es)
    where
      split : (t : Bool) → joined t (effective log) e ≡ effective log ++ (if t then e ∷ [] else [])
      split true = refl
      split false = sym (append-nil (effective log))

  pub items_taken_is : (n : ℕ) (log : List (Entry B)) → items_taken n log ≡ taken_in (standing n log)
  items_taken_is n log = ap (λ o. option_map_or (λ b. items n b log) o 0) (live_boot_is n log) ∙ go (standing n log) ((all_stand log).0 n)
    where
      go : (s : Standing) → Stands n log s → option_map_or (λ b. items n b log) (live_in s) 0 ≡ taken_in s
      go Unknown st = refl
      go (Live b taken) st = st.2
      go (Gone b) st = refl
