-- What stays pending after a log.
use Rattle.std.proofs.Common.{◌≡◌, ℕ, ◌-◌, ◌<◌, ◌≤◌, Bool, true, false, not, ◌&&◌, eqb, leb, refl, sym, ap, ◌∙◌, subst, arith}
use Rattle.std.specs.Prelude.{if◌then◌else◌}
use Rattle.std.specs.List.{range_with_len, Contains}
use Rattle.std.proofs.lemmas.Bool.{false≢true, cond-true, and_parts, and_from, eqb-true, eq-eqb, le-ltb, le-leb, leb-true, not-false}
use Rattle.std.proofs.lemmas.List.FromFn.{get_or-range_with_len, length-range_with_len}
use Rattle.paxos_packets.specs.declared.entry.Entry.TheVariants.{Noop, Boot, Lost, Item}
use Rattle.replica_machine.specs.declared.roll.Standing.{Standing}
use Rattle.replica_machine.specs.declared.roll.Standing.TheVariants.{Unknown, Live, Gone}
use Rattle.replica_machine.specs.Effects.{effective, item_numbers}
use Rattle.replica_machine.specs.Roll.{is_new_boot, is_live, is_next, gone, was_taken, standing}
use Rattle.replica_machine.specs.Laws.{EffectEndsWant, ItemsStayWanted, BootsStayWanted, LostsStayWanted}
use Rattle.replica_machine.proofs.Places.{items, Stands, stands, standing_last, new_boot, effective_is}
use Rattle.replica_machine.proofs.Numbering.{length_numbers, are_numbered}

-- after an entry that took effect, by its node's standing then
after_boot : (s : Standing) (b : ℕ) → is_new_boot s b ≡ true → is_new_boot (if is_new_boot s b then Live b 0 else s) b ≡ false
after_boot s b h = ap (λ z. is_new_boot z b) (cond-true (is_new_boot s b) (Live b 0) s h) ∙ le-ltb b b (omega arith)

after_lost : (s : Standing) (b : ℕ) → is_live s b ≡ true → is_live (if is_live s b then gone s else s) b ≡ false
after_lost Unknown b h = absurd (false≢true h)
after_lost (Live c taken) b h = ap (λ z. is_live z b) (cond-true (eqb c b) (Gone c) (Live c taken) h)
after_lost (Gone c) b h = absurd (false≢true h)

after_item : (s : Standing) (b q : ℕ) → is_next s b q ≡ true → was_taken (if is_next s b q then Live b q else s) b q ≡ true
after_item s b q h =
    ap (λ z. was_taken z b q) (cond-true (is_next s b q) (Live b q) s h)
    ∙ and_from (eqb b b) (leb q q) (eq-eqb b b refl) (le-leb q q (omega arith))

-- an entry's own node has the standing after it that the entry's case says
own : (n : ℕ) (test : Bool) (s t : Standing) → (if eqb n n && test then t else s) ≡ (if test then t else s)
own n test s t = ap (λ u. if u && test then t else s) (eq-eqb n n refl)

-- the numbers from 1 on
in_range : (q k : ℕ) → 0 < q → q ≤ k → Contains (range_with_len 1 k) q
in_range q k a l =
    let below : q - 1 < k = omega arith in
    (q - 1, subst (λ n. q - 1 < n) (sym (length-range_with_len 1 k)) below, get_or-range_with_len 1 k (q - 1) q below ∙ omega arith)

module _ {B : Type 0} where
  pub effect_ends_want : EffectEndsWant B
  effect_ends_want log Noop h = refl
  effect_ends_want log (Boot n b) h =
      ap (λ s. is_new_boot s b) (standing_last n Unknown log (Boot n b)
      ∙ own n (is_new_boot (standing n log) b) (standing n log) (Live b 0))
      ∙ after_boot (standing n log) b h
  effect_ends_want log (Lost n b) h =
      ap (λ s. is_live s b) (standing_last n Unknown log (Lost n b)
      ∙ own n (is_live (standing n log) b) (standing n log) (gone (standing n log)))
      ∙ after_lost (standing n log) b h
  effect_ends_want log (Item n b q t x) h =
      ap (λ s. not (was_taken s b q)) (standing_last n Unknown log (Item n b q t x)
      ∙ own n (is_next (standing n log) b q) (standing n log) (Live b q))
      ∙ ap not (after_item (standing n log) b q h)

  pub items_stay_wanted : ItemsStayWanted B
  items_stay_wanted n b q t x log a h = go (standing n log) (stands n log) (not-false (was_taken (standing n log) b q) h)
    where
      go : (s : Standing) → Stands n log s → was_taken s b q ≡ true → Contains (item_numbers n b log) q
      go Unknown st f = absurd (false≢true f)
      go (Gone c) st f = absurd (false≢true f)
      go (Live c taken) st f =
          let p = and_parts (eqb c b) (leb q taken) f in
          let many = length_numbers n b (effective log) ∙ ap (λ d. items n d log) (sym (eqb-true c b p.0)) ∙ st.2 in
          subst (λ l. Contains l q) (sym (are_numbered n b log ∙ ap (λ k. range_with_len 1 k) many))
          (in_range q taken a (leb-true q taken p.1))

  pub boots_stay_wanted : BootsStayWanted B
  boots_stay_wanted n b log = sym (new_boot n b log (standing n log) (stands n log))

  pub losts_stay_wanted : LostsStayWanted B
  losts_stay_wanted n b log = sym (effective_is log (Lost n b))
