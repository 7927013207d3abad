-- The Items of a boot that take effect are numbered 1, 2, 3 and so on.
use Rattle.std.proofs.Common.{◌≡◌, ⊎_elim, ℕ, zero, suc, ◌+◌, Bool, true, false, ◌&&◌, cond, eqb, refl, sym, ap, ◌∙◌, subst, arith, List}
use Rattle.std.proofs.Common.{[], ◌∷◌, ◌++◌, Some, None, length}
use Rattle.std.specs.Prelude.{count_by}
use Rattle.std.specs.List.{filter_map, cons_option, range_with_len}
use Rattle.std.proofs.lemmas.Bool.{cases_Bool, and_parts, eqb-true}
use Rattle.std.proofs.lemmas.List.{append-nil, length-append}
use Rattle.paxos_packets.specs.declared.entry.Entry.{Entry}
use Rattle.paxos_packets.specs.declared.entry.Entry.TheVariants.{Noop, Boot, Lost, Item}
use Rattle.replica_machine.specs.Effects.{is_item, live_boot, is_the, effective, is_effective, item_number, item_numbers}
use Rattle.replica_machine.specs.Laws.{ItemsAreNumbered}
use Rattle.replica_machine.proofs.Lists.{by_last, filter_map_last, count_by_last}
use Rattle.replica_machine.proofs.Places.{joined, effective_last, items}

range_last : (a n : ℕ) → range_with_len a (suc n) ≡ range_with_len a n ++ (a + n) ∷ []
range_last a zero = ap (λ k. k ∷ []) (let z : a ≡ a + 0 = omega arith in z)
range_last a (suc n) =
    ap (λ l. a ∷ l) (range_last (a + 1) n ∙ ap (λ k. range_with_len (a + 1) n ++ k ∷ []) (let z : a + 1 + n ≡ a + suc n = omega arith in z))

abbrev Numbered : List ℕ → Type 0
Numbered l = l ≡ range_with_len 1 (length l)

numbered_more : (l : List ℕ) (q : ℕ) → q ≡ length l + 1 → Numbered l → Numbered (l ++ q ∷ [])
numbered_more l q e h =
    ap (λ z. z ++ q ∷ []) h ∙ ap (λ k. range_with_len 1 (length l) ++ k ∷ []) (e ∙ (let z : length l + 1 ≡ 1 + length l = omega arith in z))
    ∙ sym (range_last 1 (length l))
    ∙ ap (λ k. range_with_len 1 k) (sym (length-append l (q ∷ []) ∙ (let z : length l + 1 ≡ suc (length l) = omega arith in z)))

module _ {B : Type 0} (n b : ℕ) where
  -- an Item has a number
  length_number : (e : Entry B) → length (cons_option (item_number n b e) []) ≡ cond (is_item n b e) 1 0
  length_number Noop = refl
  length_number (Boot k c) = refl
  length_number (Lost k c) = refl
  length_number (Item k c q t x) = go (eqb k n && eqb c b)
    where
      go : (u : Bool) → length (cons_option (cond u (Some q) None) []) ≡ cond u 1 0
      go true = refl
      go false = refl

  pub length_numbers : (es : List (Entry B)) → length (filter_map (item_number n b) es) ≡ count_by (is_item n b) es
  length_numbers es = by_last (λ l. length (filter_map (item_number n b) l) ≡ count_by (is_item n b) l) refl more es
    where
      more : (l : List (Entry B)) (e : Entry B) → length (filter_map (item_number n b) l) ≡ count_by (is_item n b) l
          → length (filter_map (item_number n b) (l ++ e ∷ [])) ≡ count_by (is_item n b) (l ++ e ∷ [])
      more l e ih =
          ap length (filter_map_last (item_number n b) l e)
          ∙ length-append (filter_map (item_number n b) l) (cons_option (item_number n b e) [])
          ∙ ap (λ k. k + length (cons_option (item_number n b e) [])) ih ∙ ap (λ k. count_by (is_item n b) l + k) (length_number e)
          ∙ sym (count_by_last (is_item n b) l e)

  numbers_last : (log : List (Entry B)) (e : Entry B) → Numbered (item_numbers n b log) → Numbered (item_numbers n b (log ++ e ∷ []))
  numbers_last log e ih =
      subst (λ l. Numbered (filter_map (item_number n b) l)) (sym (effective_last log e))
      (⊎_elim took skipped (cases_Bool (is_effective log e)))
    where
      shape : Bool → Type 0
      shape t = Numbered (filter_map (item_number n b) (joined t (effective log) e))

      skipped : is_effective log e ≡ false → shape (is_effective log e)
      skipped f = subst (λ t. shape t) (sym f) ih

      -- what its place says of an Item that takes effect
      number : (e : Entry B) → is_effective log e ≡ true → Numbered (item_numbers n b log ++ cons_option (item_number n b e) [])
      number Noop f = subst (λ l. Numbered l) (sym (append-nil (item_numbers n b log))) ih
      number (Boot k c) f = subst (λ l. Numbered l) (sym (append-nil (item_numbers n b log))) ih
      number (Lost k c) f = subst (λ l. Numbered l) (sym (append-nil (item_numbers n b log))) ih
      number (Item k c q t x) f = ⊎_elim own other (cases_Bool (eqb k n && eqb c b))
        where
          all : Bool → Type 0
          all u = Numbered (item_numbers n b log ++ cons_option (cond u (Some q) None) [])

          other : (eqb k n && eqb c b) ≡ false → all (eqb k n && eqb c b)
          other g = subst (λ u. all u) (sym g) (subst (λ l. Numbered l) (sym (append-nil (item_numbers n b log))) ih)

          own : (eqb k n && eqb c b) ≡ true → all (eqb k n && eqb c b)
          own g =
              let p = and_parts (eqb k n) (eqb c b) g in
              let q_is = eqb-true q (items k c log + 1) (and_parts (is_the (live_boot k log) c) (eqb q (items k c log + 1)) f).1 in
              let at = ap (λ j. items j c log + 1) (eqb-true k n p.0) ∙ ap (λ d. items n d log + 1) (eqb-true c b p.1) in
              subst (λ u. all u) (sym g)
              (numbered_more (item_numbers n b log) q (q_is ∙ at ∙ ap (λ i. i + 1) (sym (length_numbers (effective log)))) ih)

      took : is_effective log e ≡ true → shape (is_effective log e)
      took f =
          subst (λ t. shape t) (sym f) (subst (λ l. Numbered l) (sym (filter_map_last (item_number n b) (effective log) e)) (number e f))

pub are_numbered : {B : Type 0} → ItemsAreNumbered B
are_numbered {B} n b log =
    by_last (λ (l : List (Entry B)). item_numbers n b l ≡ range_with_len 1 (length (item_numbers n b l))) refl (numbers_last n b) log
