-- What went through a box, and the four states of a box.
use Rattle.std.proofs.Common.{◌≡◌, ℕ, ◌≤◌, ◌==◌, eqb, Bool, true, false, refl, sym, ap, ◌∙◌}
use Rattle.std.proofs.Common.{arith, List, [], ◌∷◌, ◌++◌, length, Option, Some, None}
use Rattle.std.proofs.lemmas.Bool.{eq-eqb, ne_eqb, cond-true, cond-false}
use Rattle.std.proofs.lemmas.List.{append-nil}
use Rattle.std.specs.Prelude.{if◌then◌else◌}
use mathlib.Core.Option.{some}
use mathlib.Core.Option as core
use lib.ListN.{get_elem?}
use Rattle.paxos_packets.specs.declared.packet.Packet.{Packet}
use Rattle.mail_table.specs.declared.part.Parcel.{Parcel}
use Rattle.mail_table.specs.Boxes.{Box, Placed, empty, claimed, full, emptied, IsAhead}
use Rattle.mail_table.specs.Views.{parcels, through}

joined : {A : Type 0} (b : Bool) (x : A) (ys zs ws : List A) → ys ≡ zs ++ ws → (if b then x ∷ ys else ys) ≡ (if b then x ∷ zs else zs) ++ ws
joined true x ys zs ws e = ap (λ l. x ∷ l) e
joined false x ys zs ws e = e

module _ {B : Type 0} where
  -- packets go through their box in order, and through no other
  through_here : (at : ℕ) (ps : List (Packet B)) → through at (parcels at ps) ≡ ps
  through_here at [] = refl
  through_here at (p ∷ ps) =
      cond-true (eqb at at) (p ∷ through at (parcels at ps)) (through at (parcels at ps)) (eq-eqb at at refl)
      ∙ ap (λ l. p ∷ l) (through_here at ps)

  through_apart : (at i : ℕ) (ps : List (Packet B)) → (at ≡ i → ⊥) → through at (parcels i ps) ≡ []
  through_apart at i [] d = refl
  through_apart at i (p ∷ ps) d =
      cond-false (eqb i at) (p ∷ through at (parcels i ps)) (through at (parcels i ps)) (ne_eqb i at (λ e. d (sym e)))
      ∙ through_apart at i ps d

  -- packets more through this box
  pub through_more : (at : ℕ) (qs : List (Parcel B)) (ps : List (Packet B)) → through at (qs ++ parcels at ps) ≡ through at qs ++ ps
  through_more at [] ps = through_here at ps
  through_more at (q ∷ qs) ps =
      joined (eqb q.at at) q.packet (through at (qs ++ parcels at ps)) (through at qs) ps (through_more at qs ps)

  -- and through another
  pub through_else : (at i : ℕ) (qs : List (Parcel B)) (ps : List (Packet B)) → (at ≡ i → ⊥) → through at (qs ++ parcels i ps) ≡ through at qs
  through_else at i [] ps d = through_apart at i ps d
  through_else at i (q ∷ qs) ps d = ap (λ l. if eqb q.at at then q.packet ∷ l else l) (through_else at i qs ps d)

  module _ (most : ℕ) (homes later : List (core.Option (Placed B))) (i w w' : ℕ) (s s' t t' : Bool) (p p' r r' : List (Packet B)) where
    -- a box of which nothing changed
    pub box_same : Box most homes i w s t p r → get_elem? later i ≡ get_elem? homes i → w' ≡ w → s' ≡ s → t' ≡ t → p' ≡ p → r' ≡ r
        → Box most later i w' s' t' p' r'
    box_same (empty a h b c d) eh ew es et ep er = empty (ew ∙ a) (eh ∙ h) (es ∙ b) (et ∙ c) (ep ∙ (d ∙ sym er))
    box_same (claimed a b c d) eh ew es et ep er = claimed (ew ∙ a) (es ∙ b) (et ∙ c) (ep ∙ (d ∙ sym er))
    box_same (full qs a h l b c d) eh ew es et ep er =
        full qs (ew ∙ a) (eh ∙ h) l (es ∙ b) (et ∙ c) (ep ∙ (d ∙ ap (λ z. z ++ qs) (sym er)))
    box_same (emptied a b c d) eh ew es et ep er = emptied (ew ∙ a) (es ∙ b) (et ∙ c) (ep ∙ (d ∙ sym er))

  module _ (most : ℕ) (homes : List (core.Option (Placed B))) (i w : ℕ) (s t : Bool) (p r : List (Packet B)) where
    pub was_empty : Box most homes i w s t p r → w ≡ 0 → (get_elem? homes i ≡ some (some None)) × (t ≡ false) × (p ≡ r)
    was_empty (empty a h b c d) e = (h, c, d)
    was_empty (claimed a b c d) e = absurd (omega arith)
    was_empty (full qs a h l b c d) e = absurd (omega arith)
    was_empty (emptied a b c d) e = absurd (omega arith)

    pub was_claimed : Box most homes i w s t p r → s ≡ true → (t ≡ false) × (p ≡ r)
    was_claimed (empty a h b c d) e = absurd (cc (e, b))
    was_claimed (claimed a b c d) e = (c, d)
    was_claimed (full qs a h l b c d) e = absurd (cc (e, b))
    was_claimed (emptied a b c d) e = absurd (cc (e, b))

    pub was_full : Box most homes i w s t p r → w ≡ 2
        → (qs : List (Packet B)) × (get_elem? homes i ≡ some (some (Some qs))) × (length qs ≤ most) × (s ≡ false) × (p ≡ r ++ qs)
    was_full (empty a h b c d) e = absurd (omega arith)
    was_full (claimed a b c d) e = absurd (omega arith)
    was_full (full qs a h l b c d) e = (qs, h, l, b, d)
    was_full (emptied a b c d) e = absurd (omega arith)

    pub was_emptied : Box most homes i w s t p r → t ≡ true → (s ≡ false) × (p ≡ r)
    was_emptied (empty a h b c d) e = absurd (cc (e, c))
    was_emptied (claimed a b c d) e = absurd (cc (e, c))
    was_emptied (full qs a h l b c d) e = absurd (cc (e, c))
    was_emptied (emptied a b c d) e = (b, d)

    same_ahead : p ≡ r → IsAhead most p r
    same_ahead e = ([], omega arith, e ∙ sym (append-nil r))

    pub box_ahead : Box most homes i w s t p r → IsAhead most p r
    box_ahead (empty a h b c d) = same_ahead d
    box_ahead (claimed a b c d) = same_ahead d
    box_ahead (full qs a h l b c d) = (qs, l, d)
    box_ahead (emptied a b c d) = same_ahead d
