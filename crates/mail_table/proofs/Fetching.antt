-- A batch is taken out of a full box, or the try is lost; then the box is empty again.
use Rattle.std.proofs.Common.{◌≡◌, ℕ, suc, ◌+◌, ◌*◌, ◌<◌, ◌≤◌, ◌==◌, eqb, Bool, true, false, refl, sym}
use Rattle.std.proofs.Common.{ap, ◌∙◌, subst, arith, List, [], ◌∷◌, ◌++◌, length, set, Some, None}
use Rattle.std.proofs.lemmas.Bool.{eq-eqb, eqb-true, ne_eqb}
use Rattle.std.proofs.lemmas.List.{length-set}
use Rattle.std.specs.Prelude.{slice_index, MatchBool}
use mathlib.Core.Option.{some, none}
use mathlib.Core.Option as core
use prog.Atomic.{either}
use lib.ListN.{get_elem?}
use Rattle.atomic_table.proofs.Lists.{set_here, set_else}
use Rattle.atomic_table.specs.Table.{State, step, Act, keeps, takes, gives, rest, Allows}
use Rattle.cluster_world.proofs.Lists.{has_right}
use Rattle.cluster_world.specs.Has.{Has}
use Rattle.paxos_packets.specs.declared.packet.Packet.{Packet}
use Rattle.mail_table.proofs.Going.{Sends, Takes, Owed, goes, still_covered, still_posted, still_counted, box_taken, owed_taken}
use Rattle.mail_table.proofs.Parcels.{through_more, through_else, was_full, was_emptied}
use Rattle.mail_table.proofs.Places.{box_below}
use Rattle.mail_table.proofs.Posting.{Next, idle_sends, idle_takes, loses}
use Rattle.mail_table.specs.Boxes.{AreTo, Box, Placed, empty, emptied, Kept, MayFetch, Sat, sits, Fetches, Clears}
use Rattle.mail_table.specs.Views.{box_of, only, through, is_sending, is_taking, fetching, clearing, receiving_all, lost}
use Rattle.mail_table.specs.declared.part.Part.{Part}

module _ {B : Type 0} (same : B → B → Bool) (n most : ℕ) (x : Part B) (id i : ℕ) (may : MayFetch n x i) where
  low : (s : State (Placed B) (List (Part B))) → Kept same n most s → (i < length s.words) × (i < length s.homes)
  low s kept =
      let l = box_below n may.from x.me may.other may.to in
      let q : ℕ = n * n in
      let l' : box_of n may.from x.me < 8 * q = l in
      let w' : length s.words ≡ 8 * (q + n) = kept.wide in
      let h' : length s.homes ≡ 8 * q = kept.high in
      let e : i ≡ box_of n may.from x.me = may.box in
      (omega arith, omega arith)

  fetches_by : (s : State (Placed B) (List (Part B))) → Kept same n most s → get_elem? s.views id ≡ some (x ∷ []) → (b : Bool)
      → (slice_index s.words i == 2) ≡ b
      → Next same n most s id [] i (either b 3 (slice_index s.words i))
      (λ w. MatchBool b ((ps : List (Packet B)) × (length ps ≤ most) × AreTo x.me ps × (w ≡ sits (fetching i ps x) ((i, Some ps) ∷ [])))
      (w ≡ sits (lost i x) []))
  fetches_by s kept at true is =
      let l = low s kept in
      let two_is = eqb-true (slice_index s.words i) 2 is in
      let old = was_full most s.homes i _ _ _ _ _ (box_taken same n most s kept id x x at refl may.from i may.other may.to may.box) two_is in
      let ps : List (Packet B) = old.0 in
      let y = fetching i ps x in
      let off : (j : ℕ) → (j ≡ i → ⊥) → is_taking y.doing j ≡ is_taking x.doing j = λ j d. ne_eqb i j (λ e. d (sym e)) ∙ sym
      (idle_takes x.doing j may.idle) in
      let t : (j : ℕ) → Sends j y x = λ j. record { doing = sym (idle_sends x.doing j may.idle); posted = refl } in
      let homes : List (core.Option (Placed B)) = set s.homes i none in
      let there : (p : Packet B) → Has ps p → Has (through (box_of n may.from x.me) (kept.part may.from).posted) p = λ p h.
      subst (λ j. Has (through j (kept.part may.from).posted) p) may.box (subst (λ z. Has z p) (sym old.4) (has_right (through i
      x.received) h)) in (
        y ∷ [],
        takes i (Some ps),
        old.1,
        goes same n most s kept id x y at refl i 3 homes l.0
            (record {
              high = length-set s.homes i none;
              else_home = λ j d. set_else s.homes i j none d;
              sends = λ j d. t j;
              takes = λ j d. record { doing = off j d; received = through_else j i x.received ps d };
              box = owed_taken same n most s kept id x y at refl may.from i 3 homes may.other may.to may.box (t i)
                  (emptied refl old.3 (eq-eqb i i refl) (old.4 ∙ sym (through_more i x.received ps)));
              covered = still_covered same n most s kept id x y at refl refl;
              posted = still_posted same n most s kept id x y at refl may.to;
              counted = still_counted same n most s kept id x y at refl i 3 may.from x.me may.other may.to may.box refl;
            }),
        (ps, old.2, (λ p h. (kept.posted may.from may.other x.me p may.to (there p h)).1), refl),
      )
  fetches_by s kept at false is = (
    lost i x ∷ [],
    keeps,
    tt,
    loses same n most x id i s kept at may.from x.me may.other may.to may.box
        may.to,
    refl,
  )

  fetches : (slots : ℕ) → Allows (Kept same n most) slots id (sits x []) i (λ m. either (m == 2) 3 m) (Fetches most (step slots i 2 3 none) (sits
      x []))
  fetches slots s kept len at fits = fetches_by s kept at (slice_index s.words i == 2) refl

  clears : (ps : List (Packet B)) (slots : ℕ)
      → Allows (Kept same n most) slots id (sits (fetching i ps x) ((i, None) ∷ [])) i (λ _. 0)
      (λ _. Clears (step slots i 0 0 none) (sits (fetching i ps x) ((i, None) ∷ [])) 0)
  clears ps slots s kept len at fits =
      let c = fetching i ps x in
      let y = clearing c in
      let l = low s kept in
      let old = was_emptied most s.homes i _ _ _ _ _ (box_taken same n most s kept id c c at refl may.from i may.other may.to may.box) (eq-eqb i
      i refl) in
      let t : (j : ℕ) → Sends j y c = λ j. record { doing = refl; posted = refl } in
      let homes : List (core.Option (Placed B)) = set s.homes i (some None) in (
        y ∷ [],
        gives,
        tt,
        goes same n most s kept id c y at refl i 0 homes l.0
            (record {
              high = length-set s.homes i (some None);
              else_home = λ j d. set_else s.homes i j (some None) d;
              sends = λ j d. t j;
              takes = λ j d. record { doing = sym (ne_eqb i j (λ e. d (sym e))); received = refl };
              box = owed_taken same n most s kept id c y at refl may.from i 0 homes may.other may.to may.box (t i)
                  (empty refl (set_here s.homes i (some None) l.1) old.0 refl old.1);
              covered = still_covered same n most s kept id c y at refl refl;
              posted = still_posted same n most s kept id c y at refl may.to;
              counted = still_counted same n most s kept id c y at refl i 0 may.from x.me may.other may.to may.box refl;
            }),
        refl,
      )

-- by what is known of a seat
module _ {B : Type 0} (same : B → B → Bool) (n most slots id i : ℕ) where
  pub fetches_at : (me : Sat B) → me ≡ sits (only me.0) [] → MayFetch n (only me.0) i
      → Allows (Kept same n most) slots id me i (λ m. either (m == 2) 3 m) (Fetches most (step slots i 2 3 none) me)
  fetches_at me e may =
      subst (λ z. Allows (Kept same n most) slots id z i (λ m. either (m == 2) 3 m) (Fetches most (step slots i 2 3 none) z)) (sym e)
      (fetches same n most (only me.0) id i may slots)

  pub clears_at : (x : Part B) (me : Sat B) (ps : List (Packet B)) → me ≡ sits (fetching i ps x) ((i, None) ∷ []) → MayFetch n x i
      → Allows (Kept same n most) slots id me i (λ _. 0) (λ _. Clears (step slots i 0 0 none) me 0)
  clears_at x me ps e may =
      subst (λ z. Allows (Kept same n most) slots id z i (λ _. 0) (λ _. Clears (step slots i 0 0 none) z 0)) (sym e)
      (clears same n most x id i may ps slots)

pub fetch_low : {B : Type 0} (n words : ℕ) (x : Part B) (i : ℕ) → words ≡ 8 * (n * n + n) → MayFetch n x i → i < words
fetch_low n words x i w may =
    let l = box_below n may.from x.me may.other may.to in
    let q : ℕ = n * n in
    let l' : box_of n may.from x.me < 8 * q = l in
    let w' : words ≡ 8 * (q + n) = w in
    let e : i ≡ box_of n may.from x.me = may.box in
    omega arith

-- what a try that won has fetched
pub fetched_here : {B : Type 0} (most slots i found : ℕ) (me w : Sat B) → found ≡ 2 → Fetches most (step slots i 2 3 none) me found w
    → (ps : List (Packet B)) × (length ps ≤ most) × AreTo (only me.0).me ps × (w ≡ sits (fetching i ps (only me.0)) ((i, Some ps) ∷ []))
fetched_here {B} most slots i found me w e f =
    subst (λ b. MatchBool b ((ps : List (Packet B)) × (length ps ≤ most) × AreTo (only me.0).me ps
    × (w ≡ sits (fetching i ps (only me.0)) ((i, Some ps) ∷ []))) (w ≡ sits (lost i (only me.0)) [])) (eq-eqb found 2 e) f

pub carried : {B : Type 0} (i : ℕ) (x : Part B) (ps : List (Packet B)) (w : Sat B) → w ≡ sits x ((i, Some ps) ∷ [])
    → w.1 ≡ (i, Some ps) ∷ rest w.1
carried i x ps w e = ap (λ (m : Sat _). m.1) e ∙ ap (λ (m : Sat _). (i, Some ps) ∷ rest m.1) (sym e)

pub emptied_hand : {B : Type 0} (i : ℕ) (x : Part B) (ps : List (Packet B)) (w v : Sat B) → w ≡ sits x ((i, Some ps) ∷ [])
    → v ≡ (w.0, (i, None) ∷ rest w.1) → v ≡ sits x ((i, None) ∷ [])
emptied_hand i x ps w v e f = f ∙ ap (λ (m : Sat _). (m.0, (i, None) ∷ rest m.1)) e

-- the batch that comes out of the box is the one that was fetched, and the seat's try is done
pub taken_out : {B : Type 0} (i : ℕ) (x : Part B) (ps : List (Packet B)) (out : Placed B) (w v z : Sat B)
    → w ≡ sits (fetching i ps x) ((i, Some ps) ∷ []) → w.1 ≡ (i, out) ∷ rest w.1 → v ≡ (w.0, (i, None) ∷ rest w.1) → z ≡ sits (clearing (only v.0)) []
    → (out ≡ Some ps) × (z ≡ sits (receiving_all i ps x) [])
taken_out {B} i x ps out w v z is held left cleared = (
  ap first (sym held ∙ ap (λ (m : Sat B). m.1) is),
  cleared ∙ ap (λ (m : Sat B). sits (clearing (only m.0)) []) (emptied_hand i (fetching i ps x) ps w v is left),
)
  where
    first : List (ℕ × Placed B) → Placed B
    first [] = None
    first (y ∷ ys) = y.1
