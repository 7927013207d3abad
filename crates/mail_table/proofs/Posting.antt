-- A batch is put into a box: the box is claimed, or the try is lost; then the batch is delivered into it.
use Rattle.std.proofs.Common.{◌≡◌, ℕ, suc, ◌+◌, ◌*◌, ◌<◌, ◌⊎◌, inl, inr, ◌==◌, eqb, Bool, true, false, refl}
use Rattle.std.proofs.Common.{sym, ap, ◌∙◌, subst, ⊎_elim, arith, List, [], ◌∷◌, ◌++◌, length, set, Some, None}
use Rattle.std.proofs.lemmas.Bool.{eq-eqb, eqb-true, ne_eqb, cases_eq}
use Rattle.std.proofs.lemmas.List.{get_or-set_same, length-set, set-get_or}
use Rattle.std.specs.Prelude.{slice_index, MatchBool}
use mathlib.Core.Option.{some, none}
use mathlib.Core.Option as core
use prog.Atomic.{either}
use lib.ListN.{get_elem?}
use Rattle.atomic_table.proofs.Lists.{set_here, set_else}
use Rattle.atomic_table.specs.Table.{State, Step, step, Act, keeps, takes, gives, Valid, stepped, carried_after, Allows}
use Rattle.cluster_world.proofs.Lists.{has_cases}
use Rattle.cluster_world.specs.Has.{Has}
use Rattle.paxos_packets.specs.Members.{IsMember}
use Rattle.paxos_packets.specs.declared.packet.Packet.{Packet}
use Rattle.mail_table.proofs.Going.{Sends, Takes, Owed, goes, still_covered, still_posted, still_counted, box_sent, owed_sent, owed_none}
use Rattle.mail_table.proofs.Parcels.{through_more, through_else, was_empty, was_claimed}
use Rattle.mail_table.proofs.Places.{box_below, box_tells}
use Rattle.mail_table.specs.Boxes.{Box, Placed, claimed, full, Kept, Posted, MayPost, MaySeek, Sat, sits, Claims, Seeks, Delivers}
use Rattle.mail_table.specs.Views.{box_of, only, through, is_sending, is_taking, claiming, delivering, lost}
use Rattle.mail_table.specs.declared.part.Doing.{Doing}
use Rattle.mail_table.specs.declared.part.Doing.TheVariants.{Idle, Sending, Taking}
use Rattle.mail_table.specs.declared.part.Part.{Part}

-- what a seat may go on with, after a step
abbrev pub Next : {B : Type 0} → (B → B → Bool) → ℕ → ℕ → State (Placed B) (List (Part B)) → ℕ → List (ℕ × Placed B) → ℕ → ℕ
    → (Sat B → Type 0) → Type 0
Next {B} same n most s id held i m then_is =
    (w : List (Part B)) × (a : Act (Placed B)) × Valid s.homes held a × Kept same n most (stepped s i m id held w a)
    × then_is (w, carried_after held a)

pub idle_sends : (d : Doing) (i : ℕ) → d ≡ Idle → is_sending d i ≡ false
idle_sends d i e = ap (λ z. is_sending z i) e

pub idle_takes : (d : Doing) (i : ℕ) → d ≡ Idle → is_taking d i ≡ false
idle_takes d i e = ap (λ z. is_taking z i) e

module _ {B : Type 0} (same : B → B → Bool) (n most : ℕ) (x : Part B) (id i : ℕ) (s : State (Placed B) (List (Part B))) (kept :
    Kept same n most s)
    (at : get_elem? s.views id ≡ some (x ∷ [])) where
  -- a lost try leaves the table as it was
  pub loses : (a b : ℕ) → IsMember n a → IsMember n b → i ≡ box_of n a b → IsMember n x.me
      → Kept same n most (stepped s i (slice_index s.words i) id [] (lost i x ∷ []) keeps)
  loses a b ma mb is mx =
      goes same n most s kept id x (lost i x) at refl i (slice_index s.words i) s.homes
      (subst (λ z. z < length s.words) (sym is) (let l = box_below n a b ma mb in let w = kept.wide in let q : ℕ = n * n in let l' :
      box_of n a b < 8 * q = l in let w' : length s.words ≡ 8 * (q + n) = w in omega arith))
      (record {
        high = refl;
        else_home = λ j d. refl;
        sends = λ j d. record { doing = refl; posted = refl };
        takes = λ j d. record { doing = refl; received = refl };
        box = owed_none same n most s kept id x (lost i x) at refl i (slice_index s.words i) (record { doing = refl; posted = refl })
            (record { doing = refl; received = refl }) refl;
        covered = still_covered same n most s kept id x (lost i x) at refl refl;
        posted = still_posted same n most s kept id x (lost i x) at refl mx;
        counted = still_counted same n most s kept id x (lost i x) at refl i (slice_index s.words i) a b ma mb is refl;
      })

  -- a step that changes nothing leaves the table as it was
  pub rests : (a b : ℕ) → IsMember n a → IsMember n b → i ≡ box_of n a b → IsMember n x.me
      → Kept same n most (stepped s i (slice_index s.words i) id [] (x ∷ []) keeps)
  rests a b ma mb is mx =
      goes same n most s kept id x x at refl i (slice_index s.words i) s.homes
      (subst (λ z. z < length s.words) (sym is) (let l = box_below n a b ma mb in let w = kept.wide in let q : ℕ = n * n in let l' :
      box_of n a b < 8 * q = l in let w' : length s.words ≡ 8 * (q + n) = w in omega arith))
      (record {
        high = refl;
        else_home = λ j d. refl;
        sends = λ j d. record { doing = refl; posted = refl };
        takes = λ j d. record { doing = refl; received = refl };
        box = owed_none same n most s kept id x x at refl i (slice_index s.words i) (record { doing = refl; posted = refl })
            (record { doing = refl; received = refl }) refl;
        covered = still_covered same n most s kept id x x at refl refl;
        posted = still_posted same n most s kept id x x at refl mx;
        counted = still_counted same n most s kept id x x at refl i (slice_index s.words i) a b ma mb is refl;
      })

-- a load at a box between two members finds the word that is wanted, or the try is lost
seeks_by : {B : Type 0} (same : B → B → Bool) (n most wanted : ℕ) (x : Part B) (id i a b : ℕ) → IsMember n a → IsMember n b → i ≡ box_of n a b
    → IsMember n x.me → (s : State (Placed B) (List (Part B))) → Kept same n most s → get_elem? s.views id ≡ some (x ∷ [])
    → (found : Bool) → Next same n most s id [] i (slice_index s.words i) (λ w. MatchBool found (w ≡ sits x []) (w ≡ sits (lost i x) []))
seeks_by same n most wanted x id i a b ma mb is mx s kept at true =
    (x ∷ [], keeps, tt, rests same n most x id i s kept at a b ma mb is mx, refl)
seeks_by same n most wanted x id i a b ma mb is mx s kept at false =
    (lost i x ∷ [], keeps, tt, loses same n most x id i s kept at a b ma mb is mx, refl)

-- if nothing changed the seat is as it was
pub seat_stays : (X Y Z : Type 0) (found : Bool) → MatchBool found X Z → (X → Y) → MatchBool found Y Z
seat_stays X Y Z true h f = f h
seat_stays X Y Z false h f = h

pub seeks_at : {B : Type 0} (same : B → B → Bool) (n most slots wanted id i : ℕ) (me : Sat B) (a b : ℕ) → me ≡ sits (only me.0) [] → IsMember n a
    → IsMember n b → i ≡ box_of n a b → IsMember n (only me.0).me
    → Allows (Kept same n most) slots id me i (λ m. m) (Seeks wanted (step slots i 0 0 none) me)
seeks_at same n most slots wanted id i me a b e ma mb is mx =
    subst (λ z. Allows (Kept same n most) slots id z i (λ m. m) (Seeks wanted (step slots i 0 0 none) z)) (sym e)
    (λ s kept len at fits. seeks_by same n most wanted (only me.0) id i a b ma mb is mx s kept at (slice_index s.words i == wanted))

module _ {B : Type 0} (same : B → B → Bool) (n most : ℕ) (x : Part B) (id i : ℕ) (ps : List (Packet B)) (may : MayPost n most x i ps) where
  low : (s : State (Placed B) (List (Part B))) → Kept same n most s → (i < length s.words) × (i < length s.homes)
  low s kept =
      let l = box_below n x.me may.seek.to may.seek.from may.seek.other in
      let q : ℕ = n * n in
      let l' : box_of n x.me may.seek.to < 8 * q = l in
      let w' : length s.words ≡ 8 * (q + n) = kept.wide in
      let h' : length s.homes ≡ 8 * q = kept.high in
      let e : i ≡ box_of n x.me may.seek.to = may.seek.box in
      (omega arith, omega arith)

  claims_by : (s : State (Placed B) (List (Part B))) → Kept same n most s → get_elem? s.views id ≡ some (x ∷ []) → (b : Bool)
      → (slice_index s.words i == 0) ≡ b
      → Next same n most s id [] i (either b 1 (slice_index s.words i))
      (λ w. MatchBool b (w ≡ sits (claiming i x) ((i, None) ∷ [])) (w ≡ sits (lost i x) []))
  claims_by s kept at true is =
      let y = claiming i x in
      let l = low s kept in
      let zero_is = eqb-true (slice_index s.words i) 0 is in
      let old = was_empty most s.homes i _ _ _ _ _ (box_sent same n most s kept id x y at refl may.seek.to i may.seek.from may.seek.other may.seek.box) zero_is in
      let off : (j : ℕ) → (j ≡ i → ⊥) → is_sending y.doing j ≡ is_sending x.doing j = λ j d. ne_eqb i j (λ e. d (sym e)) ∙ sym
      (idle_sends x.doing j may.seek.idle) in
      let t : (j : ℕ) → Takes j y x = λ j. record { doing = sym (idle_takes x.doing j may.seek.idle); received = refl } in
      let homes : List (core.Option (Placed B)) = set s.homes i none in (
        y ∷ [],
        takes i None,
        old.0,
        goes same n most s kept id x y at refl i 1 homes l.0
            (record {
              high = length-set s.homes i none;
              else_home = λ j d. set_else s.homes i j none d;
              sends = λ j d. record { doing = off j d; posted = refl };
              takes = λ j d. t j;
              box = owed_sent same n most s kept id x y at refl may.seek.to i 1 homes may.seek.from may.seek.other may.seek.box (t i)
                  (claimed refl (eq-eqb i i refl) old.1 old.2);
              covered = still_covered same n most s kept id x y at refl refl;
              posted = still_posted same n most s kept id x y at refl may.seek.from;
              counted = still_counted same n most s kept id x y at refl i 1 x.me may.seek.to may.seek.from may.seek.other may.seek.box refl;
            }),
        refl,
      )
  claims_by s kept at false is = (
    lost i x ∷ [],
    keeps,
    tt,
    loses same n most x id i s kept at x.me may.seek.to may.seek.from may.seek.other may.seek.box
        may.seek.from,
    refl,
  )

  claims : (slots : ℕ) → Allows (Kept same n most) slots id (sits x []) i (λ m. either (m == 0) 1 m) (Claims (step slots i 0 1 none) (sits x []))
  claims slots s kept len at fits = claims_by s kept at (slice_index s.words i == 0) refl

  claiming_now : (s : State (Placed B) (List (Part B))) → Kept same n most s → get_elem? s.views id ≡ some (claiming i x ∷ [])
      → Next same n most s id ((i, Some ps) ∷ []) i 2 (λ w. w ≡ sits (delivering i ps (claiming i x)) [])
  claiming_now s kept at =
      let c = claiming i x in
      let y = delivering i ps c in
      let l = low s kept in
      let old = was_claimed most s.homes i _ _ _ _ _ (box_sent same n most s kept id c y at refl may.seek.to i may.seek.from may.seek.other may.seek.box) (eq-eqb i
      i refl) in
      let t : (j : ℕ) → Takes j y c = λ j. record { doing = refl; received = refl } in
      let homes : List (core.Option (Placed B)) = set s.homes i (some (Some ps)) in (
        y ∷ [],
        gives,
        tt,
        goes same n most s kept id c y at refl i 2 homes l.0
            (record {
              high = length-set s.homes i (some (Some ps));
              else_home = λ j d. set_else s.homes i j (some (Some ps)) d;
              sends = λ j d. record { doing = sym (ne_eqb i j (λ e. d (sym e))); posted = through_else j i c.posted ps d };
              takes = λ j d. t j;
              box = owed_sent same n most s kept id c y at refl may.seek.to i 2 homes may.seek.from may.seek.other may.seek.box (t i)
                  (full ps refl (set_here s.homes i (some (Some ps)) l.1) may.short refl old.0 (through_more i c.posted ps ∙ ap (λ z. z ++ ps) old.1));
              covered = still_covered same n most s kept id c y at refl refl;
              posted = λ b q mb h. posts b q mb (still_posted same n most s kept id c y at refl may.seek.from) h (cases_eq (box_of n x.me b) i);
              counted = still_counted same n most s kept id c y at refl i 2 x.me may.seek.to may.seek.from may.seek.other may.seek.box refl;
            }),
        refl,
      )
    where
      -- what was posted before, and these packets
      posts : (b : ℕ) (q : Packet B) → IsMember n b → Posted n x.me (claiming i x)
          → Has (through (box_of n x.me b) (delivering i ps (claiming i x)).posted) q
          → ((box_of n x.me b ≡ i) ⊎ (box_of n x.me b ≡ i → ⊥)) → Has x.seen.sent q × (q.addressee ≡ b)
      posts b q mb old h (inl e) =
          let split = has_cases (through i x.posted) ps (subst (λ z. Has z q) (through_more i x.posted ps)
          (subst (λ j. Has (through j (delivering i ps (claiming i x)).posted) q) e h)) in
          ⊎_elim (λ g. old b q mb (subst (λ j. Has (through j x.posted) q) (sym e) g))
          (λ g. (
            may.sent q g,
            may.addressed q g ∙ sym (box_tells n x.me b x.me may.seek.to may.seek.from mb may.seek.from may.seek.other (e ∙ may.seek.box)).1,
          )) split
      posts b q mb old h (inr d) = old b q mb (subst (λ z. Has z q) (through_else (box_of n x.me b) i x.posted ps d) h)

  delivers : (slots : ℕ)
      → Allows (Kept same n most) slots id (sits (claiming i x) ((i, Some ps) ∷ [])) i (λ _. 2)
      (λ _. Delivers (step slots i 2 0 none) (sits (claiming i x) ((i, Some ps) ∷ [])) 2)
  delivers slots s kept len at fits =
      let r = claiming_now s kept at in (
        r.0,
        r.1,
        r.2,
        r.3,
        λ qs e. let e' : ps ≡ qs = same_ones qs e in subst (λ z. (r.0, carried_after ((i, Some ps) ∷ []) r.1) ≡ sits
            (delivering i z (claiming i x)) []) e' r.4,
      )
    where
      held : Placed B → List (Packet B)
      held None = ps
      held (Some qs) = qs

      packets_in : List (ℕ × Placed B) → List (Packet B)
      packets_in [] = ps
      packets_in (z ∷ zs) = held z.1

      same_ones : (qs : List (Packet B)) → ◌≡◌ {A = List (ℕ × Placed B)} ((i, Some ps) ∷ []) ((i, Some qs) ∷ []) → ps ≡ qs
      same_ones qs e = ap packets_in e

-- by what is known of a seat
module _ {B : Type 0} (same : B → B → Bool) (n most slots id i : ℕ) where
  pub claims_at : (me : Sat B) (ps : List (Packet B)) → me ≡ sits (only me.0) [] → MayPost n most (only me.0) i ps
      → Allows (Kept same n most) slots id me i (λ m. either (m == 0) 1 m) (Claims (step slots i 0 1 none) me)
  claims_at me ps e may =
      subst (λ z. Allows (Kept same n most) slots id z i (λ m. either (m == 0) 1 m) (Claims (step slots i 0 1 none) z)) (sym e)
      (claims same n most (only me.0) id i ps may slots)

  pub delivers_at : (x : Part B) (me : Sat B) (ps : List (Packet B)) → me ≡ sits (claiming i x) ((i, Some ps) ∷ []) → MayPost n most x i ps
      → Allows (Kept same n most) slots id me i (λ _. 2) (λ _. Delivers (step slots i 2 0 none) me 2)
  delivers_at x me ps e may =
      subst (λ z. Allows (Kept same n most) slots id z i (λ _. 2) (λ _. Delivers (step slots i 2 0 none) z 2)) (sym e)
      (delivers same n most x id i ps may slots)

pub seek_low : {B : Type 0} (n words : ℕ) (x : Part B) (i : ℕ) → words ≡ 8 * (n * n + n) → MaySeek n x i → i < words
seek_low n words x i w may =
    let l = box_below n x.me may.to may.from may.other in
    let q : ℕ = n * n in
    let l' : box_of n x.me may.to < 8 * q = l in
    let w' : words ≡ 8 * (q + n) = w in
    let e : i ≡ box_of n x.me may.to = may.box in
    omega arith
