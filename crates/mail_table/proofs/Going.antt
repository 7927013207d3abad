-- One seat takes a step: what is owed for it, and that the rule holds then.
use Rattle.std.proofs.Common.{◌≡◌, ◌≢◌, ℕ, suc, ◌+◌, ◌*◌, ◌<◌, ◌⊎◌, Bool, refl, sym, ap}
use Rattle.std.proofs.Common.{◌∙◌, subst, ⊎_elim, arith, List, [], ◌∷◌, ◌++◌, length, set, get_or}
use Rattle.std.proofs.lemmas.Bool.{cases_eq}
use Rattle.std.proofs.lemmas.List.{get_or-set_same, get_or-set_other, length-set}
use Rattle.std.specs.Prelude.{slice_index}
use mathlib.Core.Option.{some}
use mathlib.Core.Option as core
use lib.ListN.{get_elem?}
use Rattle.atomic_table.proofs.Lists.{at_set}
use Rattle.atomic_table.specs.Table.{State}
use Rattle.paxos_packets.specs.Members.{IsMember}
use Rattle.paxos_node.specs.View.{Viewed}
use Rattle.mail_table.proofs.Covering.{covered_same}
use Rattle.mail_table.proofs.Parcels.{box_same}
use Rattle.mail_table.proofs.Places.{at_mine, at_other, at_both, box_tells, apart, word_tells}
use Rattle.mail_table.specs.Boxes.{Box, Fits, Placed, Posted, Kept, word_of}
use Rattle.mail_table.specs.Covered.{Covered, with_at}
use Rattle.mail_table.specs.Views.{box_of, through, is_sending, is_taking}
use Rattle.mail_table.specs.declared.part.Part.{Part}

-- a part is to a box as another is: as its sender, as its addressee

pub record Sends {B : Type 0} (i : ℕ) (y x : Part B) : Type 0 where
  pub doing : is_sending y.doing i ≡ is_sending x.doing i
  pub posted : through i y.posted ≡ through i x.posted

pub record Takes {B : Type 0} (i : ℕ) (y x : Part B) : Type 0 where
  pub doing : is_taking y.doing i ≡ is_taking x.doing i
  pub received : through i y.received ≡ through i x.received

-- the seat id, which knew x alone, knows y alone
module _ {B : Type 0} (same : B → B → Bool) (n most : ℕ) (s : State (Placed B) (List (Part B))) (kept : Kept same n most s) (id : ℕ) (x
    y : Part B)
    (at : get_elem? s.views id ≡ some (x ∷ [])) (me : y.me ≡ x.me) where
  pub mine : kept.part x.me ≡ x
  mine = (kept.fits id (x ∷ []) at).0

  here : kept.seat x.me ≡ id
  here = (kept.fits id (x ∷ []) at).1

  abbrev next_part : ℕ → Part B
  next_part = with_at kept.part x.me y

  pub next_mine : next_part x.me ≡ y
  next_mine = at_mine kept.part x.me y

  sends_on : (i : ℕ) → Sends i y x → (k : ℕ) → Sends i (next_part k) (kept.part k)
  sends_on i e = at_both kept.part x.me y (λ k z. Sends i z (kept.part k)) (subst (Sends i y) (sym mine) e) (λ k d. record {
    doing =
        refl;
    posted = refl;
  })

  takes_on : (i : ℕ) → Takes i y x → (k : ℕ) → Takes i (next_part k) (kept.part k)
  takes_on i e = at_both kept.part x.me y (λ k z. Takes i z (kept.part k)) (subst (Takes i y) (sym mine) e) (λ k d. record {
    doing =
        refl;
    received = refl;
  })

  -- the parts of another seat are as they were
  fits_else : (j : ℕ) → (j ≡ id → ⊥) → (v : List (Part B)) → Fits kept.part kept.seat j v → Fits next_part kept.seat j v
  fits_else j d [] f = tt
  fits_else j d (z ∷ zs) f =
      let away : z.me ≡ x.me → ⊥ = λ e. d (sym f.1 ∙ (ap kept.seat e ∙ here)) in
      (at_other kept.part x.me y z.me away ∙ f.0, f.1, fits_else j d zs f.2)

  fits_on : (j : ℕ) (v : List (Part B)) → get_elem? (set s.views id (y ∷ [])) j ≡ some v → Fits next_part kept.seat j v
  fits_on j v e =
      ⊎_elim
      (λ (t : (j ≡ id) × (y ∷ [] ≡ v)). subst (λ (z : ℕ × List (Part B)). Fits next_part kept.seat z.0 z.1) (λ i. (sym t.0 i, t.1 i))
      (ap next_part me ∙ next_mine, ap kept.seat me ∙ here, tt))
      (λ (t : (j ≢ id) × (get_elem? s.views j ≡ some v)). fits_else j t.0 v (kept.fits j v t.1))
      (at_set s.views id j (y ∷ []) v e)

  -- what is owed if the word i becomes m
  pub record Owed (i m : ℕ) (homes : List (core.Option (Placed B))) : Type 0 where
    pub high : length homes ≡ length s.homes
    pub else_home : (j : ℕ) → (j ≡ i → ⊥) → get_elem? homes j ≡ get_elem? s.homes j
    pub sends : (j : ℕ) → (j ≡ i → ⊥) → Sends j y x
    pub takes : (j : ℕ) → (j ≡ i → ⊥) → Takes j y x
    pub box : (a b : ℕ) → IsMember n a → IsMember n b → box_of n a b ≡ i
        → Box most homes i m (is_sending (next_part a).doing i) (is_taking (next_part b).doing i) (through i (next_part a).posted)
        (through i (next_part b).received)
    pub covered : Covered same n (with_at (λ k. (kept.part k).seen) x.me y.seen)
    pub posted : Posted n x.me y
    pub counted : (k : ℕ) → IsMember n k → slice_index (set s.words i m) (word_of n k) ≡ (next_part k).events

  seen_on : (k : ℕ) → with_at (λ k. (kept.part k).seen) x.me y.seen k ≡ (next_part k).seen
  seen_on =
      at_both kept.part x.me y (λ k z. with_at (λ k. (kept.part k).seen) x.me y.seen k ≡ z.seen) (at_mine (λ k. (kept.part k).seen)
      x.me y.seen)
      (λ k d. at_other (λ k. (kept.part k).seen) x.me y.seen k d)

  pub goes : (i m : ℕ) (homes : List (core.Option (Placed B))) → i < length s.words → Owed i m homes
      → Kept same n most (record { words = set s.words i m; homes = homes; views = set s.views id (y ∷ []) })
  goes i m homes low o =
      record {
        part = next_part;
        seat = kept.seat;
        wide = length-set s.words i m ∙ kept.wide;
        high = o.high ∙ kept.high;
        fits = fits_on;
        covered = covered_same same n (with_at (λ k. (kept.part k).seen) x.me y.seen) (λ k. (next_part k).seen) seen_on o.covered;
        posted = at_both kept.part x.me y (λ k z. IsMember n k → Posted n k z) (λ _. o.posted) (λ k d mk. kept.posted k mk);
        counted = o.counted;
        boxes = λ a b ma mb. ⊎_elim (λ e. hit a b ma mb e) (λ d. miss a b ma mb d) (cases_eq (box_of n a b) i);
      }
    where
      hit : (a b : ℕ) → IsMember n a → IsMember n b → box_of n a b ≡ i
          → Box most homes (box_of n a b) (slice_index (set s.words i m) (box_of n a b)) (is_sending (next_part a).doing (box_of n a b))
          (is_taking (next_part b).doing (box_of n a b)) (through (box_of n a b) (next_part a).posted)
          (through (box_of n a b) (next_part b).received)
      hit a b ma mb e =
          subst (λ j. Box most homes j (slice_index (set s.words i m) j) (is_sending (next_part a).doing j) (is_taking (next_part b).doing j)
          (through j (next_part a).posted) (through j (next_part b).received)) (sym e)
          (subst (λ w. Box most homes i w (is_sending (next_part a).doing i) (is_taking (next_part b).doing i) (through i (next_part a).posted)
          (through i (next_part b).received)) (sym (get_or-set_same s.words i m 0 low)) (o.box a b ma mb e))

      miss : (a b : ℕ) → IsMember n a → IsMember n b → (box_of n a b ≡ i → ⊥)
          → Box most homes (box_of n a b) (slice_index (set s.words i m) (box_of n a b)) (is_sending (next_part a).doing (box_of n a b))
          (is_taking (next_part b).doing (box_of n a b)) (through (box_of n a b) (next_part a).posted)
          (through (box_of n a b) (next_part b).received)
      miss a b ma mb d =
          let f = sends_on (box_of n a b) (o.sends (box_of n a b) d) a in
          let g = takes_on (box_of n a b) (o.takes (box_of n a b) d) b in
          box_same most s.homes homes (box_of n a b) _ _ _ _ _ _ _ _ _ _ (kept.boxes a b ma mb) (o.else_home (box_of n a b) d)
          (get_or-set_other s.words i (box_of n a b) m 0 d) f.doing g.doing f.posted g.received

  -- what is the same in every step on a box

  pub still_covered : y.seen ≡ x.seen → Covered same n (with_at (λ k. (kept.part k).seen) x.me y.seen)
  still_covered e =
      covered_same same n (λ k. (kept.part k).seen) (with_at (λ k. (kept.part k).seen) x.me y.seen)
      (at_both (λ k. (kept.part k).seen) x.me y.seen (λ k z. (kept.part k).seen ≡ z) (ap (λ (z : Part B). z.seen) mine ∙ sym e) (λ k d.
      refl)) kept.covered

  pub still_posted : IsMember n x.me → Posted n x.me x
  still_posted m = subst (Posted n x.me) mine (kept.posted x.me m)

  next_events : y.events ≡ x.events → (k : ℕ) → (kept.part k).events ≡ (next_part k).events
  next_events e = at_both kept.part x.me y (λ k z. (kept.part k).events ≡ z.events) (ap (λ (z : Part B). z.events) mine ∙ sym e) (λ k
      d. refl)

  pub still_counted : (i m a b : ℕ) → IsMember n a → IsMember n b → i ≡ box_of n a b → y.events ≡ x.events → (k : ℕ) → IsMember n k
      → slice_index (set s.words i m) (word_of n k) ≡ (next_part k).events
  still_counted i m a b ma mb is e k mk =
      get_or-set_other s.words i (word_of n k) m 0 (λ w. apart n a b k ma mb (sym is ∙ sym w)) ∙ (kept.counted k mk ∙ next_events e k)

  -- the box on which the step is, seen from its sender or its addressee

  pub box_sent : (b i : ℕ) → IsMember n x.me → IsMember n b → i ≡ box_of n x.me b
      → Box most s.homes i (slice_index s.words i) (is_sending x.doing i) (is_taking (kept.part b).doing i) (through i x.posted)
      (through i (kept.part b).received)
  box_sent b i mx mb e =
      subst (λ j. Box most s.homes j (slice_index s.words j) (is_sending x.doing j) (is_taking (kept.part b).doing j) (through j x.posted)
      (through j (kept.part b).received)) (sym e)
      (subst (λ (z : Part B). Box most s.homes (box_of n x.me b) (slice_index s.words (box_of n x.me b)) (is_sending z.doing (box_of n x.me b))
      (is_taking (kept.part b).doing (box_of n x.me b)) (through (box_of n x.me b) z.posted) (through (box_of n x.me b) (kept.part
      b).received))
      mine (kept.boxes x.me b mx mb))

  pub box_taken : (a i : ℕ) → IsMember n a → IsMember n x.me → i ≡ box_of n a x.me
      → Box most s.homes i (slice_index s.words i) (is_sending (kept.part a).doing i) (is_taking x.doing i) (through i (kept.part a).posted)
      (through i x.received)
  box_taken a i ma mx e =
      subst (λ j. Box most s.homes j (slice_index s.words j) (is_sending (kept.part a).doing j) (is_taking x.doing j) (through j (kept.part
      a).posted)
      (through j x.received)) (sym e)
      (subst (λ (z : Part B). Box most s.homes (box_of n a x.me) (slice_index s.words (box_of n a x.me)) (is_sending (kept.part a).doing
      (box_of n a x.me))
      (is_taking z.doing (box_of n a x.me)) (through (box_of n a x.me) (kept.part a).posted) (through (box_of n a x.me) z.received))
      mine (kept.boxes a x.me ma mx))

  pub owed_sent : (b i m : ℕ) (homes : List (core.Option (Placed B))) → IsMember n x.me → IsMember n b → i ≡ box_of n x.me b
      → Takes i y x
      → Box most homes i m (is_sending y.doing i) (is_taking (kept.part b).doing i) (through i y.posted) (through i (kept.part b).received)
      → (c d : ℕ) → IsMember n c → IsMember n d → box_of n c d ≡ i
      → Box most homes i m (is_sending (next_part c).doing i) (is_taking (next_part d).doing i) (through i (next_part c).posted)
      (through i (next_part d).received)
  owed_sent b i m homes mx mb is t h c d mc md e =
      let k = box_tells n c d x.me b mc md mx mb (e ∙ is) in
      let p : next_part c ≡ y = ap next_part k.0 ∙ next_mine in
      let q = takes_on i t b in
      let r : next_part d ≡ next_part b = ap next_part k.1 in
      box_same most homes homes i _ _ _ _ _ _ _ _ _ _ h refl refl (ap (λ (z : Part B). is_sending z.doing i) p)
      (ap (λ (z : Part B). is_taking z.doing i) r ∙ q.doing) (ap (λ (z : Part B). through i z.posted) p)
      (ap (λ (z : Part B). through i z.received) r ∙ q.received)

  pub owed_taken : (a i m : ℕ) (homes : List (core.Option (Placed B))) → IsMember n a → IsMember n x.me
      → i ≡ box_of n a x.me → Sends i y x
      → Box most homes i m (is_sending (kept.part a).doing i) (is_taking y.doing i) (through i (kept.part a).posted) (through i y.received)
      → (c d : ℕ) → IsMember n c → IsMember n d → box_of n c d ≡ i
      → Box most homes i m (is_sending (next_part c).doing i) (is_taking (next_part d).doing i) (through i (next_part c).posted)
      (through i (next_part d).received)
  owed_taken a i m homes ma mx is t h c d mc md e =
      let k = box_tells n c d a x.me mc md ma mx (e ∙ is) in
      let p : next_part d ≡ y = ap next_part k.1 ∙ next_mine in
      let q = sends_on i t a in
      let r : next_part c ≡ next_part a = ap next_part k.0 in
      box_same most homes homes i _ _ _ _ _ _ _ _ _ _ h refl refl (ap (λ (z : Part B). is_sending z.doing i) r ∙ q.doing)
      (ap (λ (z : Part B). is_taking z.doing i) p) (ap (λ (z : Part B). through i z.posted) r ∙ q.posted)
      (ap (λ (z : Part B). through i z.received) p)

  -- a box of which nothing changed, in the new parts
  pub owed_none : (i m : ℕ) → Sends i y x → Takes i y x → m ≡ slice_index s.words i
      → (c d : ℕ) → IsMember n c → IsMember n d → box_of n c d ≡ i
      → Box most s.homes i m (is_sending (next_part c).doing i) (is_taking (next_part d).doing i) (through i (next_part c).posted)
      (through i (next_part d).received)
  owed_none i m f g w c d mc md e =
      let old = subst (λ j. Box most s.homes j (slice_index s.words j) (is_sending (kept.part c).doing j) (is_taking (kept.part d).doing j)
      (through j (kept.part c).posted) (through j (kept.part d).received)) e (kept.boxes c d mc md) in
      let p = sends_on i f c in
      let q = takes_on i g d in
      box_same most s.homes s.homes i _ _ _ _ _ _ _ _ _ _ old refl w p.doing q.doing p.posted q.received
