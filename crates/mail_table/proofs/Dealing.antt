-- The rule holds at the start, and when the founder hands out a seat.
use Rattle.std.proofs.Common.{◌≡◌, ◌≢◌, ℕ, zero, suc, ◌+◌, ◌*◌, ◌<◌, ◌≤◌, ◌⊎◌, Bool, refl, sym, ap, ◌∙◌, subst, ⊎_elim}
use Rattle.std.proofs.Common.{inl, inr, arith, mul-le-mul_right, length-append, List, [], ◌∷◌, ◌++◌, map, length, set, get_or, take, replicate, Option, Some, None}
use Rattle.std.proofs.lemmas.List.{length-set, length-map, length-replicate, length-take}
use Rattle.std.proofs.lemmas.List.Elements.{All-append}
use Rattle.std.specs.Prelude.{All, slice_index}
use mathlib.Core.Option.{some, none, some-injective, some-ne-none}
use mathlib.Core.Option as core
use lib.ListN.{get_elem?}
use Rattle.atomic_table.proofs.Lists.{at_set}
use Rattle.atomic_table.specs.Table.{State, opening, Splits}
use Rattle.cluster_world.proofs.Lists.{has_nil}
use Rattle.paxos_packets.specs.Members.{IsMember}
use Rattle.paxos_packets.specs.declared.packet.Packet.{Packet}
use Rattle.mail_table.proofs.Covering.{covered_first}
use Rattle.mail_table.proofs.Places.{at_mine, at_other, box_below}
use Rattle.mail_table.specs.Boxes.{Box, empty, Fits, Kept, Sat, sits, rising, behind_first, first_alone}
use Rattle.mail_table.specs.Covered.{with_at}
use Rattle.mail_table.specs.Seats.{Mailed, Owns, Seated, new_seats}
use Rattle.mail_table.specs.Views.{box_of, unopened}
use Rattle.mail_table.specs.declared.part.Part.{Part}

-- the last of a list, or one before it, with its place
snoc_at : {A : Type 0} (l : List A) (a b : A) (j : ℕ) → get_elem? (l ++ a ∷ []) j ≡ some b
    → (get_elem? l j ≡ some b) ⊎ ((a ≡ b) × (j ≡ length l))
snoc_at [] a b zero e = inr (some-injective a b e, refl)
snoc_at [] a b (suc j) e = absurd (some-ne-none b (sym e))
snoc_at (x ∷ xs) a b zero e = inl e
snoc_at (x ∷ xs) a b (suc j) e = ⊎_elim (λ t. inl t) (λ t. inr (t.0, ap suc t.1)) (snoc_at xs a b j e)

fits_first : (B : Type 0) (k m : ℕ) → Fits {B = B} unopened (λ _. 0) 0 (rising k m)
fits_first B k zero = tt
fits_first B k (suc m) = (refl, refl, fits_first B (suc k) m)

home_first : {A : Type 0} (m i : ℕ) (a : A) → i < m → get_elem? (map some (replicate m a)) i ≡ some (some a)
home_first zero i a l = absurd (omega arith)
home_first (suc m) zero a l = refl
home_first (suc m) (suc i) a l = home_first m i a (omega arith)

module _ {B : Type 0} (same : B → B → Bool) (n most : ℕ) where
  pub begins : (words : List ℕ) → length words ≡ 8 * (n * n + n) → ((i : ℕ) → slice_index words i ≡ 0)
      → Kept {B = B} same n most (opening words (replicate (8 * (n * n)) None) (rising 0 n))
  begins words long zeros =
      record {
        part = unopened;
        seat = λ _. 0;
        wide = long;
        high = length-map (replicate (8 * (n * n)) None) some ∙ length-replicate (8 * (n * n)) None;
        fits = one;
        covered = covered_first same n (λ k. (unopened k).seen) (λ k. refl) (λ k. refl);
        posted = λ k m b p mb h. absurd (has_nil h);
        counted = λ k m. zeros _;
        boxes = λ a b ma mb. empty (zeros _) (home_first (8 * (n * n)) (box_of n a b) None (box_below n a b ma mb)) refl refl refl;
      }
    where
      one : (j : ℕ) (v : List (Part B)) → get_elem? (rising 0 n ∷ []) j ≡ some v → Fits unopened (λ _. 0) j v
      one zero v e = subst (Fits unopened (λ _. 0) 0) (some-injective _ _ e) (fits_first B 0 n)
      one (suc j) v e = absurd (some-ne-none v (sym e))

  -- the founder hands out the seat of its first node
  pub splits : (id k m : ℕ) → Splits (Kept {B = B} same n most) id (rising k (suc m)) (rising (suc k) m) (unopened (suc k) ∷ [])
  splits id k m s kept at =
      record {
        part = kept.part;
        seat = seats;
        wide = kept.wide;
        high = kept.high;
        fits = fits;
        covered = kept.covered;
        posted = kept.posted;
        counted = kept.counted;
        boxes = kept.boxes;
      }
    where
      old : Fits kept.part kept.seat id (rising k (suc m))
      old = kept.fits id (rising k (suc m)) at

      seats : ℕ → ℕ
      seats = with_at kept.seat (suc k) (length s.views)

      rest_fits : (i : ℕ) (m : ℕ) → suc k ≤ i → Fits kept.part kept.seat id (rising i m) → Fits kept.part seats id (rising i m)
      rest_fits i zero l f = tt
      rest_fits i (suc m) l f =
          (f.0, at_other kept.seat (suc k) (length s.views) (suc i) (λ e. omega arith) ∙ f.1, rest_fits (suc i) m (omega arith) f.2)

      else_fits : (j : ℕ) → (j ≡ id → ⊥) → (v : List (Part B)) → Fits kept.part kept.seat j v → Fits kept.part seats j v
      else_fits j d [] f = tt
      else_fits j d (z ∷ zs) f =
          (f.0, at_other kept.seat (suc k) (length s.views) z.me (λ e. d (sym f.1 ∙ (ap kept.seat e ∙ old.1))) ∙ f.1, else_fits j d zs f.2)

      before : (j : ℕ) (v : List (Part B)) → get_elem? (set s.views id (rising (suc k) m)) j ≡ some v → Fits kept.part seats j v
      before j v e =
          ⊎_elim
          (λ (t : (j ≡ id) × (rising (suc k) m ≡ v)). subst (λ (z : ℕ × List (Part B)). Fits kept.part seats z.0 z.1) (λ i. (
            sym t.0 i,
            t.1 i,
          ))
          (rest_fits (suc k) m (omega arith) old.2))
          (λ (t : (j ≢ id) × (get_elem? s.views j ≡ some v)). else_fits j t.0 v (kept.fits j v t.1))
          (at_set s.views id j (rising (suc k) m) v e)

      fits : (j : ℕ) (v : List (Part B)) → get_elem? (set s.views id (rising (suc k) m) ++ (unopened (suc k) ∷ []) ∷ []) j ≡ some v
          → Fits kept.part seats j v
      fits j v e =
          ⊎_elim (λ t. before j v t)
          (λ (t : (unopened (suc k) ∷ [] ≡ v) × (j ≡ length (set s.views id (rising (suc k) m)))).
          subst (λ (z : ℕ × List (Part B)). Fits kept.part seats z.0 z.1)
          (λ i. (sym (t.1 ∙ length-set s.views id (rising (suc k) m)) i, t.0 i))
          (old.0, at_mine kept.seat (suc k) (length s.views), tt))
          (snoc_at (set s.views id (rising (suc k) m)) (unopened (suc k) ∷ []) v j e)

-- a node has no seat yet
pub next_one : (below nodes m : ℕ) → below + m ≡ nodes → below < nodes → (p : ℕ) × (m ≡ suc p)
next_one below nodes zero e l = absurd (omega arith)
next_one below nodes (suc p) e l = (p, refl)

pub length_seats : (B : Type 0) (m : Mailed) (k : ℕ) → length (new_seats {B = B} m k) ≡ k
length_seats B m zero = refl
length_seats B m (suc k) = let e = length_seats B m k in length-append (new_seats {B = B} m k) _ ∙ omega (arith, e)

module _ {B : Type 0} where
  -- the founder, that seat, and what it knows then
  pub splits_at : (same : B → B → Bool) (n most id below p : ℕ) (v : List (Part B)) → v ≡ rising below (suc p)
      → Splits (Kept same n most) id v (behind_first v) (first_alone v)
  splits_at same n most id below p v e =
      subst (λ z. Splits (Kept same n most) id z (behind_first z) (first_alone z)) (sym e) (splits same n most id below p)

  pub seat_is : (below p : ℕ) (v : List (Part B)) (me : Sat B) → v ≡ rising below (suc p) → me ≡ (first_alone v, [])
      → me ≡ sits (unopened (below + 1)) []
  seat_is below p v me e f =
      let one : suc below ≡ below + 1 = omega arith in
      f ∙ (ap (λ (z : List (Part B)). (first_alone z, [])) e ∙ ap (λ k. sits (unopened k) []) one)

  pub founder_is : (below p : ℕ) (v : List (Part B)) (me : Sat B) → v ≡ rising below (suc p) → me ≡ (behind_first v, [])
      → me ≡ (rising (below + 1) p, [])
  founder_is below p v me e f =
      let one : suc below ≡ below + 1 = omega arith in
      f ∙ (ap (λ (z : List (Part B)). (behind_first z, [])) e ∙ ap (λ k. (rising k p, [])) one)

  pub one_seat_more : (m : Mailed) (k : ℕ) (seats : List (Seated B)) → seats ≡ new_seats m k
      → seats ++ record { office = m.office; table = m.table; members = m.members; part = unopened (k + 1) } ∷ [] ≡ new_seats m (k + 1)
  one_seat_more m k seats e =
      let one : suc k ≡ k + 1 = omega arith in
      subst (λ j. seats ++ record { office = m.office; table = m.table; members = m.members; part = unopened j } ∷ [] ≡ new_seats m j) one
      (ap (λ l. l ++ record { office = m.office; table = m.table; members = m.members; part = unopened (suc k) } ∷ []) e)

-- a row of zeros, as much of it as is asked for

abbrev pub zero_row : ℕ → List ℕ
zero_row m = replicate m 0

zeros_at : (k m i : ℕ) → slice_index (take k (zero_row m)) i ≡ 0
zeros_at zero m i = refl
zeros_at (suc k) zero i = refl
zeros_at (suc k) (suc m) zero = refl
zeros_at (suc k) (suc m) (suc i) = zeros_at k m i

length_zeros : (k m : ℕ) → k ≤ m → length (take k (zero_row m)) ≡ k
length_zeros zero m l = refl
length_zeros (suc k) zero l = absurd (omega arith)
length_zeros (suc k) (suc m) l = ap suc (length_zeros k m (omega arith))

pub all_zero : (k : ℕ) → k ≤ 448 → (length (take k (zero_row 448)) ≡ k) × ((i : ℕ) → slice_index (take k (zero_row 448)) i ≡ 0)
all_zero k l = (length_zeros k 448 l, zeros_at k 448)

pub square_small : (n : ℕ) → n ≤ 7 → 8 * (n * n + n) ≤ 448
square_small n l =
    let a : n * n ≤ 7 * n = mul-le-mul_right n l in
    let p : ℕ = n * n in
    let b : p ≤ 7 * n = a in
    let c : 8 * (p + n) ≤ 448 = omega arith in
    c

all_one : {A : Type 0} (P : A → Type 0) (x : A) → P x → All P (x ∷ [])
all_one P x p zero d l = p
all_one P x p (suc k) d l = absurd (omega arith)

-- the seats that a table is founded with are its own
pub seats_owned : {B : Type 0} (m : Mailed) (k : ℕ) (seats : List (Seated B)) → seats ≡ new_seats m k → All (Owns m) seats
seats_owned {B} m k seats e = subst (All (Owns m)) (sym e) (all k)
  where
    all : (k : ℕ) → All (Owns m) (new_seats {B = B} m k)
    all zero = λ i d l. absurd (omega arith)
    all (suc k) = All-append (Owns m) (new_seats m k) _ (all k) (all_one (Owns m) _ (refl, refl, refl))
