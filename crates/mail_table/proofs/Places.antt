-- Numbers of boxes and words, and functions that change at one place.
use Rattle.std.proofs.Common.{◌≡◌, ℕ, zero, suc, ◌+◌, ◌*◌, ◌<◌, ◌≤◌, ◌⊎◌}
use Rattle.std.proofs.Common.{eqb, refl, sym, ap, ◌∙◌, subst, ⊎_elim, arith, suc-mul, mul-le-mul_right}
use Rattle.std.proofs.lemmas.Bool.{eq-eqb, ne_eqb, cond-true, cond-false, cases_eq, cases_lt}
use Rattle.std.specs.Prelude.{if◌then◌else◌}
use Rattle.paxos_packets.specs.Members.{IsMember}
use Rattle.mail_table.specs.Boxes.{word_of}
use Rattle.mail_table.specs.Covered.{with_at}
use Rattle.mail_table.specs.Views.{place, box_of}

-- a row further on
pub further : (x y n : ℕ) → x < y → x * n + n ≤ y * n
further x y n h = let a : suc x * n ≤ y * n = mul-le-mul_right n h in omega (arith, suc-mul x n)

-- a place in a grid determines its row and column
row_is : (n a b c d : ℕ) → b < n → d < n → a * n + b ≡ c * n + d → a < c → ⊥
row_is n a b c d x y e l =
    let f = further a c n l in
    let p : ℕ = a * n in
    let q : ℕ = c * n in
    let f' : p + n ≤ q = f in
    let e' : p + b ≡ q + d = e in
    omega arith

same_row : (n a b c d : ℕ) → b < n → d < n → a * n + b ≡ c * n + d → a ≡ c
same_row n a b c d x y e =
    ⊎_elim (λ l. absurd (row_is n a b c d x y e l))
    (λ m. ⊎_elim (λ l. absurd (row_is n c d a b y x (sym e) l)) (λ k. omega arith) (cases_lt c a))
    (cases_lt a c)

grid : (n a b c d : ℕ) → b < n → d < n → a * n + b ≡ c * n + d → (a ≡ c) × (b ≡ d)
grid n a b c d x y e =
    let r = same_row n a b c d x y e in
    let p : ℕ = a * n in
    let q : ℕ = c * n in
    let s : p ≡ q = ap (λ z. z * n) r in
    let e' : p + b ≡ q + d = e in
    (r, omega arith)

pub place_below : (n k : ℕ) → IsMember n k → place k < n
place_below n zero m = absurd (omega (arith, m.0))
place_below n (suc k) m = m.1

pub place_is : (n k : ℕ) → IsMember n k → suc (place k) ≡ k
place_is n zero m = absurd (omega (arith, m.0))
place_is n (suc k) m = refl

one_place : (n j k : ℕ) → IsMember n j → IsMember n k → place j ≡ place k → j ≡ k
one_place n j k a b e = sym (place_is n j a) ∙ (ap suc e ∙ place_is n k b)

-- the number of a box determines its two nodes
pub box_tells : (n a b c d : ℕ) → IsMember n a → IsMember n b → IsMember n c → IsMember n d → box_of n a b ≡ box_of n c d
    → (a ≡ c) × (b ≡ d)
box_tells n a b c d ma mb mc md e =
    let p : ℕ = place a * n in
    let q : ℕ = place c * n in
    let e' : 8 * (p + place b) ≡ 8 * (q + place d) = e in
    let one : p + place b ≡ q + place d = omega arith in
    let g = grid n (place a) (place b) (place c) (place d) (place_below n b mb) (place_below n d md) one in
    (one_place n a c ma mc g.0, one_place n b d mb md g.1)

pub box_below : (n a b : ℕ) → IsMember n a → IsMember n b → box_of n a b < 8 * (n * n)
box_below n a b ma mb =
    let f = further (place a) n n (place_below n a ma) in
    let l = place_below n b mb in
    let p : ℕ = place a * n in
    let q : ℕ = n * n in
    let f' : p + n ≤ q = f in
    let r : 8 * (p + place b) < 8 * q = omega arith in
    r

pub word_tells : (n j k : ℕ) → IsMember n j → IsMember n k → word_of n j ≡ word_of n k → j ≡ k
word_tells n j k a b e =
    let q : ℕ = n * n in
    let e' : 8 * (q + place j) ≡ 8 * (q + place k) = e in
    one_place n j k a b (omega arith)

pub word_below : (n k : ℕ) → IsMember n k → word_of n k < 8 * (n * n + n)
word_below n k m =
    let l = place_below n k m in
    let q : ℕ = n * n in
    let r : 8 * (q + place k) < 8 * (q + n) = omega arith in
    r

-- no word is that of a box and of a node
pub apart : (n a b k : ℕ) → IsMember n a → IsMember n b → box_of n a b ≡ word_of n k → ⊥
apart n a b k ma mb e =
    let l = box_below n a b ma mb in
    let p : ℕ = box_of n a b in
    let q : ℕ = n * n in
    let l' : p < 8 * q = l in
    let e' : p ≡ 8 * (q + place k) = e in
    omega arith

-- a function that changes at one place

pub at_mine : {A : Type 0} (f : ℕ → A) (k : ℕ) (y : A) → with_at f k y k ≡ y
at_mine f k y = cond-true (eqb k k) y (f k) (eq-eqb k k refl)

pub at_other : {A : Type 0} (f : ℕ → A) (k : ℕ) (y : A) (j : ℕ) → (j ≡ k → ⊥) → with_at f k y j ≡ f j
at_other f k y j d = cond-false (eqb j k) y (f j) (ne_eqb j k d)

-- what holds of the new value there, and of the old ones elsewhere, holds everywhere
pub at_both : {A : Type 0} (f : ℕ → A) (k : ℕ) (y : A) (P : ℕ → A → Type 0) → P k y → ((j : ℕ) → (j ≡ k → ⊥) → P j (f j)) → (j : ℕ)
    → P j (with_at f k y j)
at_both f k y P mine others j =
    ⊎_elim (λ (e : j ≡ k). subst (λ i. P i (with_at f k y i)) (sym e) (subst (P k) (sym (at_mine f k y)) mine))
    (λ d. subst (P j) (sym (at_other f k y j d)) (others j d))
    (cases_eq j k)

pub word_low : (n words k i : ℕ) → words ≡ 8 * (n * n + n) → IsMember n k → i ≡ word_of n k → i < words
word_low n words k i w m e = subst (λ z. z < words) (sym e) (subst (λ z. word_of n k < z) (sym w) (word_below n k m))
