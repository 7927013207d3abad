-- The first packet that passes one test or another, and that of a queue.
use Rattle.std.proofs.Common.{◌≡◌, ℕ, suc, ◌+◌, ◌≤◌, Bool, true, false, cond, not, ◌&&◌, List, [], ◌∷◌, Option, Some, None, refl, sym, ap, ◌∙◌, arith}
use Rattle.std.specs.Prelude.{◌||◌, slice_get}
use Rattle.std.specs.List.{find}
use Rattle.std.proofs.Math.Nat.{min-eq_left, min-eq_right}
use Rattle.script_program.specs.declared.player.waiting.Sent.{Sent}
use Rattle.script_program.specs.Waiting.{first_from}
use Rattle.script_program.specs.Queue.{is_between, places_from, delivered_at, least_of}

pub first_same : (f g : Sent → Bool) → ((p : Sent) → f p ≡ g p) → (n : ℕ) (ps : List Sent) → first_from f n ps ≡ first_from g n ps
first_same f g same n [] = refl
first_same f g same n (p ∷ ps) = λ i. cond (same p i) (Some n) (first_same f g same (suc n) ps i)

pub first_never : (f : Sent → Bool) → ((p : Sent) → f p ≡ false) → (n : ℕ) (ps : List Sent) → first_from f n ps ≡ None
first_never f off n [] = refl
first_never f off n (p ∷ ps) = rw (off p) (first_never f off (suc n) ps)

first_low : (f : Sent → Bool) (n : ℕ) (ps : List Sent) (m : ℕ) → first_from f n ps ≡ Some m → n ≤ m
first_low f n [] m e = absurd (cc)
first_low f n (p ∷ ps) m e = go (f p) e (first_low f (suc n) ps m)
  where
    go : (b : Bool) → cond b (Some n) (first_from f (suc n) ps) ≡ Some m → (first_from f (suc n) ps ≡ Some m → suc n ≤ m) → n ≤ m
    go true h later = let same : n ≡ m = cc in omega (arith, same)
    go false h later = omega (arith, later h)

least_low : (n : ℕ) (o : Option ℕ) → ((m : ℕ) → o ≡ Some m → n ≤ m) → (least_of (Some n) o ≡ Some n) × (least_of o (Some n) ≡ Some n)
least_low n None low = (refl, refl)
least_low n (Some m) low = (ap Some (min-eq_left (low m refl)), ap Some (min-eq_right (low m refl)))

pub first_or : (f g : Sent → Bool) (n : ℕ) (ps : List Sent) → first_from (λ p. f p || g p) n ps ≡ least_of (first_from f n ps) (first_from g n ps)
first_or f g n [] = refl
first_or f g n (p ∷ ps) = go (f p) (g p) (first_or f g (suc n) ps)
  where
    above : (h : Sent → Bool) (m : ℕ) → first_from h (suc n) ps ≡ Some m → n ≤ m
    above h m e = omega (arith, first_low h (suc n) ps m e)

    go : (a b : Bool) → first_from (λ q. f q || g q) (suc n) ps ≡ least_of (first_from f (suc n) ps) (first_from g (suc n) ps)
        → cond (a || b) (Some n) (first_from (λ q. f q || g q) (suc n) ps) ≡ least_of (cond a (Some n) (first_from f (suc n) ps)) (cond b (Some n) (first_from g (suc n) ps))
    go true true later = sym (least_low n (Some n) (λ m e. let same : n ≡ m = cc in omega (arith, same))).0
    go true false later = sym (least_low n (first_from g (suc n) ps) (above g)).0
    go false true later = sym (least_low n (first_from f (suc n) ps) (above f)).1
    go false false later = later

module _ (sent : List Sent) (members pair : ℕ) where
  abbrev pub waits : Sent → Bool
  waits p = not p.is_delivered && is_between members pair p

  at_place : (n : ℕ) (p : Sent) → slice_get sent n ≡ Some p → delivered_at sent n ≡ p.is_delivered
  at_place n p e = rw e refl

  pub queue_first : (n : ℕ) (ps : List Sent) → ((i : ℕ) → slice_get sent (n + i) ≡ slice_get ps i)
      → find (λ place. not (delivered_at sent place)) (places_from members pair n ps) ≡ first_from waits n ps
  queue_first n [] at = refl
  queue_first n (p ∷ ps) at =
      go (is_between members pair p) p.is_delivered (at_place n p (ap (slice_get sent) (let z : n ≡ n + 0 = omega arith in z) ∙ at 0))
      (queue_first (suc n) ps (λ i. ap (slice_get sent) (let z : suc n + i ≡ n + suc i = omega arith in z) ∙ at (suc i)))
    where
      go : (b d : Bool) → delivered_at sent n ≡ d → find (λ place. not (delivered_at sent place)) (places_from members pair (suc n) ps) ≡ first_from waits (suc n) ps
          → find (λ place. not (delivered_at sent place)) (cond b (n ∷ places_from members pair (suc n) ps) (places_from members pair (suc n) ps))
          ≡ cond (not d && b) (Some n) (first_from waits (suc n) ps)
      go true true e later = rw e later
      go true false e later = rw e refl
      go false true e later = later
      go false false e later = later
