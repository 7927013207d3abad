-- Two majorities have a common member.
use Rattle.std.proofs.Common.{◌≡◌, ◌⊎◌, inl, inr, ⊎_elim, ℕ, zero, suc, ◌+◌, ◌≤◌, Bool, true, false, refl, arith}
use Rattle.std.specs.Prelude.{if◌then◌else◌}
use Rattle.paxos_packets.specs.Members.{count_nodes, IsMajority, IsMember}

abbrev Common : (ℕ → Bool) → (ℕ → Bool) → ℕ → Type 0
Common p q n = (k : ℕ) × IsMember n k × (p k ≡ true) × (q k ≡ true)

abbrev one : Bool → ℕ
one b = if b then 1 else 0

-- either a common member, or the counts together are at most n
meet_or : (p q : ℕ → Bool) (n : ℕ) → Common p q n ⊎ (count_nodes p n + count_nodes q n ≤ n)
meet_or p q zero = inr (omega arith)
meet_or p q (suc n) = ⊎_elim (λ c. inl (c.0, (c.1.0, omega arith), c.2, c.3)) (λ h. go (p (suc n)) (q (suc n)) refl refl h) (meet_or p q n)
  where
    go : (a b : Bool) → p (suc n) ≡ a → q (suc n) ≡ b → count_nodes p n + count_nodes q n ≤ n
        → Common p q (suc n) ⊎ ((one (p (suc n)) + count_nodes p n) + (one (q (suc n)) + count_nodes q n) ≤ suc n)
    go true true e f h = inl (suc n, (omega arith, omega arith), e, f)
    go true false e f h = inr (rw (e, f) (omega arith))
    go false true e f h = inr (rw (e, f) (omega arith))
    go false false e f h = inr (rw (e, f) (omega arith))

pub common_member : (n : ℕ) (p q : ℕ → Bool) → IsMajority n p → IsMajority n q → (k : ℕ) × IsMember n k × (p k ≡ true) × (q k ≡ true)
common_member n p q hp hq = ⊎_elim (λ c. c) (λ h. absurd (omega arith)) (meet_or p q n)
