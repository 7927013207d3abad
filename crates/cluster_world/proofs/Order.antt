-- The order of ballots.
use Rattle.std.proofs.Common.{◌≡◌, ◌⊎◌, inl, inr, ⊎_elim, ℕ, zero, suc, ◌<◌, ◌≤◌, true, false, ltb, eqb, refl, ◌∙◌, arith, Option, Some}
use Rattle.std.proofs.Common.{◌&&◌, ◌||◌}
use Rattle.std.proofs.lemmas.Bool.Decides.{nat_tests}
use Rattle.paxos_packets.specs.Ballot.{below}
use Rattle.paxos_packets.specs.declared.ballot.Ballot.{Ballot}

-- a is below b
pub record Lt (a b : Ballot) : Type 0 where
  pub is : (a.round < b.round) ⊎ ((a.round ≡ b.round) × (a.node < b.node))

-- a is not above b
pub record Le (a b : Ballot) : Type 0 where
  pub is : (a.round < b.round) ⊎ ((a.round ≡ b.round) × (a.node ≤ b.node))

lt_true : (m n i j : ℕ) → (ltb m n || (eqb m n && ltb i j)) ≡ true → (m < n) ⊎ ((m ≡ n) × (i < j))
lt_true m n i j e = grind (arith, nat_tests)

lt_false : (m n i j : ℕ) → (ltb m n || (eqb m n && ltb i j)) ≡ false → (n < m) ⊎ ((n ≡ m) × (j ≤ i))
lt_false m n i j e = grind (arith, nat_tests)

pub lt_from_test : (a b : Ballot) → below a b ≡ true → Lt a b
lt_from_test a b e = record { is = lt_true a.round b.round a.node b.node e }

pub le_from_test : (a b : Ballot) → below a b ≡ false → Le b a
le_from_test a b e = record { is = lt_false a.round b.round a.node b.node e }

pub lt_le : {a b : Ballot} → Lt a b → Le a b
lt_le {a} {b} h = record { is = go a.round b.round a.node b.node h.is }
  where
    go : (m n i j : ℕ) → (m < n) ⊎ ((m ≡ n) × (i < j)) → (m < n) ⊎ ((m ≡ n) × (i ≤ j))
    go m n i j e = grind arith

pub le_refl : (a : Ballot) → Le a a
le_refl a = record { is = inr (refl, omega arith) }

le_trans' : (m n o i j k : ℕ) → (m < n) ⊎ ((m ≡ n) × (i ≤ j)) → (n < o) ⊎ ((n ≡ o) × (j ≤ k)) → (m < o) ⊎ ((m ≡ o) × (i ≤ k))
le_trans' m n o i j k e f = grind arith

pub le_trans : {a b c : Ballot} → Le a b → Le b c → Le a c
le_trans {a} {b} {c} g h = record { is = le_trans' a.round b.round c.round a.node b.node c.node g.is h.is }

le_lt' : (m n o i j k : ℕ) → (m < n) ⊎ ((m ≡ n) × (i ≤ j)) → (n < o) ⊎ ((n ≡ o) × (j < k)) → (m < o) ⊎ ((m ≡ o) × (i < k))
le_lt' m n o i j k e f = grind arith

pub le_lt : {a b c : Ballot} → Le a b → Lt b c → Lt a c
le_lt {a} {b} {c} g h = record { is = le_lt' a.round b.round c.round a.node b.node c.node g.is h.is }

lt_le' : (m n o i j k : ℕ) → (m < n) ⊎ ((m ≡ n) × (i < j)) → (n < o) ⊎ ((n ≡ o) × (j ≤ k)) → (m < o) ⊎ ((m ≡ o) × (i < k))
lt_le' m n o i j k e f = grind arith

pub lt_le_trans : {a b c : Ballot} → Lt a b → Le b c → Lt a c
lt_le_trans {a} {b} {c} g h = record { is = lt_le' a.round b.round c.round a.node b.node c.node g.is h.is }

none' : (m n i j : ℕ) → (m < n) ⊎ ((m ≡ n) × (i < j)) → (n < m) ⊎ ((n ≡ m) × (j ≤ i)) → ⊥
none' m n i j e f = grind arith

pub lt_not_le : {a b : Ballot} → Lt a b → Le b a → ⊥
lt_not_le {a} {b} g h = none' a.round b.round a.node b.node g.is h.is

-- below, or equal, or above
order' : (m n i j : ℕ) → ((m < n) ⊎ ((m ≡ n) × (i < j))) ⊎ (((m ≡ n) × (i ≡ j)) ⊎ ((n < m) ⊎ ((n ≡ m) × (j < i))))
order' m n i j = grind arith

pub same_parts : (a b : Ballot) → a.round ≡ b.round → a.node ≡ b.node → a ≡ b
same_parts a b p q = λ i. record { round = p i; node = q i }

pub cases : (a b : Ballot) → Lt a b ⊎ ((a ≡ b) ⊎ Lt b a)
cases a b =
    ⊎_elim
    (λ e. inl (record { is = e }))
    (λ e. inr (⊎_elim (λ (f : (a.round ≡ b.round) × (a.node ≡ b.node)). inl (same_parts a b f.0 f.1)) (λ f. inr (record { is = f })) e))
    (order' a.round b.round a.node b.node)

pub le_cases : {a b : Ballot} → Le a b → Lt a b ⊎ (a ≡ b)
le_cases {a} {b} h = ⊎_elim (λ e. inl e) (λ e. ⊎_elim (λ f. inr f) (λ f. absurd (lt_not_le f h)) e) (cases a b)

-- induction over ballots
by_node : (P : Ballot → Type 0) → ((b : Ballot) → ((a : Ballot) → Lt a b → P a) → P b) → (r : ℕ) → ((a : Ballot) → a.round < r → P a)
    → (m : ℕ) (b : Ballot) → b.round ≡ r → b.node < m → P b
by_node P each r lower zero b e l = absurd (omega arith)
by_node P each r lower (suc m) b e l =
    each b
    (λ a h. ⊎_elim (λ (f : a.round < b.round). lower a (omega arith))
    (λ (f : (a.round ≡ b.round) × (a.node < b.node)). by_node P each r lower m a (f.0 ∙ e) (omega arith)) h.is)

by_round : (P : Ballot → Type 0) → ((b : Ballot) → ((a : Ballot) → Lt a b → P a) → P b) → (r : ℕ) (b : Ballot) → b.round < r → P b
by_round P each zero b l = absurd (omega arith)
by_round P each (suc r) b l = by_node P each b.round (λ a h. by_round P each r a (omega arith)) (suc b.node) b refl (omega arith)

pub ballot_induction : (P : Ballot → Type 0) → ((b : Ballot) → ((a : Ballot) → Lt a b → P a) → P b) → (b : Ballot) → P b
ballot_induction P each b = by_round P each (suc b.round) b (omega arith)

-- a promise of b or above
pub data Reaches : Option Ballot → Ballot → Type 0 where
  reach : {p b : Ballot} → Le b p → Reaches (Some p) b

-- a promise above b
pub data Over : Option Ballot → Ballot → Type 0 where
  over : {p b : Ballot} → Lt b p → Over (Some p) b

pub reach_over : {o : Option Ballot} {a b : Ballot} → Reaches o b → Lt a b → Over o a
reach_over (reach h) g = over (lt_le_trans g h)
