-- The order of ballots.
use Rattle.std.proofs.Common.{◌≡◌, ◌⊎◌, inl, inr, ⊎_elim, ℕ, true, false, ◌&&◌, ◌||◌, ltb, eqb, arith}
use Rattle.std.proofs.lemmas.Bool.Decides.{nat_tests}
use Rattle.paxos_packets.specs.Ballot.{below}
use Rattle.paxos_packets.specs.declared.ballot.Ballot.{Ballot}

none : (m i : ℕ) → (ltb m m || (eqb m m && ltb i i)) ≡ false
none m i = grind (arith, nat_tests)

along : (m n o i j k : ℕ) → (ltb m n || (eqb m n && ltb i j)) ≡ true → (ltb n o || (eqb n o && ltb j k)) ≡ true
    → (ltb m o || (eqb m o && ltb i k)) ≡ true
along m n o i j k e f = grind (arith, nat_tests)

either : (m n i j : ℕ) → ((ltb m n || (eqb m n && ltb i j)) ≡ true) ⊎ (((m ≡ n) × (i ≡ j)) ⊎ ((ltb n m || (eqb n m && ltb j i)) ≡ true))
either m n i j = grind (arith, nat_tests)

pub irreflexive : (a : Ballot) → below a a ≡ false
irreflexive a = none a.round a.node

pub transitive : (a b c : Ballot) → below a b ≡ true → below b c ≡ true → below a c ≡ true
transitive a b c e f = along a.round b.round c.round a.node b.node c.node e f

pub total : (a b : Ballot) → (below a b ≡ true) ⊎ ((a ≡ b) ⊎ (below b a ≡ true))
total a b =
    ⊎_elim inl
    (λ e. inr (⊎_elim (λ (f : (a.round ≡ b.round) × (a.node ≡ b.node)). inl (λ i. record { round = f.0 i; node = f.1 i })) inr e))
    (either a.round b.round a.node b.node)
