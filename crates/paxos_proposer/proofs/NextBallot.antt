-- The ballot of a proposer that saw its member's promise.
use Rattle.std.proofs.Common.{◌≡◌, ℕ, suc, ◌≤◌, max, not, Option, ap, arith}
use Rattle.std.specs.Prelude.{nat_lt}
use Rattle.paxos_packets.specs.declared.ballot.Ballot.{Ballot}
use Rattle.paxos_proposer.specs.Proposer.{round_end, round_of, new_ballot, own_ballot, rounds_spent, is_spent}
use Rattle.paxos_proposer.specs.Role.{ProposerState}

same_round : (a b : ℕ) → b ≤ a → max a b ≡ a
same_round a b h = omega arith

pub next_ballot : {B : Type 0} (me : ℕ) (promise : Option Ballot) (p : ProposerState B) → round_of promise ≤ p.seen
    → new_ballot me promise p ≡ own_ballot me p
next_ballot me promise p h = ap (λ (round : ℕ). record { round = suc round; node = me }) (same_round p.seen (round_of promise) h)

pub next_spent : {B : Type 0} (me : ℕ) (promise : Option Ballot) (p : ProposerState B) → round_of promise ≤ p.seen
    → rounds_spent me promise p ≡ is_spent p
next_spent me promise p h = ap (λ (round : ℕ). not (nat_lt (suc round) round_end)) (same_round p.seen (round_of promise) h)
