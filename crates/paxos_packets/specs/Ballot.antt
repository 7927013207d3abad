-- The order of ballots: proposal numbers of Lamport 2001, section 2.2.
use Rattle.std.proofs.Common.{◌≡◌, Bool, true, ◌&&◌, ◌||◌, eqb}
use Rattle.std.specs.Prelude.{◌==◌, nat_lt}
use Rattle.std.proofs.lemmas.Bool.{eqb-true, and_from}
use Rattle.paxos_packets.specs.Body.{numbers_joined, number_same}
use Rattle.paxos_packets.specs.declared.ballot.Ballot.{Ballot}

-- by round, then by node
abbrev pub below : Ballot → Ballot → Bool
below a b = nat_lt a.round b.round || ((a.round == b.round) && nat_lt a.node b.node)

abbrev pub same_ballot : Ballot → Ballot → Bool
same_ballot a b = (a.round == b.round) && (a.node == b.node)

-- the test is equality
pub ballot_same : (a : Ballot) → same_ballot a a ≡ true
ballot_same a = and_from _ _ (number_same a.round) (number_same a.node)

pub ballot_sound : (a b : Ballot) → same_ballot a b ≡ true → a ≡ b
ballot_sound a b h =
    let k = numbers_joined a.round b.round (eqb a.node b.node) h in
    let n = eqb-true a.node b.node k.1 in
    λ i. record { round = k.0 i; node = n i }
