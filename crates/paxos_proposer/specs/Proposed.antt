-- What an event proposes: the first proposal is kept apart from the others.
use Rattle.std.specs.Prelude.{◌≡◌, suc, Option, Some, None, [], ◌∷◌}
use Rattle.paxos_packets.specs.declared.vote.Vote.{Vote}
use Rattle.paxos_proposer.specs.Proposals.{KeptProposals}

-- proposals after the first one, for which there is always room
abbrev pub behind_first : {B : Type 0} → Option (Vote B) → KeptProposals B → KeptProposals B
behind_first None rest = record { votes = rest.votes; room = suc rest.room }
behind_first (Some first) rest = record { votes = first ∷ rest.votes; room = rest.room }

-- without a first one there are no others
abbrev pub AreBehindFirst : {B : Type 0} → Option (Vote B) → KeptProposals B → Type 0
AreBehindFirst None rest = rest.votes ≡ []
AreBehindFirst (Some first) rest = Unit {0}
