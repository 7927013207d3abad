-- The sets of members that an event changes: the first place is kept apart from the others.
use Rattle.std.specs.Prelude.{◌≡◌, Bool, suc, Option, Some, None, List, [], ◌∷◌}
use Rattle.paxos_learner.specs.declared.tallies.SlotBallot.{SlotBallot}
use Rattle.paxos_learner.specs.Tallies.{Table}

-- a table after its first place, for which there is always room
abbrev pub behind : Option (SlotBallot × List Bool) → Table → Table
behind None rest = record { heard = rest.heard; room = suc rest.room }
behind (Some first) rest = record { heard = first ∷ rest.heard; room = rest.room }

-- without a first place there are no others
abbrev pub IsBehind : Option (SlotBallot × List Bool) → Table → Type 0
IsBehind None rest = rest.heard ≡ []
IsBehind (Some first) rest = Unit {0}
